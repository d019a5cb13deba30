-- Each answer of the judgement is the page's, but for the index buffer, which is judged last. The starts are the numbers of four codes.
use mathlib.Core.Path.{ap, sym, ◌∙◌}
use Prim.Native.Nat.{ℕ}
use mathlib.Core.List.{List}
use native.Mathlib.Omega.{arith}
use lib.ListN.{length, replicate, length-replicate}
use lib.Seq.{paste}
use Rattle.trace.specs.TraceReading.{told_listing}
use Rattle.summary.specs.NotingLaws.{starts_tallied}
use Rattle.summary.specs.PassLaws.{pass_read}
use Rattle.index.specs.Index.{entry_count}
use Rattle.summary.specs.PageLaws.{page_refused, page_short, page_read}
use borrow.Author.Rules.{rules}
use Rattle.summary.proofs.page.make_page.Goals as goal

pub returns-then-index-needed : goal.returns-then-index-needed
returns-then-index-needed c = page_short _ _ _ _ (pass_read c.tally_trace-judged.ensures c.in-Ok.is).reads (omega arith) c.refuse-then-index-needed.ensures

pub slice_bounds-copy_entries-end : goal.slice_bounds-copy_entries-end
slice_bounds-copy_entries-end c = sym ((pass_read c.tally_trace-judged.ensures c.in-Ok.is).room ∙ length-replicate {A = ℕ} 256 0)

pub copy_entries-requires : goal.copy_entries-requires
copy_entries-requires c = let p = pass_read c.tally_trace-judged.ensures c.in-Ok.is in
    (search rules, omega (arith, p.short, p.room, length-replicate {A = ℕ} 256 0))

pub overflow_cast-cycles : goal.overflow_cast-cycles
overflow_cast-cycles c = omega (arith, (pass_read c.tally_trace-judged.ensures c.in-Ok.is).short)

pub overflow_add-starts : goal.overflow_add-starts
overflow_add-starts c = omega (arith, (pass_read c.tally_trace-judged.ensures c.in-Ok.is).small)

pub overflow_add-starts-in-Ok : goal.overflow_add-starts-in-Ok
overflow_add-starts-in-Ok c = omega (arith, (pass_read c.tally_trace-judged.ensures c.in-Ok.is).small)

pub overflow_add-starts-in-Ok-2 : goal.overflow_add-starts-in-Ok-2
overflow_add-starts-in-Ok-2 c = omega (arith, (pass_read c.tally_trace-judged.ensures c.in-Ok.is).small)

pub returns-in-Err : goal.returns-in-Err
returns-in-Err c = page_refused _ _ _ _ _ (sym c.tally_trace-judged.ensures.0 ∙ ap told_listing c.in-Err.is) c.refuse.ensures

pub returns-else-index-needed : goal.returns-else-index-needed
returns-else-index-needed c = let p = pass_read c.tally_trace-judged.ensures c.in-Ok.is in
    let a = c.args in
    page_read _ _ _ _ p.reads (replicate 256 0) (omega arith) (omega (arith, p.short, length-replicate {A = ℕ} 256 0))
    (rw (c.in-Ok.is, c.rate_of.ensures, starts_tallied _ p.tally.count, ← p.tally.count, ← p.tally.first, ← p.tally.last))
    (c.copy_entries.ensures ∙ ap (λ (l : List ℕ). paste a.index.now 0 l (entry_count (length a.trace.now))) p.index)
