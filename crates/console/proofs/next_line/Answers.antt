use mathlib.Core.Path.{refl}
use native.Mathlib.Omega.{arith}
use lib.ListN.{length-take}
use Rattle.console.specs.LineReading.{unread_of, most_reads}
use Rattle.console.specs.LineReadingLaws.{first_goes_on, next_goes_on, first_ends, next_ends, nothing_came, budget_ends, held_before, unread_within, unread_later, taken_within, drop_take}
use Rattle.console.proofs.next_line.Goals as goal

pub overflow_add-result : goal.overflow_add-result
overflow_add-result c = omega (
  arith,
  taken_within c.args.source.now c.min-at.result
      c.min-end.result
      c.cut_line-first.ensures,
  c.min-end.ensures,
  c.min-at.ensures,
)

pub returns-then-first : goal.returns-then-first
returns-then-first c = let start = c.args in
    let end = c.min-end in
    let at = c.min-at in
    let cut = c.cut_line-first in
    rw (unread_later start.source.now at.result end.result cut.result.taken) at (first_ends cut.auto.line cut.ensures start.source.now end.result (unread_of start.source.now start.unread.at start.unread.end)
    (unread_within start.source.now start.unread.at start.unread.end at.result end.result end.ensures at.ensures) c.if-first.true)

pub loop-init : goal.loop-init
unfolding most_reads
loop-init c = (omega arith, first_goes_on c.cut_line-first.auto.line c.cut_line-first.ensures _ (omega arith) c.if-first.false)

pub slice_bounds-cut_line-end-in-loop-2 : goal.slice_bounds-cut_line-end-in-loop-2
slice_bounds-cut_line-end-in-loop-2 c = simp length-take (omega (arith, c.refill-got.ensures))

pub returns-then-part : goal.returns-then-part
returns-then-part c = let start = c.args in
    let first = c.cut_line-first in
    let here = c.loop in
    rw (drop_take _ _ _) at (held_before first.result.held start.line.now (omega (arith, here.invariant.0, c.cut_line-part.ensures.more)) first.ensures.rest (next_ends here.invariant.1
    c.cut_line-part.auto.line c.cut_line-part.ensures start.source.now c.refill-got.new.source
    c.refill-got.result (unread_of start.source.now start.unread.at start.unread.end)
    (unread_within start.source.now start.unread.at start.unread.end c.min-at.result
    c.min-end.result
    c.min-end.ensures
    c.min-at.ensures) refl c.if-part.true))

pub returns-then-part-2 : goal.returns-then-part-2
returns-then-part-2 c = let start = c.args in
    let first = c.cut_line-first in
    let here = c.loop in
    held_before first.result.held start.line.now (omega (arith, here.invariant.0, c.cut_line-part.ensures.more)) first.ensures.rest (nothing_came here.invariant.1
    c.cut_line-part.auto.line c.cut_line-part.ensures (unread_of start.source.now start.unread.at start.unread.end)
    (unread_within start.source.now start.unread.at start.unread.end
    c.min-at.result
    c.min-end.result
    c.min-end.ensures
    c.min-at.ensures) c.if-part.false c.if-part-2.true)

pub loop-preserved : goal.loop-preserved
loop-preserved c = let here = c.loop in
    let cut = c.cut_line-part in (
      omega (arith, here.invariant.0, cut.ensures.more),
      next_goes_on here.invariant.1 cut.auto.line cut.ensures _ (omega arith) (omega arith) c.if-part.false c.if-part-2.false,
    )

pub returns : goal.returns
returns c = let start = c.args in
    let first = c.cut_line-first in
    held_before first.result.held start.line.now (omega (arith, c.loop.invariant.0)) first.ensures.rest (budget_ends (unread_of start.source.now start.unread.at start.unread.end)
    (unread_within start.source.now start.unread.at start.unread.end c.min-at.result
    c.min-end.result c.min-end.ensures
    c.min-at.ensures) (omega arith) c.loop.invariant.1)
