-- The copy's front is the trace, and what is put back there is what comes out where the list is the trace's.
use mathlib.Core.Path.{refl, ap, sym, ◌∙◌}
use mathlib.Core.Bool.{true, false}
use Prim.Native.Nat.{ℕ}
use native.Mathlib.Omega.{arith}
use lib.ListN.{length, drop, length-append, length-replicate}
use lib.Seq.{length-take-le}
use Rattle.unmending.specs.UnmendingLaws.{put_back_length, copied_front, back_length, back_front, its_list_judged, no_list_of_longer, unmending_meets}
use borrow.Author.Rules.{rules}
use Rattle.unmending.proofs.unmend_trace.Goals as goal

pub returns-then-n-gt65536 : goal.returns-then-n-gt65536
returns-then-n-gt65536 c = unmending_meets _ _ _ false (sym (no_list_of_longer _ _ (search rules))) refl

pub slice_bounds-put_text-end : goal.slice_bounds-put_text-end
slice_bounds-put_text-end c = sym (length-replicate {A = ℕ} 65536 0)

pub slice_bounds-put_back-end : goal.slice_bounds-put_back-end
slice_bounds-put_back-end c = sym (length-take-le _ _ (search rules))

pub slice_bounds-back-end-2 : goal.slice_bounds-back-end-2
slice_bounds-back-end-2 c = let a = c.args in
    let trace = a.trace.now in
    let front = copied_front c.put_text.ensures (omega (arith, length-replicate {A = ℕ} 65536 0)) in
    let put = rw front at c.put_back.ensures in
    omega (arith, length-append c.put_back.new.trace (drop (length trace) c.put_text.new.text), back_length trace a.list.now put)

pub slice_bounds-gives_both-end : goal.slice_bounds-gives_both-end
slice_bounds-gives_both-end c = let a = c.args in
    let trace = a.trace.now in
    let front = copied_front c.put_text.ensures (omega (arith, length-replicate {A = ℕ} 65536 0)) in
    let put = rw front at c.put_back.ensures in
    sym (ap length (back_front trace a.list.now _ put) ∙ put_back_length trace a.list.now)

pub gives_both-requires : goal.gives_both-requires
gives_both-requires c = let a = c.args in
    let trace = a.trace.now in
    let front = copied_front c.put_text.ensures (omega (arith, length-replicate {A = ℕ} 65536 0)) in
    let put = rw front at c.put_back.ensures in
    rw (back_front trace a.list.now _ put, put_back_length trace a.list.now) (search rules)

pub returns-then-gives_both : goal.returns-then-gives_both
returns-then-gives_both c = let a = c.args in
    let trace = a.trace.now in
    let front = copied_front c.put_text.ensures (omega (arith, length-replicate {A = ℕ} 65536 0)) in
    let put = rw front at c.put_back.ensures in
    let both = rw (back_front trace a.list.now _ put) at c.gives_both.ensures in
    unmending_meets trace a.list.now _ true (sym (its_list_judged trace a.list.now (search rules) ∙ sym both ∙ c.if-gives_both.true)) c.put_back-then-gives_both.ensures

pub returns : goal.returns
returns c = let a = c.args in
    let trace = a.trace.now in
    let front = copied_front c.put_text.ensures (omega (arith, length-replicate {A = ℕ} 65536 0)) in
    let put = rw front at c.put_back.ensures in
    let both = rw (back_front trace a.list.now _ put) at c.gives_both.ensures in
    unmending_meets trace a.list.now _ false (sym (its_list_judged trace a.list.now (search rules) ∙ sym both ∙ c.if-gives_both.false)) refl
