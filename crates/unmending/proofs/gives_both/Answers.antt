use Rattle.std.specs.Prelude.{Result}
use Rattle.grounds.specs.declared.Ground.{Ground}
use mathlib.Core.Path.{◌≡◌, sym, ◌∙◌}
use mathlib.Core.List.{List}
use Prim.Native.Nat.{ℕ, ◌≤◌}
use native.Mathlib.Omega.{arith}
use lib.ListN.{length, replicate, length-replicate}
use lib.Seq.{length-take-le}
use Rattle.mending.specs.MendingAnswer.{MendingMeets}
use Rattle.mending.specs.MendingAnswerLaws.{MendedInto, mended_into}
use Rattle.mending.specs.MendingStoreLaws.{changes_at_most}
use Rattle.unmending.specs.UnmendingLaws.{changed_count, both_compared}
use Rattle.unmending.proofs.gives_both.Goals as goal

-- 65,536 places are enough
into : {recorded bytes words : List ℕ} {r : Result ℕ Ground} → MendingMeets recorded (replicate 65536 0) (replicate 65536 0) r bytes words
    → length recorded ≤ 65536 → MendedInto recorded r bytes words
into met short = let room = length-replicate {A = ℕ} 65536 0 in mended_into met short (omega (arith, room)) (omega (arith, room))

pub slice_bounds-words-end : goal.slice_bounds-words-end
slice_bounds-words-end c = let m = into c.mend_trace.ensures c.requires in
    let recorded = c.args.recorded.now in
    omega (arith, changed_count m c.in-Ok.is, changes_at_most recorded (length recorded), length-replicate {A = ℕ} 65536 0)

pub slice_bounds-is_same-end-then-is_same : goal.slice_bounds-is_same-end-then-is_same
slice_bounds-is_same-end-then-is_same c = let m = into c.mend_trace.ensures c.requires in
    let recorded = c.args.recorded.now in
    sym (length-take-le _ _ (omega (arith, changed_count m c.in-Ok.is, changes_at_most recorded (length recorded), length-replicate {A = ℕ} 65536 0)))

pub returns-in-Err : goal.returns-in-Err
returns-in-Err c = let m = into c.mend_trace.ensures c.requires in
    let z : ◌≡◌ {A = ℕ} 0 1 = cc (m.answer, c.in-Err.is) in
    absurd (omega arith)

pub returns-then-is_same : goal.returns-then-is_same
returns-then-is_same c = let a = c.args in
    let compared = both_compared a.trace.now a.list.now (into c.mend_trace.ensures c.requires) c.in-Ok.is in
    c.is_same-then-is_same.ensures ∙ rw (sym c.is_same.ensures ∙ c.if-is_same.true) at compared

pub returns-else-is_same : goal.returns-else-is_same
returns-else-is_same c = let a = c.args in
    let compared = both_compared a.trace.now a.list.now (into c.mend_trace.ensures c.requires) c.in-Ok.is in
    c.if-is_same.false ∙ rw (sym c.is_same.ensures ∙ c.if-is_same.false) at compared
