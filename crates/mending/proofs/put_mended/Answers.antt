use mathlib.Core.Path.{◌≡◌, refl, ap, ◌∙◌}
use native.Mathlib.Omega.{arith}
use borrow.Author.Rules.{rules}
use lib.ListN.{length}
use Rattle.laws.specs.StoreLaws.{length_stored}
use Rattle.mending.specs.declared.Kept.{Kept}
use Rattle.mending.specs.Mending.{found, mended_pst, retold, changes_before}
use Rattle.mending.specs.MendingLaws.{due_next, left_of, mended_at_most}
use Rattle.mending.specs.MendingStoreLaws.{changes_counted, change_fits, mended_more, changes_more}
use Rattle.mending.proofs.put_mended.Goals as goal

pub loop-i-init : goal.loop-i-init
unfolding found retold changes_before
loop-i-init c = (refl, refl, refl, refl)

pub overflow_mul-bytes : goal.overflow_mul-bytes
overflow_mul-bytes c = let w = c.loop-i in
    let trace = c.args.trace.now in
    let left = left_of trace w.i w.invariant.0 c.requires.changes_fit.1 (ap (λ (k : Kept). k.pst) c.judge_cycle-stays.ensures) c.leave_pst-left.ensures in
    omega (arith, c.type_inv.trace w.i, mended_at_most trace w.i)

pub overflow_add-bytes : goal.overflow_add-bytes
overflow_add-bytes c = let w = c.loop-i in
    let trace = c.args.trace.now in
    let left = left_of trace w.i w.invariant.0 c.requires.changes_fit.1 (ap (λ (k : Kept). k.pst) c.judge_cycle-stays.ensures) c.leave_pst-left.ensures in
    omega (arith, c.type_inv.trace w.i, mended_at_most trace w.i)

pub bounds-bytes-i : goal.bounds-bytes-i
bounds-bytes-i c = let w = c.loop-i in
    let a = c.args in
    omega (arith, length_stored a.bytes.now (retold (mended_pst a.trace.now) a.trace.now w.i) 0 w.invariant.2)

pub put_change-at-requires : goal.put_change-at-requires
put_change-at-requires c = let w = c.loop-i in
    let a = c.args in
    let trace = a.trace.now in
    let left = left_of trace w.i w.invariant.0 c.requires.changes_fit.1 (ap (λ (k : Kept). k.pst) c.judge_cycle-stays.ensures) c.leave_pst-left.ensures in
    (search rules, rw (left, w.invariant.1) (omega (arith, change_fits trace w.i (search rules), length_stored a.list.now (changes_before trace w.i) 0 w.invariant.3)))

pub loop-i-preserved : goal.loop-i-preserved
loop-i-preserved c = let w = c.loop-i in
    let a = c.args in
    let trace = a.trace.now in
    let keeps = ap (λ (k : Kept). k.pst) c.judge_cycle-stays.ensures in
    let left = left_of trace w.i w.invariant.0 c.requires.changes_fit.1 keeps c.leave_pst-left.ensures in
    let p = c.put_change-at.ensures in (
      ap (λ (k : Kept). k.due) c.judge_cycle-stays.ensures ∙ due_next trace w.i w.invariant.0 refl,
      rw (left, w.invariant.1) at p.place ∙ changes_counted trace w.i,
      rw (left, w.invariant.2) (mended_more (mended_pst trace) trace a.bytes.now w.i),
      rw (left, w.invariant.1, w.invariant.3) at p.stored ∙ changes_more trace a.list.now w.i,
    )

pub shape_of-bytes : goal.shape_of-bytes
shape_of-bytes c = let w = c.loop-i in
    let a = c.args in
    length_stored a.bytes.now (retold (mended_pst a.trace.now) a.trace.now w.i) 0 w.invariant.2

pub shape_of-list : goal.shape_of-list
shape_of-list c = let w = c.loop-i in
    let a = c.args in
    length_stored a.list.now (changes_before a.trace.now w.i) 0 w.invariant.3

pub returns : goal.returns
returns c = let w = c.loop-i in
    let end : w.i ≡ length c.args.trace.now = omega arith in
    record { mends = rw end at w.invariant.2; lists = rw end at w.invariant.3 }
