use mathlib.Core.Path.{◌≡◌, refl, ap, sym, ◌∙◌}
use Prim.Native.Nat.{ℕ, ◌+◌}
use native.Mathlib.Omega.{arith}
use lib.ListN.{length}
use Rattle.cycle.specs.Cycle.{pst}
use Rattle.mending.specs.declared.Kept.{Kept}
use Rattle.mending.specs.Mending.{found, latest_marker, cut_short}
use Rattle.mending.specs.MendingMirror.{wiped_before}
use Rattle.mending.specs.MendingLaws.{due_next, latest_next, cut_none, cut_latest, cut_announced}
use Rattle.mending.specs.MendingCountLaws.{wipes_once, wiped_next, wiped_at_most, changes_whole, changes_cut}
use Rattle.mending.proofs.survey_trace.Goals as goal

pub loop-i-init : goal.loop-i-init
unfolding found wiped_before latest_marker
loop-i-init c = (refl, refl, refl)

pub overflow_add-changed : goal.overflow_add-changed
overflow_add-changed c = let w = c.loop-i in
    let trace = c.args.trace.now in
    omega (arith, wiped_at_most trace w.i, c.count_wiped-changed.ensures, wipes_once (pst trace w.i) c.judge_cycle-kept.result.pst)

pub loop-i-preserved : goal.loop-i-preserved
loop-i-preserved c = let w = c.loop-i in
    let trace = c.args.trace.now in
    let keeps = ap (λ (k : Kept). k.pst) c.judge_cycle-kept.ensures in (
      ap (λ (k : Kept). k.due) c.judge_cycle-kept.ensures ∙ due_next trace w.i w.invariant.0 refl,
      rw (w.invariant.1, c.count_wiped-changed.ensures, keeps, w.invariant.0) (wiped_next trace w.i),
      rw (c.latest_of-latest.ensures, keeps, w.invariant.0, w.invariant.2) (latest_next trace w.i),
    )

pub returns-then-due-eq0 : goal.returns-then-due-eq0
returns-then-due-eq0 c = let w = c.loop-i in
    let trace = c.args.trace.now in
    let end : w.i ≡ length trace = omega arith in
    let done : (found trace (length trace)).due ≡ 0 = rw (w.invariant.0, end) at c.if-due-eq0.true in
    record {
      changed = rw end at w.invariant.1 ∙ sym (changes_whole trace done);
      cut = sym (cut_none trace done);
      within = λ n e. cc;
    }

pub overflow_add-result : goal.overflow_add-result
overflow_add-result c = omega (arith, wiped_at_most c.args.trace.now c.loop-i.i)

pub returns : goal.returns
returns c = let w = c.loop-i in
    let trace = c.args.trace.now in
    let end : w.i ≡ length trace = omega arith in
    let due : (found trace (length trace)).due ≡ 0 → ⊥ = λ e. c.if-due-eq0.false (rw (w.invariant.0, end) e) in
    let cut : w.latest ≡ cut_short trace = rw end at w.invariant.2 ∙ sym (cut_latest trace due) in
    record {
      changed = rw end at (ap (λ (n : ℕ). n + 1) w.invariant.1) ∙ sym (changes_cut trace due);
      cut = cut;
      within = λ n e. let same : w.latest ≡ n = cc in omega (arith, same, cut, (cut_announced trace due).before);
    }
