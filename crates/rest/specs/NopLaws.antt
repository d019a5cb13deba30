-- Coming to rest: a NOP takes one off what is to go, at rest or not, whatever it finds.
use Rattle.std.specs.Prelude.{ℕ, ◌+◌, ◌-◌, ◌≤◌, ◌≡◌}
use Rattle.std.proofs.Common.{zero-le, arith}
use Rattle.board.specs.declared.Phase.{Phase}
use Rattle.board.specs.declared.Phase.TheVariants.{Rest, Due, Waiting, Upper}
use Rattle.board.specs.declared.Standing.{Standing}
use Rattle.board.specs.State.{State, standing_of}
use Rattle.plan.specs.Plan.{work_after, waits_of, continued, plan_of}
use Rattle.plan.specs.PlanLaws.{nop_plan}
use Rattle.step.specs.Step.{plan_for, word_taken, stepped}
use Rattle.sound.specs.Sound.{PhaseWithin}
use Rattle.rest.specs.ToGoLaws.{uppers, to_go, PlanLeaves, leaves_more, place_leaves, work_after_leaves, continued_leaves}

nop_leaves : (w : ℕ) (phase : Phase) (s : Standing) → PhaseWithin w phase → PlanLeaves w (to_go w phase - 1) (plan_of phase s w 0)
nop_leaves w Rest s h = rw (nop_plan s w) zero-le
nop_leaves w (Due c left t) s h =
    leaves_more w (left - 1 + waits_of w c + uppers c) (left + waits_of w c + uppers c - 1) (continued c left t w 0) (omega (arith, h.0))
    (continued_leaves c left t w 0)
nop_leaves w (Waiting c left address value) s h =
    leaves_more w (left - 1 + uppers c) (left + uppers c - 1) (work_after (left - 1) c address value) (omega (arith, h.0))
    (work_after_leaves w (left - 1) c address value)
nop_leaves w (Upper low) s h = tt

pub nop_takes_one_off : (w : ℕ) (s : State) → s.board.w ≡ w → PhaseWithin w s.place.phase
    → to_go w (stepped s 0).place.phase ≤ to_go w s.place.phase - 1
unfolding stepped plan_for
nop_takes_one_off w s e h =
    place_leaves w (to_go w s.place.phase - 1) (plan_of s.place.phase (standing_of s.board s.place) s.board.w 0) (word_taken s 0)
    (rw e (nop_leaves w s.place.phase (standing_of s.board s.place) h))
