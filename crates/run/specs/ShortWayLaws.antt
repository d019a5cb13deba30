-- Laws of the short ways: each is the step of the packet.
use Rattle.std.specs.Prelude.{ℕ, ◌-◌, ◌≤◌, ◌≡◌, true, ◌&&◌, List, leb}
use Rattle.std.proofs.Common.{arith, eqb-true, leb-true, ne_eqb}
use Rattle.std.proofs.lemmas.Bool.{lt-leb}
use Rattle.laws.specs.TestLaws.{both_hold}
use Rattle.command.specs.declared.Command.{Command}
use Rattle.board.specs.declared.Board.{Board}
use Rattle.board.specs.declared.Place.{Place}
use Rattle.board.specs.declared.Operands.{Operands}
use Rattle.board.specs.declared.Phase.{Phase}
use Rattle.board.specs.declared.Phase.TheVariants.{Rest, Due, Waiting, Upper}
use Rattle.board.specs.State.{state_of, standing_of}
use Rattle.plan.specs.declared.Plan.TheVariants.{Hold}
use Rattle.plan.specs.Plan.{continued, collected, with_operand}
use Rattle.plan.specs.PlanLaws.{nop_plan}
use Rattle.step.specs.Step.{plan_for, stepped}
use Rattle.run.specs.RunMirror.{has_short_way, short_way}

pub short_operand : (left word : ℕ) → (leb 2 left && leb word 0xFFFF) ≡ true → (2 ≤ left) × (word ≤ 0xFFFF)
short_operand left word e = let both = both_hold (leb 2 left) (leb word 0xFFFF) e in (leb-true 2 left both.0, leb-true word 0xFFFF both.1)

-- more than one word is due, so one is due still
operand_plan : (c : Command) (left : ℕ) (taken : Operands) (w word : ℕ) → (leb 2 left && leb word 0xFFFF) ≡ true
    → continued c left taken w word ≡ Hold (Due c (left - 1) (with_operand taken word))
unfolding continued collected
operand_plan c left taken w word e =
    let both = short_operand left word e in rw (lt-leb 0x10000 word (omega (arith, both.1)), ne_eqb (left - 1) 0 (omega (arith, both.0)))

pub short_way_step : (phase : Phase) (b : Board) (p : Place) (m : List ℕ) (word : ℕ) → p.phase ≡ phase → has_short_way phase word ≡ true
    → state_of b (short_way phase p word) m ≡ stepped (state_of b p m) word
unfolding plan_for stepped
short_way_step Rest b p m word at e = rw (at, eqb-true word 0 e, nop_plan (standing_of b p) b.w)
short_way_step (Due c left taken) b p m word at e = rw (at, operand_plan c left taken b.w word e)
short_way_step (Waiting c left address value) b p m word at e = cc
short_way_step (Upper low) b p m word at e = rw at
