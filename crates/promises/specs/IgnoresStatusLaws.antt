-- Demand 3: what a NOP is taken for does not turn on the status, nor does the work that it does. Only RDMREG's work reads the status, and
-- that command has neither operands nor waits, so no NOP does it.
use Rattle.std.specs.Prelude.{ℕ, ◌+◌, ◌-◌, ◌≤◌, ◌≡◌, refl, cond, eqb}
use Rattle.std.proofs.Common.{sym, ◌∙◌, arith}
use Rattle.command.specs.declared.Command.{Command}
use Rattle.command.specs.Command.{rdmreg, operand_words, waits}
use Rattle.board.specs.declared.Operands.{Operands}
use Rattle.board.specs.declared.Phase.{Phase}
use Rattle.board.specs.declared.Phase.TheVariants.{Rest, Due, Waiting, Upper}
use Rattle.board.specs.declared.Standing.{Standing}
use Rattle.plan.specs.declared.Plan.{Plan}
use Rattle.plan.specs.declared.Plan.TheVariants.{Hold, Reject, Release, Work}
use Rattle.plan.specs.Plan.{carries_c, address_in, value_in, with_operand, work_after, waits_of, collected, continued, plan_of}
use Rattle.plan.specs.PlanLaws.{nop_plan}
use Rattle.sound.specs.Sound.{PhaseWithin}
use Rattle.laws.specs.TestLaws.{either}

-- a command whose work does not read the status: any but RDMREG
abbrev pub IgnoresStatus : Command → Type 0
IgnoresStatus c = c ≡ rdmreg → ⊥

-- one with operands or waits
ignores_status : (c : Command) → 1 ≤ operand_words c + cond (waits c) 1 0 → IgnoresStatus c
ignores_status c h e = let none : 1 ≤ operand_words rdmreg + cond (waits rdmreg) 1 0 = rw e at h in omega arith

abbrev pub PlanIgnoresStatus : Plan → Type 0
PlanIgnoresStatus (Hold phase) = Unit {0}
PlanIgnoresStatus Reject = Unit {0}
PlanIgnoresStatus (Release low) = Unit {0}
PlanIgnoresStatus (Work c address value) = IgnoresStatus c

work_after_ignores_status : (left : ℕ) (c : Command) (address value : ℕ) → IgnoresStatus c → PlanIgnoresStatus (work_after left c address value)
unfolding work_after
work_after_ignores_status left c address value h =
    either PlanIgnoresStatus (eqb left 0) (Work c address value) (Hold (Waiting c left address value)) (λ e. h) (λ e. tt)

continued_ignores_status : (c : Command) (left : ℕ) (t : Operands) (w word : ℕ) → IgnoresStatus c → PlanIgnoresStatus (continued c left t w word)
unfolding continued collected
continued_ignores_status c left t w word h =
    either PlanIgnoresStatus (carries_c word) Reject (collected w (left - 1) c (with_operand t word)) (λ e. tt)
    (λ e. either PlanIgnoresStatus (eqb (left - 1) 0)
    (work_after (waits_of w c) c (address_in (operand_words c) (with_operand t word)) (value_in (operand_words c) (with_operand t word)))
    (Hold (Due c (left - 1) (with_operand t word)))
    (λ z. work_after_ignores_status (waits_of w c) c (address_in (operand_words c) (with_operand t word)) (value_in (operand_words c) (with_operand t word)) h)
    (λ z. tt))

pub nop_ignores_status : (w : ℕ) (phase : Phase) (s : Standing) → PhaseWithin w phase → PlanIgnoresStatus (plan_of phase s w 0)
nop_ignores_status w Rest s h = rw (nop_plan s w) (λ e. let z : ◌≡◌ {A = ℕ} 0 1 = cc in omega arith)
nop_ignores_status w (Due c left t) s h = continued_ignores_status c left t w 0 (ignores_status c (omega (arith, h.0, h.1)))
nop_ignores_status w (Waiting c left address value) s h = work_after_ignores_status (left - 1) c address value (ignores_status c (rw h.2 (omega arith)))
nop_ignores_status w (Upper low) s h = tt

-- a NOP is taken for the same, however it is judged
pub nop_however_judged : (w : ℕ) (phase : Phase) (s other : Standing) → plan_of phase s w 0 ≡ plan_of phase other w 0
nop_however_judged w Rest s other = nop_plan s w ∙ sym (nop_plan other w)
nop_however_judged w (Due c left t) s other = refl
nop_however_judged w (Waiting c left address value) s other = refl
nop_however_judged w (Upper low) s other = refl
