-- Laws: what a packet is taken for holds only what is within range and width.
use Rattle.std.specs.Prelude.{ℕ, ◌-◌, ◌^◌, ◌≤◌, ◌<◌, ◌≡◌, refl, Bool, true, false, cond, ◌||◌, eqb}
use Rattle.std.proofs.Common.{arith, leb-false}
use Rattle.std.proofs.lemmas.Bool.{eqb-false}
use Rattle.command.specs.declared.Command.{Command}
use Rattle.command.specs.Command.{decoded, operand_words, waits}
use Rattle.board.specs.declared.Operands.{Operands}
use Rattle.board.specs.declared.Phase.{Phase}
use Rattle.board.specs.declared.Phase.TheVariants.{Rest, Due, Waiting, Upper}
use Rattle.board.specs.declared.Standing.{Standing}
use Rattle.plan.specs.declared.Plan.{Plan}
use Rattle.plan.specs.declared.Plan.TheVariants.{Hold, Reject, Release, Work}
use Rattle.plan.specs.Plan.{carries_c, legal_word, no_operands, with_operand, address_in, value_in, long, waits_of, work_after, collected, begun}
use Rattle.plan.specs.Plan.{continued, plan_of}
use Rattle.laws.specs.TestLaws.{either}
use Rattle.sound.specs.Sound.{OperandsWithin, PhaseWithin}

-- ---- the plan
abbrev pub PlanWithin : ℕ → Plan → Type 0
PlanWithin w (Hold phase) = PhaseWithin w phase
PlanWithin w Reject = Unit {0}
PlanWithin w (Release low) = low < 2 ^ 16
PlanWithin w (Work c address value) = (address < 2 ^ 32) × (value < 2 ^ 32)

none_within : OperandsWithin no_operands
none_within = record { oldest = omega arith; older = omega arith; newer = omega arith; newest = omega arith }

more_within : (t : Operands) (word : ℕ) → OperandsWithin t → word < 2 ^ 16 → OperandsWithin (with_operand t word)
more_within t word h f = record { oldest = h.older; older = h.newer; newer = h.newest; newest = f }

address_within : (n : ℕ) (t : Operands) → OperandsWithin t → address_in n t < 2 ^ 32
address_within n t h =
    either (λ x. x < 2 ^ 32) (eqb n 4) (long t.oldest t.older) (cond (eqb n 3) (long t.older t.newer) (long t.newer t.newest))
    (λ e. omega (arith, h.oldest, h.older))
    (λ e. either (λ x. x < 2 ^ 32) (eqb n 3) (long t.older t.newer) (long t.newer t.newest) (λ f. omega (arith, h.older, h.newer))
    (λ f. omega (arith, h.newer, h.newest)))

value_in_within : (n : ℕ) (t : Operands) → OperandsWithin t → value_in n t < 2 ^ 32
value_in_within n t h =
    either (λ x. x < 2 ^ 32) (eqb n 1 || eqb n 3) t.newest (long t.newer t.newest) (λ e. omega (arith, h.newest))
    (λ e. omega (arith, h.newer, h.newest))

not_zero : (x : ℕ) → eqb x 0 ≡ false → 1 ≤ x
not_zero x t = let h : x ≡ 0 → ⊥ = eqb-false x 0 t in omega arith

work_after_within : (w left : ℕ) (c : Command) (a d : ℕ) → left ≤ waits_of w c → a < 2 ^ 32 → d < 2 ^ 32 → PlanWithin w (work_after left c a d)
unfolding work_after
work_after_within w left c a d h f g =
    either (PlanWithin w) (eqb left 0) (Work c a d) (Hold (Waiting c left a d)) (λ e. (f, g)) (λ e. waiting (waits c) refl (not_zero left e) h)
  where
    waiting : (t : Bool) → waits c ≡ t → 1 ≤ left → left ≤ cond t w 0 → (1 ≤ left) × (left ≤ w) × (waits c ≡ true) × (a < 2 ^ 32) × (d < 2 ^ 32)
    waiting true e o l = (o, l, e, f, g)
    waiting false e o l = absurd (omega arith)

collected_within : (w left : ℕ) (c : Command) (t : Operands) → left ≤ operand_words c → OperandsWithin t → PlanWithin w (collected w left c t)
unfolding collected
collected_within w left c t h o =
    either (PlanWithin w) (eqb left 0) (work_after (waits_of w c) c (address_in (operand_words c) t) (value_in (operand_words c) t)) (Hold (Due c left t))
    (λ e. work_after_within w (waits_of w c) c (address_in (operand_words c) t) (value_in (operand_words c) t) (omega arith)
    (address_within (operand_words c) t o)
    (value_in_within (operand_words c) t o))
    (λ e. (not_zero left e, h, o))

begun_within : (s : Standing) (w word : ℕ) → PlanWithin w (begun s w word)
unfolding begun
begun_within s w word =
    either (PlanWithin w) (legal_word word s) (collected w (operand_words (decoded word)) (decoded word) no_operands) Reject
    (λ e. collected_within w (operand_words (decoded word)) (decoded word) no_operands (omega arith) none_within)
    (λ e. tt)

continued_within : (c : Command) (left : ℕ) (t : Operands) (w word : ℕ) → left ≤ operand_words c → OperandsWithin t → PlanWithin w (continued c left t w word)
unfolding continued
continued_within c left t w word h o =
    either (PlanWithin w) (carries_c word) Reject (collected w (left - 1) c (with_operand t word)) (λ e. tt)
    (λ e. let small : word < 0x10000 = leb-false 0x10000 word e in
    collected_within w (left - 1) c (with_operand t word) (omega arith) (more_within t word o small))

pub plan_within : (phase : Phase) (s : Standing) (w word : ℕ) → PhaseWithin w phase → PlanWithin w (plan_of phase s w word)
plan_within Rest s w word h = begun_within s w word
plan_within (Due c left t) s w word h = continued_within c left t w word h.1 h.2
plan_within (Waiting c left a d) s w word h = work_after_within w (left - 1) c a d (rw h.2 (omega (arith, h.1))) h.3 h.4
plan_within (Upper low) s w word h = h
