-- [4] Laws of the step: the number that the board keeps changes neither the place nor memory, and a NOP leaves it.
use Rattle.std.specs.Prelude.{ℕ, ◌≡◌, refl, None, Option}
use Rattle.std.proofs.Common.{sym, ◌∙◌}
use Rattle.std.proofs.Math.Path.{ap}
use Rattle.board.specs.declared.Phase.{Phase}
use Rattle.board.specs.declared.Phase.TheVariants.{Rest, Due, Waiting, Upper}
use Rattle.board.specs.Setters.{with_fault}
use Rattle.board.specs.State.{State, state_of}
use Rattle.access.specs.Access.{access_of}
use Rattle.work.specs.FaultApartLaws.{same_ending, same_work}
use Rattle.plan.specs.declared.Plan.{Plan}
use Rattle.plan.specs.declared.Plan.TheVariants.{Hold, Reject, Release, Work}
use Rattle.plan.specs.Plan.{Input, taken_for}
use Rattle.plan.specs.Plan.Input.{command_word, operand, ignored}
use Rattle.faults.specs.Fault.{is_nop, fault_taken}
use Rattle.step.specs.Step.{left, plan_for, word_taken, stepped}
use Rattle.laws.specs.TestLaws.{by_test}

-- a state with another number
abbrev pub faulted : State → Option ℕ → State
faulted s f = state_of (with_fault s.board f) s.place s.memory

module _ (plan : Plan) (s : State) (f : Option ℕ) where
  pub same_place : (left plan (faulted s f)).place ≡ (left plan s).place
  same_place = by plan
    where
      by : (p : Plan) → (left p (faulted s f)).place ≡ (left p s).place
      by (Hold phase) = refl
      by Reject = refl
      by (Release low) = refl
      by (Work c address value) = rw (same_ending s.board f c address (access_of c s.memory s.place.pointer address))

  pub same_memory : (left plan (faulted s f)).memory ≡ (left plan s).memory
  same_memory = by plan
    where
      by : (p : Plan) → (left p (faulted s f)).memory ≡ (left p s).memory
      by (Hold phase) = refl
      by Reject = refl
      by (Release low) = refl
      by (Work c address value) = refl

  -- and of the board nothing but itself
  pub same_board : (g : Option ℕ) → with_fault (left plan (faulted s f)).board g ≡ with_fault (left plan s).board g
  same_board g = by plan
    where
      by : (p : Plan) → with_fault (left p (faulted s f)).board g ≡ with_fault (left p s).board g
      by (Hold phase) = refl
      by Reject = refl
      by (Release low) = refl
      by (Work c address value) = rw (same_work s.board f c address value)

module _ (s : State) (word : ℕ) where
  -- a packet's step is that of its plan on what it finds
  pub step_place : (stepped s word).place ≡ (left (plan_for s.board s.place word) s).place
  unfolding stepped
  step_place = same_place (plan_for s.board s.place word) s (word_taken s word).board.fault

  pub step_memory : (stepped s word).memory ≡ (left (plan_for s.board s.place word) s).memory
  unfolding stepped
  step_memory = same_memory (plan_for s.board s.place word) s (word_taken s word).board.fault

  -- where none is kept none is cleared
  pub none_cleared : s.board.fault ≡ None → s ≡ word_taken s word
  none_cleared e = ap (faulted s) (e ∙ sym (by (taken_for s.place.phase)) ∙ ap (fault_taken (taken_for s.place.phase) word) (sym e))
    where
      by : (input : Input) → fault_taken input word None ≡ None
      by command_word = by_test (is_nop word) (λ t. rw t) (λ t. rw t)
      by operand = refl
      by ignored = refl

  pub step_of_none : s.board.fault ≡ None → stepped s word ≡ left (plan_for s.board s.place word) s
  unfolding stepped
  step_of_none e = ap (left (plan_for s.board s.place word)) (sym (none_cleared e))

-- "other than NOP": whatever a NOP is taken for
pub nop_keeps : (phase : Phase) (f : Option ℕ) → fault_taken (taken_for phase) 0 f ≡ f
nop_keeps Rest f = refl
nop_keeps (Due c left t) f = refl
nop_keeps (Waiting c left address value) f = refl
nop_keeps (Upper low) f = refl

pub nop_step : (s : State) → stepped s 0 ≡ left (plan_for s.board s.place 0) s
unfolding stepped
nop_step s = ap (λ f. left (plan_for s.board s.place 0) (faulted s f)) (nop_keeps s.place.phase s.board.fault)
