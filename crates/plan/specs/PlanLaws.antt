-- Laws of what a packet is taken for: at rest for a command word, C set for none; ignored input whatever it holds; a NOP is always legal.
use Rattle.std.specs.Prelude.{ℕ, ◌≡◌, refl, true, false}
use Rattle.laws.specs.TestLaws.{by_test}
use Rattle.command.specs.declared.Command.{Command}
use Rattle.command.specs.declared.Command.TheVariants.{Nop}
use Rattle.command.specs.Command.{decoded, decoded_word, operand_words}
use Rattle.board.specs.declared.Operands.{Operands}
use Rattle.board.specs.declared.Phase.TheVariants.{Rest, Due, Waiting, Upper}
use Rattle.board.specs.declared.Standing.{Standing}
use Rattle.plan.specs.declared.Plan.TheVariants.{Reject, Work}
use Rattle.plan.specs.Plan.{carries_c, legal_word, no_operands, work_after, collected, begun, continued, plan_of}

-- "Every packet accepted at rest is a command word taken": legal, with all its operand words due; else illegal
module _ (s : Standing) (w word : ℕ) where
  pub legal_word_at_rest : legal_word word s ≡ true → plan_of Rest s w word ≡ collected w (operand_words (decoded word)) (decoded word) no_operands
  unfolding begun
  legal_word_at_rest e = rw e

  pub illegal_word_at_rest : legal_word word s ≡ false → plan_of Rest s w word ≡ Reject
  unfolding begun
  illegal_word_at_rest e = rw e

  -- "C set, at rest or while an operand is due: illegal, the command is dropped"
  pub c_at_rest_is_illegal : carries_c word ≡ true → plan_of Rest s w word ≡ Reject
  unfolding begun
  c_at_rest_is_illegal e = rw e

  pub c_on_operand_drops : (c : Command) (left : ℕ) (t : Operands) → carries_c word ≡ true → plan_of (Due c left t) s w word ≡ Reject
  unfolding continued
  c_on_operand_drops c left t e = rw e

  -- "Where input is ignored, C is too.": another word, C or no C, halted or running, is taken for the same
  pub waiting_ignores_input : (c : Command) (left address value : ℕ) (other : ℕ) (r : Standing)
      → plan_of (Waiting c left address value) s w word ≡ plan_of (Waiting c left address value) r w other
  waiting_ignores_input c left address value other r = refl

  pub upper_ignores_input : (low : ℕ) (other : ℕ) (r : Standing) → plan_of (Upper low) s w word ≡ plan_of (Upper low) r w other
  upper_ignores_input low other r = refl

-- a NOP is legal whatever the chain and whether the processor runs, and works at once
pub nop_plan : (s : Standing) (w : ℕ) → plan_of Rest s w 0 ≡ Work Nop 0 0
unfolding begun collected work_after decoded decoded_word
nop_plan s w = by_test s.halted (λ e. rw e) (λ e. rw e)
