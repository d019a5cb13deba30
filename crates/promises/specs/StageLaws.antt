-- Demand 3, closing replies: the stage of a command word whose operands, waits or upper result word are still to come.
use Rattle.std.specs.Prelude.{ℕ, ◌+◌, ◌≤◌, ◌≡◌, true, length}
use Rattle.std.proofs.Math.Bool.{false}
use Rattle.std.proofs.Math.Dec.{eqb}
use Rattle.std.proofs.Common.{arith, eq-eqb, ne_eqb}
use Rattle.std.proofs.lemmas.Bool.{eqb-false}
use Rattle.command.specs.declared.Command.{Command}
use Rattle.command.specs.Command.{decoded, operand_words}
use Rattle.board.specs.declared.Operands.{Operands}
use Rattle.access.specs.Access.{access_of}
use Rattle.work.specs.Work.{ending_of}
use Rattle.plan.specs.Plan.{legal_word, no_operands, address_in, waits_of}
use Rattle.promises.specs.TakenWords.{Word, any_c, ending_found, ended, stage}
use Rattle.promises.specs.TakenWords.Stage.{operand_due, wait_due}
use Rattle.promises.specs.Environment.{shows_upper}
use Rattle.promises.specs.OperandLaws.{held, ending_sent}

pub not_none : (n : ℕ) → eqb n 0 ≡ false → 1 ≤ n
not_none n e = omega (arith, eqb-false n 0 e)

-- a legal word with so many operands still due, none with C
pub record Open (w : ℕ) (c : Command) (left : ℕ) (t : Operands) (o : Word) : Type 0 where
  pub same : decoded o.packet ≡ c
  pub judged : legal_word o.packet o.standing ≡ true
  pub clear : any_c o.operands ≡ false
  pub kept : held no_operands o.operands ≡ t
  pub count : length o.operands + left ≡ operand_words c
  pub unshown : o.shown ≡ 0
  pub setting : o.board.w ≡ w

module _ (w : ℕ) (c : Command) (o : Word) where
  pub stage_due : (left : ℕ) (t : Operands) → Open w c left t o → 1 ≤ left → stage o ≡ operand_due
  unfolding stage
  stage_due left t h l =
      let short : eqb (length o.operands) (operand_words (decoded o.packet)) ≡ false =
      rw h.same (ne_eqb (length o.operands) (operand_words c) (omega (arith, h.count))) in
      rw (h.judged, h.clear, short)

  module _ (t : Operands) (h : Open w c 0 t o) where
    all_there : length o.operands ≡ operand_words c
    all_there = omega (arith, h.count)

    there : eqb (length o.operands) (operand_words (decoded o.packet)) ≡ true
    there = rw h.same (eq-eqb _ _ all_there)

    pub stage_waiting : (left : ℕ) → o.waited + left ≡ waits_of w c → 1 ≤ left → stage o ≡ wait_due
    unfolding stage
    stage_waiting left e l =
        let short : eqb o.waited (waits_of o.board.w (decoded o.packet)) ≡ false =
        rw (h.same, h.setting) (ne_eqb o.waited (waits_of w c) (omega arith)) in
        rw (h.judged, h.clear, there, short)

    -- the waits are over: what the work finds decides
    module _ (e : o.waited ≡ waits_of w c) where
      waited : eqb o.waited (waits_of o.board.w (decoded o.packet)) ≡ true
      waited = rw (h.same, h.setting) (eq-eqb _ _ e)

      pub stage_ended : stage o ≡ ended 0 (ending_found o)
      unfolding stage
      stage_ended = rw (h.judged, h.clear, there, waited, h.unshown)

      pub stage_shown : stage (shows_upper o) ≡ ended 1 (ending_found o)
      unfolding stage
      stage_shown = rw (h.judged, h.clear, there, waited, h.unshown)

    pub ending_held : ending_found o ≡ ending_of c o.board (address_in (operand_words c) t) (access_of c o.memory o.pointer (address_in (operand_words c) t))
    ending_held = cc (ending_sent c o.board o.memory o.pointer o.operands all_there)
