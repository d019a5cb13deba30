-- Packets (01): "its closing reply is the last reply these rules give for it". It is defined from the command word, its operands with
-- their C, halted and the chain where they are judged, and the board, pointer and memory its work finds; never from the next reply
-- that is held, nor from the phase.
use Rattle.std.specs.Prelude.{ℕ, zero, suc, ◌/◌, ◌%◌, Bool, true, false, ◌||◌, List, [], ◌∷◌, eqb, length}
use Rattle.command.specs.Command.{decoded, operand_words}
use Rattle.command.specs.Reply.{complete, not_ready, bus_error, illegal}
use Rattle.board.specs.declared.Board.{Board}
use Rattle.board.specs.declared.Standing.{Standing}
use Rattle.work.specs.declared.Ending.{Ending}
use Rattle.work.specs.declared.Ending.TheVariants.{Complete, Failed, OneWord, TwoWords}
use Rattle.access.specs.Access.{access_of}
use Rattle.work.specs.Work.{ending_of}
use Rattle.plan.specs.Plan.{carries_c, legal_word, long, waits_of}

-- a command word that was taken
pub record Word : Type 0 where
  -- its packet, C and all
  pub packet : ℕ
  -- "halted and the chain as they stand where these rules judge them"
  pub standing : Standing
  -- its operand packets so far, in the order sent, C and all
  pub operands : List ℕ
  -- how many packets it has waited, and how many have carried out its upper result word
  pub waited : ℕ
  pub shown : ℕ
  -- what its work finds: what the last packet found that was the word itself, its operand or one that it waited
  pub board : Board
  pub pointer : ℕ
  pub memory : List ℕ

-- what the rules have still to give for a word
pub data Stage : Type 0 where
  -- an operand is due: "the reply is 0x10000"
  operand_due : Stage
  -- it waits: "each replying 0x10000"
  wait_due : Stage
  -- "Of two result words the upper comes first"
  upper_due : ℕ → Stage
  -- its closing reply, and nothing after it
  closed : ℕ → Stage

abbrev pub any_c : List ℕ → Bool
any_c [] = false
any_c (d ∷ ds) = carries_c d || any_c ds

-- "Addresses .. go upper word first": the first two operand words. FILL alone has one, its data: no address
abbrev pub address_sent : List ℕ → ℕ
address_sent [] = 0
address_sent (only ∷ []) = 0
address_sent (upper ∷ low ∷ ds) = long upper low

-- what its work ends in
abbrev pub ending_found : Word → Ending
ending_found o =
    ending_of (decoded o.packet) o.board (address_sent o.operands) (access_of (decoded o.packet) o.memory o.pointer (address_sent o.operands))

-- "its last result word, complete or bus error"; the upper of two has left before it
abbrev pub ended : ℕ → Ending → Stage
ended shown Complete = closed complete
ended shown Failed = closed bus_error
ended shown (OneWord v) = closed v
ended zero (TwoWords v) = upper_due (v / 65536)
ended (suc n) (TwoWords v) = closed (v % 65536)

-- "0x1FFFF if it is illegal or dropped": judged legal, an operand with C, all operands there, all packets waited
abbrev pub stage_by : Bool → Bool → Bool → Bool → Stage → Stage
stage_by false dropped there waited end = closed illegal
stage_by true true there waited end = closed illegal
stage_by true false false waited end = operand_due
stage_by true false true false end = wait_due
stage_by true false true true end = end

unfoldable pub stage : Word → Stage
stage o =
    stage_by (legal_word o.packet o.standing) (any_c o.operands) (eqb (length o.operands) (operand_words (decoded o.packet)))
    (eqb o.waited (waits_of o.board.w (decoded o.packet)))
    (ended o.shown (ending_found o))

pub data Closing : Type 0 where
  not_yet : Closing
  reply : ℕ → Closing

abbrev pub closing_at : Stage → Closing
closing_at operand_due = not_yet
closing_at wait_due = not_yet
closing_at (upper_due upper) = not_yet
closing_at (closed last) = reply last

-- the closing reply of a word: not yet while operands, waits or the upper result word are still to come
abbrev pub closing : Word → Closing
closing o = closing_at (stage o)

-- the reply that the rules give next for a word
abbrev pub reply_at : Stage → ℕ
reply_at operand_due = not_ready
reply_at wait_due = not_ready
reply_at (upper_due upper) = upper
reply_at (closed last) = last

abbrev pub is_closed : Stage → Bool
is_closed operand_due = false
is_closed wait_due = false
is_closed (upper_due upper) = false
is_closed (closed last) = true
