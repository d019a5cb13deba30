-- Packets (01): what a packet's input is taken for. A command word, an operand, or nothing where input is ignored.
use Rattle.std.specs.Prelude.{ℕ, ◌+◌, ◌*◌, ◌-◌, Bool, cond, ◌&&◌, ◌||◌, not, eqb, leb}
use Rattle.command.specs.declared.Command.{Command}
use Rattle.command.specs.Command.{decoded, operand_words, waits}
use Rattle.board.specs.declared.Operands.{Operands}
use Rattle.board.specs.declared.Phase.{Phase}
use Rattle.board.specs.declared.Phase.TheVariants.{Rest, Due, Waiting, Upper}
use Rattle.board.specs.declared.Standing.{Standing}
use Rattle.plan.specs.declared.Plan.{Plan}
use Rattle.plan.specs.declared.Plan.TheVariants.{Hold, Reject, Release, Work}
use Rattle.legality.specs.Legality.{legal_command}

-- what a packet's input is taken for
pub data Input : Type 0 where
  command_word : Input
  operand : Input
  ignored : Input

-- "Every packet accepted at rest is a command word taken"; an operand while one is due; else the input is ignored
abbrev pub taken_for : Phase → Input
taken_for Rest = command_word
taken_for (Due c left t) = operand
taken_for (Waiting c left address value) = ignored
taken_for (Upper low) = ignored

-- "A packet has 17 bits: C (bit 16) and 16 data bits."
abbrev pub carries_c : ℕ → Bool
carries_c word = leb 0x10000 word

-- "C set, at rest or while an operand is due: illegal"; "Halted is judged when the command word is taken"
abbrev pub legal_word : ℕ → Standing → Bool
legal_word word s = not (carries_c word) && legal_command (decoded word) s

-- "Addresses and longwords go upper word first."
abbrev pub long : ℕ → ℕ → ℕ
long upper low = upper * 65536 + low

abbrev pub no_operands : Operands
no_operands = record { oldest = 0; older = 0; newer = 0; newest = 0 }

abbrev pub with_operand : Operands → ℕ → Operands
with_operand t word = record { oldest = t.older; older = t.newer; newer = t.newest; newest = word }

-- the address among a command's n operand words: the first two
abbrev pub address_in : ℕ → Operands → ℕ
address_in n t = cond (eqb n 4) (long t.oldest t.older) (cond (eqb n 3) (long t.older t.newer) (long t.newer t.newest))

-- the data: the last word of one or three, the last two of two or four
abbrev pub value_in : ℕ → Operands → ℕ
value_in n t = cond (eqb n 1 || eqb n 3) t.newest (long t.newer t.newest)

-- "wait W packets, .. then the work is done"
unfoldable pub work_after : ℕ → Command → ℕ → ℕ → Plan
work_after left c address value = cond (eqb left 0) (Work c address value) (Hold (Waiting c left address value))

-- "memory and control-register commands wait W packets"; "Others act when their last word is taken"
abbrev pub waits_of : ℕ → Command → ℕ
waits_of w c = cond (waits c) w 0

-- with so many operand words still due
unfoldable pub collected : ℕ → ℕ → Command → Operands → Plan
collected w left c t =
    cond (eqb left 0) (work_after (waits_of w c) c (address_in (operand_words c) t) (value_in (operand_words c) t)) (Hold (Due c left t))

-- "Every packet accepted at rest is a command word taken"
unfoldable pub begun : Standing → ℕ → ℕ → Plan
begun s w word = cond (legal_word word s) (collected w (operand_words (decoded word)) (decoded word) no_operands) Reject

-- an operand is taken; "C set .. while an operand is due: illegal, the command is dropped"
unfoldable pub continued : Command → ℕ → Operands → ℕ → ℕ → Plan
continued c left t w word = cond (carries_c word) Reject (collected w (left - 1) c (with_operand t word))

-- "each replying 0x10000 and ignoring its input"; "the packet that carries it out has its input ignored"
abbrev pub plan_of : Phase → Standing → ℕ → ℕ → Plan
plan_of Rest s w word = begun s w word
plan_of (Due c left t) s w word = continued c left t w word
plan_of (Waiting c left address value) s w word = work_after (left - 1) c address value
plan_of (Upper low) s w word = Release low
