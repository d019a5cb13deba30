-- The code's table of command words (02, [8]): how a line of it is read.
use Rattle.std.specs.Prelude.{◌≡◌, ℕ, ◌/◌, ◌%◌, ◌^◌, Bool, cond, ◌&&◌, eqb}
use Rattle.memory.specs.declared.Size.{Size}
use Rattle.memory.specs.declared.Size.TheVariants.{Byte, Word, Long}
use Rattle.command.specs.declared.DebugRegister.{DebugRegister}
use Rattle.command.specs.declared.DebugRegister.TheVariants.{Csr, Baar, Aatr, Tdr, Pbr, Pbmr, Abhr, Ablr, Dbr, Dbmr}
use Rattle.command.specs.declared.Command.{Command}
use Rattle.command.specs.declared.Command.TheVariants.{Unknown, Nop}
use Rattle.command.specs.declared.lines.Counts.{Counts}
use Rattle.command.specs.Command.{sync_pc, operand_words, result_words}

-- a line's digits from the right: three of result words, three of operand words, one of sizes, four of numbers
abbrev pub operand_digits : ℕ → ℕ
operand_digits line = line / 0x1000

abbrev pub size_digit : ℕ → ℕ
size_digit line = line / 0x1000000

abbrev pub number_digits : ℕ → ℕ
number_digits line = line / 0x10000000

-- a set of numbers as the bits of one
abbrev pub among : ℕ → ℕ → Bool
among set k = eqb (set / 2 ^ k % 2) 1

-- a lower byte: a size in bits 7 and 6, two zeros, a number in bits 3 to 0
abbrev pub takes : ℕ → ℕ → Bool
takes line lower = eqb (lower / 16 % 4) 0 && (among (size_digit line) (lower / 64) && among (number_digits line) (lower % 16))

abbrev pub allowed : ℕ → ℕ → Command → Command
allowed line lower c = cond (takes line lower) c Unknown

-- a record, so that the line is read off a proof of it
pub record Allows (line lower : ℕ) (c r : Command) : Type 0 where
  pub answer : r ≡ allowed line lower c

abbrev pub size_in : ℕ → Size
size_in lower = cond (eqb (lower / 64) 0) Byte (cond (eqb (lower / 64) 1) Word Long)

-- the last of them for any number that WDMREG does not take
abbrev pub debug_at : ℕ → DebugRegister
debug_at n =
    cond (eqb n 0x00) Csr
    (cond (eqb n 0x05) Baar
    (cond (eqb n 0x06) Aatr
    (cond (eqb n 0x07) Tdr
    (cond (eqb n 0x08) Pbr (cond (eqb n 0x09) Pbmr (cond (eqb n 0x0C) Abhr (cond (eqb n 0x0D) Ablr (cond (eqb n 0x0E) Dbr Dbmr))))))))

abbrev pub nop_or_sync : ℕ → Command
nop_or_sync n = cond (eqb n 0) Nop sync_pc

-- the last three digits: for a byte, a word and a longword
abbrev pub words_for : ℕ → Size → ℕ
words_for digits Byte = digits / 256 % 16
words_for digits Word = digits / 16 % 16
words_for digits Long = digits % 16

abbrev pub counts_in : ℕ → Size → Counts
counts_in line size = record { operands = words_for (operand_digits line) size; results = words_for line size }

abbrev pub counts_of : Command → Counts
counts_of c = record { operands = operand_words c; results = result_words c }
