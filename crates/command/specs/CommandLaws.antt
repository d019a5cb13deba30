-- Laws of the table: how many words a command has.
use Rattle.std.specs.Prelude.{◌+◌, ◌-◌, ◌≤◌, ◌≡◌, refl}
use Rattle.std.proofs.Common.{arith}
use Rattle.memory.specs.declared.Size.{Size}
use Rattle.memory.specs.declared.Size.TheVariants.{Byte, Word, Long}
use Rattle.command.specs.declared.Command.{Command}
use Rattle.command.specs.declared.Command.TheVariants.{Unknown, Nop, Load, Store, Show, Change}
use Rattle.command.specs.declared.Base.TheVariants.{Address, Pointer}
use Rattle.command.specs.declared.Source.TheVariants as source
use Rattle.command.specs.declared.Target.TheVariants as target
use Rattle.command.specs.Command.{fill, size_words, operand_words, result_words}

pub size_words_bound : (size : Size) → size_words size ≤ 2
size_words_bound Byte = omega arith
size_words_bound Word = omega arith
size_words_bound Long = omega arith

-- the operand words and the packet that carries out an upper result word: WRITE long and WCREG have four operands and no result words,
-- READ long and RCREG two of each
pub four_at_most : (c : Command) → operand_words c + (result_words c - 1) ≤ 4
four_at_most Unknown = omega arith
four_at_most Nop = omega arith
four_at_most (Load s Address) = omega (arith, size_words_bound s)
four_at_most (Load s Pointer) = omega (arith, size_words_bound s)
four_at_most (Store s Address) = omega (arith, size_words_bound s)
four_at_most (Store s Pointer) = omega (arith, size_words_bound s)
four_at_most (Show (source.General n)) = omega arith
four_at_most (Show source.Control) = omega arith
four_at_most (Show source.Csr) = omega arith
four_at_most (Change (target.General n)) = omega arith
four_at_most (Change target.Control) = omega arith
four_at_most (Change (target.Debug r)) = omega arith
four_at_most (Change target.Run) = omega arith
four_at_most (Change target.Sync) = omega arith

-- only FILL, of a byte or a word, has one operand word
pub only_fill_has_one : (c : Command) → operand_words c ≡ 1 → (s : Size) × (c ≡ fill s)
only_fill_has_one Unknown h = absurd (omega arith)
only_fill_has_one Nop h = absurd (omega arith)
only_fill_has_one (Load s Address) h = absurd (omega arith)
only_fill_has_one (Load s Pointer) h = absurd (omega arith)
only_fill_has_one (Store s Address) h = absurd (omega arith)
only_fill_has_one (Store s Pointer) h = (s, refl)
only_fill_has_one (Show (source.General n)) h = absurd (omega arith)
only_fill_has_one (Show source.Control) h = absurd (omega arith)
only_fill_has_one (Show source.Csr) h = absurd (omega arith)
only_fill_has_one (Change (target.General n)) h = absurd (omega arith)
only_fill_has_one (Change target.Control) h = absurd (omega arith)
only_fill_has_one (Change (target.Debug r)) h = absurd (omega arith)
only_fill_has_one (Change target.Run) h = absurd (omega arith)
only_fill_has_one (Change target.Sync) h = absurd (omega arith)
