-- [4] Which address wasn't there: what a packet's word and a command's work leave of the number that the board keeps.
use Rattle.std.specs.Prelude.{ℕ, Bool, cond, eqb, None, Option, Some}
use Rattle.access.specs.declared.Access.{Access}
use Rattle.access.specs.declared.Access.TheVariants.{NoAccess, Fetched, Stored, Missing}
use Rattle.work.specs.declared.Ending.{Ending}
use Rattle.work.specs.declared.Ending.TheVariants.{Complete, Failed, OneWord, TwoWords}
use Rattle.plan.specs.Plan.{Input}
use Rattle.plan.specs.Plan.Input.{command_word, operand, ignored}

-- NOP is the word 0x0000 (01's table)
abbrev pub is_nop : ℕ → Bool
is_nop word = eqb word 0x0000

-- kept "until the next command word other than NOP", be it legal or not
abbrev pub fault_taken : Input → ℕ → Option ℕ → Option ℕ
fault_taken command_word word f = cond (is_nop word) f None
fault_taken operand word f = f
fault_taken ignored word f = f

-- at a bus error: "all commands that use it keep that number"; "A control-register error keeps none"
abbrev pub fault_of : Access → Option ℕ → Option ℕ
fault_of NoAccess f = f
fault_of (Fetched s v past) f = f
fault_of (Stored past) f = f
fault_of (Missing first) f = Some first

abbrev pub fault_after : Ending → Access → Option ℕ → Option ℕ
fault_after Complete _ f = f
fault_after Failed access f = fault_of access f
fault_after (OneWord v) _ f = f
fault_after (TwoWords v) _ f = f
