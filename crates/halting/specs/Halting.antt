-- [6] Programs that halt themselves: what becomes of an event's HALT.
use Rattle.std.specs.Prelude.{Bool, true, false, cond, None, Option, Some}
use Rattle.halting.specs.declared.Privilege.{Privilege}
use Rattle.halting.specs.declared.Privilege.TheVariants.{User, Supervisor}
use Rattle.halting.specs.declared.Halting.{Halting}
use Rattle.halting.specs.declared.Halting.TheVariants.{NoHalt, Halts, Ignored}

-- "In supervisor mode, or in user mode with CSR[UHE] set"
abbrev pub allowed : Privilege → Bool → Bool
allowed Supervisor uhe = true
allowed User uhe = uhe

-- ".. it halts the processor"; else "it halts nothing"
abbrev pub halt_at : Privilege → Bool → Halting
halt_at privilege uhe = cond (allowed privilege uhe) Halts Ignored

-- "An event gains a mark for HALT and the privilege it ran at"; "a mark absent means what 01 says today"
unfoldable pub halting : Option Privilege → Bool → Halting
halting None uhe = NoHalt
halting (Some privilege) uhe = halt_at privilege uhe

abbrev pub halts_itself : Halting → Bool
halts_itself NoHalt = false
halts_itself Halts = true
halts_itself Ignored = false
