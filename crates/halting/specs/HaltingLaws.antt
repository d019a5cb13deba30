-- Laws of HALT ([6] of 02): when it halts the processor, and when it halts nothing, both ways round.
use Rattle.std.specs.Prelude.{◌≡◌, refl, Bool, true, false, ◌⊎◌, None, Option, Some}
use Rattle.halting.specs.declared.Privilege.{Privilege}
use Rattle.std.proofs.Common.{inl, inr}
use Rattle.halting.specs.declared.Privilege.TheVariants.{User, Supervisor}
use Rattle.halting.specs.declared.Halting.TheVariants.{NoHalt, Ignored}
use Rattle.halting.specs.Halting.{halting, halts_itself}

-- "In supervisor mode, or in user mode with CSR[UHE] set, it halts the processor"
pub supervisor_halts : (uhe : Bool) → halts_itself (halting (Some Supervisor) uhe) ≡ true
unfolding halting
supervisor_halts uhe = refl

pub user_halts : halts_itself (halting (Some User) true) ≡ true
unfolding halting
user_halts = refl

-- and nothing else does
pub halts_only : (m : Option Privilege) (uhe : Bool) → halts_itself (halting m uhe) ≡ true → (m ≡ Some Supervisor) ⊎ ((m ≡ Some User) × (uhe ≡ true))
unfolding halting
halts_only None uhe e = inl cc
halts_only (Some Supervisor) uhe e = inl refl
halts_only (Some User) true e = inr (refl, refl)
halts_only (Some User) false e = inl cc

-- "In user mode with UHE clear it halts nothing and the answer says so"
pub user_is_ignored : halting (Some User) false ≡ Ignored
unfolding halting
user_is_ignored = refl

pub ignored_only : (m : Option Privilege) (uhe : Bool) → halting m uhe ≡ Ignored → (m ≡ Some User) × (uhe ≡ false)
unfolding halting
ignored_only None uhe e = (cc, cc)
ignored_only (Some Supervisor) uhe e = (cc, cc)
ignored_only (Some User) true e = (cc, cc)
ignored_only (Some User) false e = (refl, refl)

-- without a mark nothing is said of it
pub none_without_mark : (m : Option Privilege) (uhe : Bool) → halting m uhe ≡ NoHalt → m ≡ None
unfolding halting
none_without_mark None uhe e = refl
none_without_mark (Some Supervisor) uhe e = cc
none_without_mark (Some User) true e = cc
none_without_mark (Some User) false e = cc
