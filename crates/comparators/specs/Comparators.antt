-- Events and firing (01, amended by [1] of 02): the data comparators, and when the data of a level holds.
use Rattle.std.specs.Prelude.{ℕ, ◌-◌, Bool, not, ◌&&◌, ◌||◌}
use Rattle.std.specs.Int.Bits.{bit_or}
use Rattle.board.specs.declared.Debug.{Debug}
use Rattle.comparators.specs.declared.BusAccess.{BusAccess}
use Rattle.comparators.specs.declared.Level.{Level}
use Rattle.comparators.specs.Masks.{agree, turned}
use Rattle.comparators.specs.Lanes.{carries_all}

-- "EDLW D[31:0], EDWL [15:0], EDWU [31:16], EDLL [7:0], EDLM [15:8], EDUM [23:16], EDUU [31:24]"
pub data Ed : Type 0 where
  EDLW : Ed
  EDWL : Ed
  EDWU : Ed
  EDLL : Ed
  EDLM : Ed
  EDUM : Ed
  EDUU : Ed

abbrev pub lanes_of : Ed → ℕ
lanes_of EDLW = 0xFFFFFFFF
lanes_of EDWL = 0x0000FFFF
lanes_of EDWU = 0xFFFF0000
lanes_of EDLL = 0x000000FF
lanes_of EDLM = 0x0000FF00
lanes_of EDUM = 0x00FF0000
lanes_of EDUU = 0xFF000000

-- "agrees with DBR on its lanes where DBMR is 0": the other lanes are masked too
abbrev pub data_agrees : ℕ → Debug → ℕ → Bool
data_agrees lanes d word = agree (bit_or d.dbmr (0xFFFFFFFF - lanes)) word d.dbr

-- [1] of 02: "a comparator counts only if the access carries all its lanes; otherwise it neither agrees nor, with DI, disagrees"
-- one that counts agrees, "or, with DI, instead .. does not"
unfoldable pub comparator : ℕ → Bool → Debug → BusAccess → Bool
comparator lanes di d access = carries_all lanes access && turned di (data_agrees lanes d access.lanes)

-- "some set ED comparator" of which something holds
unfoldable pub some_set : Level → (Ed → Bool) → Bool
some_set level holds =
    level.edlw && holds EDLW
    || level.edwl && holds EDWL
    || level.edwu && holds EDWU
    || level.edll && holds EDLL
    || level.edlm && holds EDLM
    || level.edum && holds EDUM
    || level.eduu && holds EDUU

abbrev pub some_comparator : Level → Bool → Debug → BusAccess → Bool
some_comparator level di d access = some_set level (λ (c : Ed). comparator (lanes_of c) di d access)

unfoldable pub data_enabled : Level → Bool
data_enabled level = level.edlw || level.edwl || level.edwu || level.edll || level.edlm || level.edum || level.eduu

-- "With no ED set, data is left out."; [1] of 02: "If every set comparator drops out, the data condition fails."
abbrev pub data_holds : Level → Debug → BusAccess → Bool
data_holds level d access = not (data_enabled level) || some_comparator level level.di d access
