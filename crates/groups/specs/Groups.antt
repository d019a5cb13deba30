-- Events and firing (01): the groups of a level, and how T joins them.
use Rattle.std.specs.Prelude.{ℕ, ◌/◌, ◌%◌, ◌^◌, Bool, false, cond, not, ◌&&◌, ◌||◌, eqb, leb, None, Option, Some}
use Rattle.comparators.specs.declared.BusAccess.{BusAccess}
use Rattle.board.specs.declared.Debug.{Debug}
use Rattle.comparators.specs.declared.Level.{Level}
use Rattle.comparators.specs.Masks.{agree, turned}
use Rattle.comparators.specs.Comparators.{data_holds}
use Rattle.groups.specs.declared.Group.{Group}

-- "PC: EPC is set and the bits of PC and PBR where PBMR is 0 agree; PCI turns the comparison round."
unfoldable pub pc_group : Level → Debug → ℕ → Group
pc_group level d pc = record { enabled = level.epc; holds = turned level.pci (agree d.pbmr pc d.pbr) }

-- "ABLR to ABHR inclusive"
abbrev pub inside : Debug → ℕ → Bool
inside d address = leb d.ablr address && leb address d.abhr

-- "at least one of EAL (equals ABLR), EAR (ABLR to ABHR inclusive), EAI (not in that range) is set and holds"
unfoldable pub address_matches : Level → Debug → ℕ → Bool
address_matches level d address = level.eal && eqb address d.ablr || level.ear && inside d address || level.eai && not (inside d address)

-- "the attribute bits agree where AATR's upper byte has 0"
unfoldable pub attribute_agrees : Debug → ℕ → Bool
attribute_agrees d attribute = agree (d.aatr / 2 ^ 8) attribute (d.aatr % 2 ^ 8)

-- the address group with its data; an event without an access has no address that could hold
abbrev pub address_holds : Level → Debug → Option BusAccess → Bool
address_holds level d None = false
address_holds level d (Some access) = address_matches level d access.address && attribute_agrees d access.attribute && data_holds level d access

unfoldable pub address_group : Level → Debug → Option BusAccess → Group
address_group level d bus = record { enabled = level.eal || level.ear || level.eai; holds = address_holds level d bus }

-- "T=0: all enabled groups (PC; address with data) hold. T=1: at least one. No group enabled: never."
unfoldable pub joined : Bool → Group → Group → Bool
joined t pc address =
    cond t (pc.enabled && pc.holds || address.enabled && address.holds)
    ((pc.enabled || address.enabled) && (not pc.enabled || pc.holds) && (not address.enabled || address.holds))
