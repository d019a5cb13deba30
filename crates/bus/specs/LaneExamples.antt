-- What is computed of [1] of 02: the technician's case, and a byte that is on the lane.
use Rattle.std.specs.Prelude.{ℕ, ◌%◌, ◌<◌, ◌≡◌, true, false, List, [], ◌∷◌, eqb, leb, None, Some}
use Rattle.std.proofs.Common.{◌∙◌, arith}
use Rattle.std.proofs.Math.Bool.{and-false}
use Rattle.std.specs.Int.Bits.{bit_and}
use Rattle.std.proofs.lemmas.Nat.{and_le_r}
use Rattle.std.proofs.Math.Nat.{zero-div}
use Rattle.command.specs.declared.DebugRegister.TheVariants.{Aatr, Tdr, Ablr, Dbr, Dbmr}
use Rattle.board.specs.declared.Board.{Board}
use Rattle.board.specs.Board.{fresh_board, fresh_place}
use Rattle.board.specs.RegisterBits.{bit}
use Rattle.ranges.specs.Ranges.{in_range, bstat_in_range}
use Rattle.registers.specs.Registers.{debug_loaded, debug_written}
use Rattle.halting.specs.Halting.{halting}
use Rattle.trigger.specs.declared.Event.{Event}
use Rattle.comparators.specs.Masks.{agree}
use Rattle.comparators.specs.MaskLaws.{bits_then_agree}
use Rattle.comparators.specs.Lanes.{byte_lanes, carried_lanes, carries_all}
use Rattle.comparators.specs.LaneLaws.{and_bit}
use Rattle.comparators.specs.Comparators.{comparator, some_set, data_enabled}
use Rattle.groups.specs.Groups.{pc_group, address_matches, attribute_agrees, address_group, joined}
use Rattle.trigger.specs.Levels.{level_of}
use Rattle.trigger.specs.Fired.{fires, fired_level}
use Rattle.trigger.specs.LaneFiringLaws.{fired_before}
use Rattle.firing.specs.Firing.{bstat_after, responds, firing, seen}
use Rattle.bus.specs.EventAnswers.{told_event}
use Rattle.bus.specs.Events.{event_verdict, event_outcome}
use Rattle.bus.specs.EventExamples.{Setting, setting, after_settings, fired}

-- "A technician set a comparator on the lowest lane for zero": EDLL, and EAL for the address; 0xA5 in AATR is a byte read
abbrev pub technician : ℕ → List Setting
technician address = setting Dbr 0 ∷ setting Dbmr 0 ∷ setting Ablr address ∷ setting Aatr 0x00A5 ∷ setting Tdr 0x40002204 ∷ []

abbrev pub byte_read : ℕ → ℕ → ℕ → Event
byte_read pc address lanes = record { pc = pc; bus = Some (record { address = address; attribute = 0xA5; lanes = lanes }); mark = None }

abbrev board : ℕ → ℕ → Board
board w address = after_settings (technician address) (fresh_board w)

-- "a byte read at address 1, which doesn't use that lane": whatever the data, it does not fire
pub technician_does_not_fire : (w pc lanes : ℕ) → leb w 15 ≡ true → eqb (pc % 2) 0 ≡ true
    → told_event (event_outcome (board w 1) fresh_place (byte_read pc 1 lanes)) ≡ fired 0 false
unfolding fresh_board fresh_place debug_loaded debug_written in_range bstat_in_range level_of agree pc_group address_matches attribute_agrees data_enabled
    some_set
    comparator carries_all carried_lanes byte_lanes address_group joined fires fired_level bstat_after responds firing halting seen event_verdict
technician_does_not_fire w pc lanes allowed even = rw (allowed, even)

-- of a byte at address 1 the lowest lane read as zero
read_as_zero : (lanes : ℕ) → agree 0xFFFFFF00 (bit_and lanes 0x00FF0000) 0 ≡ true
read_as_zero lanes = bits_then_agree 32 0xFFFFFF00 (bit_and lanes 0x00FF0000) 0 (omega arith) (omega (arith, and_le_r lanes 0x00FF0000)) (omega arith) lowest
  where
    -- 0x00FF0000 has no bit that 0xFFFFFF00 has not
    off : (k : ℕ) → bit k 0xFFFFFF00 ≡ false → bit k 0x00FF0000 ≡ false
    off k free = and_bit k 0x00FF0000 0xFFFFFF00 ∙ rw (free, and-false)

    lowest : (k : ℕ) → k < 32 → bit k 0xFFFFFF00 ≡ false → bit k (bit_and lanes 0x00FF0000) ≡ bit k 0
    lowest k below free = and_bit k lanes 0x00FF0000 ∙ rw (off k free, and-false, zero-div)

-- it did, whatever the data
pub technician_did_fire : (w pc lanes : ℕ) → fired_before (board w 1).status.bstat (board w 1).debug (byte_read pc 1 lanes) ≡ 1
unfolding fresh_board debug_loaded debug_written level_of agree pc_group address_matches attribute_agrees data_enabled some_set carried_lanes byte_lanes joined
technician_did_fire w pc lanes = rw (read_as_zero lanes)

-- the byte at address 3 is on that lane: where it is zero it fires, where it is one it does not
pub carried_fires : (w : ℕ) → leb w 15 ≡ true
    → (told_event (event_outcome (board w 3) fresh_place (byte_read 0x1000 3 0x11223300)) ≡ fired 1 true)
    × (told_event (event_outcome (board w 3) fresh_place (byte_read 0x1000 3 0x11223301)) ≡ fired 0 false)
unfolding fresh_board fresh_place debug_loaded debug_written in_range bstat_in_range level_of agree pc_group address_matches attribute_agrees data_enabled
    some_set
    comparator carries_all carried_lanes byte_lanes address_group joined fires fired_level bstat_after responds firing halting seen event_verdict
carried_fires w allowed = (rw allowed, rw allowed)
