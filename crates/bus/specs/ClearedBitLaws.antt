-- Laws of TDR with one ED bit clear ([1] of 02): where that comparator drops out and another is set, an event fires the level that it fires anyway.
use Rattle.std.specs.Prelude.{ℕ, ◌+◌, ◌-◌, ◌^◌, ◌≡◌, refl, true, false, None, Option, Some}
use Rattle.std.proofs.Common.{sym, ap, ◌∙◌}
use Rattle.std.proofs.Math.Bool.{and-true, and-false}
use Rattle.std.specs.Int.Bits.{bit_and}
use Rattle.std.proofs.lemmas.Nat.{and_shr}
use Rattle.command.specs.Command.{debug_number}
use Rattle.command.specs.declared.DebugRegister.TheVariants.{Tdr}
use Rattle.board.specs.declared.Debug.{Debug}
use Rattle.registers.specs.Registers.{debug_loaded}
use Rattle.comparators.specs.declared.BusAccess.{BusAccess}
use Rattle.comparators.specs.declared.Level.{Level}
use Rattle.comparators.specs.Lanes.{carries_all}
use Rattle.comparators.specs.LaneLaws.{and_bit}
use Rattle.comparators.specs.Comparators.{Ed, lanes_of, comparator}
use Rattle.comparators.specs.DroppedLaws.{bit_of, is_set, without}
use Rattle.comparators.specs.Comparators.Ed.{EDLW, EDWL, EDWU, EDLL, EDLM, EDUM, EDUU}
use Rattle.groups.specs.Groups.{pc_group, address_matches, attribute_agrees, address_holds, address_group}
use Rattle.trigger.specs.declared.Event.{Event}
use Rattle.trigger.specs.Levels.{level_of, level_one, level_two}
use Rattle.trigger.specs.Fired.{fires, fired_level}
use Rattle.trigger.specs.LaneFiringLaws.{dropped_fires_as_clear}

-- TDR with an ED bit clear: level 1 begins at bit 0, level 2 at bit 16
abbrev pub clear_in : ℕ → Ed → ℕ → ℕ
clear_in begin c tdr = bit_and tdr (0xFFFFFFFF - 2 ^ (begin + bit_of c))

-- it is the level without that comparator, and the other level as it is
clear_in_one : (c : Ed) (tdr : ℕ) → (level_one (clear_in 0 c tdr) ≡ without c (level_one tdr)) × (level_two (clear_in 0 c tdr) ≡ level_two tdr)
unfolding level_of
clear_in_one EDLW tdr = (simp (and_bit, and-true, and-false), rw (and_shr tdr _ 16) (simp (and_bit, and-true)))
clear_in_one EDWL tdr = (simp (and_bit, and-true, and-false), rw (and_shr tdr _ 16) (simp (and_bit, and-true)))
clear_in_one EDWU tdr = (simp (and_bit, and-true, and-false), rw (and_shr tdr _ 16) (simp (and_bit, and-true)))
clear_in_one EDLL tdr = (simp (and_bit, and-true, and-false), rw (and_shr tdr _ 16) (simp (and_bit, and-true)))
clear_in_one EDLM tdr = (simp (and_bit, and-true, and-false), rw (and_shr tdr _ 16) (simp (and_bit, and-true)))
clear_in_one EDUM tdr = (simp (and_bit, and-true, and-false), rw (and_shr tdr _ 16) (simp (and_bit, and-true)))
clear_in_one EDUU tdr = (simp (and_bit, and-true, and-false), rw (and_shr tdr _ 16) (simp (and_bit, and-true)))

clear_in_two : (c : Ed) (tdr : ℕ) → (level_one (clear_in 16 c tdr) ≡ level_one tdr) × (level_two (clear_in 16 c tdr) ≡ without c (level_two tdr))
unfolding level_of
clear_in_two EDLW tdr = (simp (and_bit, and-true), rw (and_shr tdr _ 16) (simp (and_bit, and-true, and-false)))
clear_in_two EDWL tdr = (simp (and_bit, and-true), rw (and_shr tdr _ 16) (simp (and_bit, and-true, and-false)))
clear_in_two EDWU tdr = (simp (and_bit, and-true), rw (and_shr tdr _ 16) (simp (and_bit, and-true, and-false)))
clear_in_two EDLL tdr = (simp (and_bit, and-true), rw (and_shr tdr _ 16) (simp (and_bit, and-true, and-false)))
clear_in_two EDLM tdr = (simp (and_bit, and-true), rw (and_shr tdr _ 16) (simp (and_bit, and-true, and-false)))
clear_in_two EDUM tdr = (simp (and_bit, and-true), rw (and_shr tdr _ 16) (simp (and_bit, and-true, and-false)))
clear_in_two EDUU tdr = (simp (and_bit, and-true), rw (and_shr tdr _ 16) (simp (and_bit, and-true, and-false)))

-- the debug registers after TDR is written
abbrev pub tdr_loaded : ℕ → Debug → Debug
tdr_loaded tdr d = debug_loaded (debug_number Tdr) tdr d

-- a level, once it is given, does not look at TDR
address_but_tdr : (level : Level) (d : Debug) (tdr : ℕ) (bus : Option BusAccess) → address_holds level (tdr_loaded tdr d) bus ≡ address_holds level d bus
unfolding debug_loaded address_matches attribute_agrees comparator
address_but_tdr level d tdr None = refl
address_but_tdr level d tdr (Some access) = refl

fires_but_tdr : (level : Level) (d : Debug) (tdr : ℕ) (event : Event) → fires level (tdr_loaded tdr d) event ≡ fires level d event
unfolding debug_loaded fires address_group pc_group
fires_but_tdr level d tdr event = rw (address_but_tdr level d tdr event.bus)

-- the level fired is told by the two levels of TDR
fired_by_levels : (bstat : ℕ) (d : Debug) (tdr : ℕ) (event : Event) → fires (level_one tdr) d event ≡ fires (level_one d.tdr) d event
    → fires (level_two tdr) d event ≡ fires (level_two d.tdr) d event → fired_level bstat (tdr_loaded tdr d) event ≡ fired_level bstat d event
unfolding debug_loaded fired_level
fired_by_levels bstat d tdr event one two =
    rw (fires_but_tdr (level_one tdr) d tdr event, fires_but_tdr (level_two tdr) d tdr event, one, two)

module _
    (c other : Ed)
    (bstat : ℕ)
    (d : Debug)
    (event : Event)
    (dropped : (access : BusAccess) → event.bus ≡ Some access → carries_all (lanes_of c) access ≡ false)
    (apart : bit_of c ≡ bit_of other → ⊥)
  where
    like : (level : Level) → is_set other level ≡ true → fires (without c level) d event ≡ fires level d event
    like level set = sym (dropped_fires_as_clear c other level d event dropped apart set)

    -- as long as another ED bit of level 1 is set, the same level fires with this one clear, at every BSTAT
    pub dropped_in_level_one : is_set other (level_one d.tdr) ≡ true → fired_level bstat (tdr_loaded (clear_in 0 c d.tdr) d) event ≡ fired_level bstat d event
    dropped_in_level_one set =
        let levels = clear_in_one c d.tdr in
        fired_by_levels bstat d (clear_in 0 c d.tdr) event
        (ap (λ (l : Level). fires l d event) levels.0 ∙ like (level_one d.tdr) set)
        (ap (λ (l : Level). fires l d event) levels.1)

    -- and of level 2
    pub dropped_in_level_two : is_set other (level_two d.tdr) ≡ true → fired_level bstat (tdr_loaded (clear_in 16 c d.tdr) d) event ≡ fired_level bstat d event
    dropped_in_level_two set =
        let levels = clear_in_two c d.tdr in
        fired_by_levels bstat d (clear_in 16 c d.tdr) event
        (ap (λ (l : Level). fires l d event) levels.0)
        (ap (λ (l : Level). fires l d event) levels.1 ∙ like (level_two d.tdr) set)
