-- Laws of firing and the lanes that an access carries ([1] of 02): longwords, a comparator that drops out, and that no event fires what it did not.
use Rattle.std.specs.Prelude.{ℕ, ◌^◌, ◌<◌, ◌≡◌, refl, Bool, true, false, cond, not, ◌&&◌, ◌||◌, eqb, None, Option, Some}
use Rattle.std.proofs.Common.{sym, ap, ◌∙◌}
use Rattle.std.proofs.Math.Bool.{or-true}
use Rattle.std.proofs.lemmas.Bool.{false≢true}
use Rattle.laws.specs.TestLaws.{both_hold, and_holds}
use Rattle.board.specs.declared.Debug.{Debug}
use Rattle.comparators.specs.declared.BusAccess.{BusAccess}
use Rattle.comparators.specs.declared.Level.{Level}
use Rattle.comparators.specs.Lanes.{size_field, carries_all}
use Rattle.comparators.specs.Comparators.{Ed, lanes_of, data_holds}
use Rattle.comparators.specs.DroppedLaws.{bit_of, is_set, without, dropped_is_clear, all_dropped_fails}
use Rattle.comparators.specs.CarriedDataLaws.{data_held_before, longword_holds_as_before, holds_then_held}
use Rattle.groups.specs.declared.Group.{Group}
use Rattle.groups.specs.Groups.{pc_group, address_matches, attribute_agrees, address_holds, address_group, joined}
use Rattle.trigger.specs.declared.Event.{Event}
use Rattle.trigger.specs.Levels.{level_one, level_two}
use Rattle.trigger.specs.Fired.{fires, fired_level}

-- the address with its data, and a level's firing, where the data's condition is given
abbrev pub address_by : (BusAccess → Bool) → Level → Debug → Option BusAccess → Bool
address_by held level d None = false
address_by held level d (Some access) = address_matches level d access.address && attribute_agrees d access.attribute && held access

abbrev pub fires_by : (BusAccess → Bool) → Level → Debug → Event → Bool
fires_by held level d event =
    level.ebl
    && joined level.t (pc_group level d event.pc)
    (record { enabled = level.eal || level.ear || level.eai; holds = address_by held level d event.bus })

-- 01 before [1] of 02: the data's condition was another, and nothing else (`fires_by_lem`)
abbrev pub fires_before : Level → Debug → Event → Bool
fires_before level d event = fires_by (data_held_before level d) level d event

abbrev pub fired_before : ℕ → Debug → Event → ℕ
fired_before bstat d event =
    cond (eqb bstat 1 && fires_before (level_one d.tdr) d event) 1 (cond (eqb bstat 5 && fires_before (level_two d.tdr) d event) 2 0)

-- the address holds alike where the data do
address_by_same : (held : BusAccess → Bool) (level : Level) (d : Debug) (bus : Option BusAccess)
    → ((access : BusAccess) → bus ≡ Some access → data_holds level d access ≡ held access) → address_holds level d bus ≡ address_by held level d bus
address_by_same held level d None same = refl
address_by_same held level d (Some access) same =
    ap (λ (x : Bool). address_matches level d access.address && attribute_agrees d access.attribute && x) (same access refl)

pub fires_by_same : (held : BusAccess → Bool) (level : Level) (d : Debug) (event : Event)
    → ((access : BusAccess) → event.bus ≡ Some access → data_holds level d access ≡ held access) → fires level d event ≡ fires_by held level d event
unfolding fires address_group
fires_by_same held level d event same = rw (address_by_same held level d event.bus same)

-- all else of firing is as it was
pub fires_by_lem : (level : Level) (d : Debug) (event : Event) → fires level d event ≡ fires_by (data_holds level d) level d event
fires_by_lem level d event = fires_by_same (data_holds level d) level d event (λ access carries. refl)

-- of longwords, and of events without an access, the same level fires as before, whatever the registers
pub longword_fires_as_before : (bstat : ℕ) (d : Debug) (event : Event)
    → ((access : BusAccess) → event.bus ≡ Some access → (size_field access ≡ 0) × (access.lanes < 2 ^ 32))
    → fired_level bstat d event ≡ fired_before bstat d event
unfolding fired_level
longword_fires_as_before bstat d event long = rw (level (level_one d.tdr), level (level_two d.tdr))
  where
    level : (l : Level) → fires l d event ≡ fires_before l d event
    level l =
        fires_by_same (data_held_before l d) l d event
        (λ access carries. longword_holds_as_before l d access (long access carries).1 (long access carries).0)

-- an ED bit speaks of the data alone
address_without : (held : BusAccess → Bool) (c : Ed) (level : Level) (d : Debug) (bus : Option BusAccess)
    → address_by held level d bus ≡ address_by held (without c level) d bus
unfolding address_matches
address_without held c level d None = refl
address_without held c level d (Some access) = refl

fires_without : (held : BusAccess → Bool) (c : Ed) (level : Level) (d : Debug) (event : Event)
    → fires_by held level d event ≡ fires_by held (without c level) d event
unfolding pc_group
fires_without held c level d event = rw (address_without held c level d event.bus)

-- as long as another ED bit of the level is set, the level fires exactly as with this one clear
pub dropped_fires_as_clear : (c other : Ed) (level : Level) (d : Debug) (event : Event)
    → ((access : BusAccess) → event.bus ≡ Some access → carries_all (lanes_of c) access ≡ false) → (bit_of c ≡ bit_of other → ⊥) → is_set other level ≡ true
    → fires level d event ≡ fires (without c level) d event
dropped_fires_as_clear c other level d event dropped apart set =
    fires_by_same (data_holds (without c level) d) level d event
    (λ access carries. dropped_is_clear c other level d access (dropped access carries) apart set)
    ∙ fires_without (data_holds (without c level) d) c level d event
    ∙ sym (fires_by_lem (without c level) d event)

-- where every set comparator drops out, a level fires exactly as if its data did not hold
pub all_dropped_fires : (one : Ed) (level : Level) (d : Debug) (event : Event) → is_set one level ≡ true
    → ((access : BusAccess) → event.bus ≡ Some access → (c : Ed) → is_set c level ≡ true → carries_all (lanes_of c) access ≡ false)
    → fires level d event ≡ fires_by (λ (access : BusAccess). false) level d event
all_dropped_fires one level d event set dropped =
    fires_by_same (λ (access : BusAccess). false) level d event (λ access carries. all_dropped_fails one level d access set (dropped access carries))

-- an address that holds more fires more, at either T
joined_grows : (t : Bool) (pc : Group) (enabled held more : Bool) → (held ≡ true → more ≡ true)
    → joined t pc (record { enabled = enabled; holds = held }) ≡ true → joined t pc (record { enabled = enabled; holds = more }) ≡ true
unfolding joined
joined_grows t pc enabled true more to fires = rw (to refl) fires
joined_grows t pc enabled false false to fires = fires
joined_grows true pc true false true to fires = rw or-true
joined_grows true pc false false true to fires = fires
joined_grows false pc true false true to fires = absurd (false≢true (both_hold ((pc.enabled || true) && (not pc.enabled || pc.holds)) false fires).1)
joined_grows false pc false false true to fires = fires

-- a level that an event fires it fired before, whatever the registers
pub fires_then_fired : (level : Level) (d : Debug) (event : Event) → d.dbmr < 2 ^ 32 → d.dbr < 2 ^ 32
    → ((access : BusAccess) → event.bus ≡ Some access → access.lanes < 2 ^ 32) → fires level d event ≡ true → fires_before level d event ≡ true
unfolding fires address_group
fires_then_fired level d event mask pattern given fires =
    let both = both_hold level.ebl (joined level.t (pc_group level d event.pc) (address_group level d event.bus)) fires in
    and_holds level.ebl _ both.0 (joined_grows level.t (pc_group level d event.pc) _ _ _ (address event.bus given) both.1)
  where
    address : (bus : Option BusAccess) → ((access : BusAccess) → bus ≡ Some access → access.lanes < 2 ^ 32)
        → address_holds level d bus ≡ true → address_by (data_held_before level d) level d bus ≡ true
    address None small holds = holds
    address (Some access) small holds =
        let parts = both_hold (address_matches level d access.address && attribute_agrees d access.attribute) (data_holds level d access) holds in
        and_holds _ _ parts.0 (holds_then_held level d access mask pattern (small access refl) parts.1)
