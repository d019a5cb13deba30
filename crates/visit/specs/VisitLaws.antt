-- Laws of a visit: how it begins, what is over stays and notes nothing more, a note is read back, and nothing is handed over that is not read.
use Rattle.std.specs.Prelude.{ℕ, ◌+◌, ◌*◌, ◌%◌, ◌^◌, ◌≤◌, ◌<◌, ◌≡◌, refl, true, false, ◌&&◌, List, [], ◌∷◌, eqb, leb, Err, None, Ok, Result, ⊤}
use Rattle.grounds.specs.declared.Ground.{Ground}
use Rattle.std.proofs.Common.{eqb-true, leb-true, lt-ltb}
use Rattle.laws.specs.TestLaws.{either, both_hold}
use Rattle.grounds.specs.declared.Ground.TheVariants.{RequestOutOfRange, BufferTooShort}
use Rattle.grounds.specs.Grounds.{check}
use Rattle.grounds.specs.GroundLaws.{accepted_holds}
use Rattle.readings.specs.declared.Outcome.{Outcome}
use Rattle.readings.specs.declared.Outcome.TheVariants.{Value, Complete, BusError, Illegal}
use Rattle.asked.specs.VisitRequests.{registers_asked}
use Rattle.visit.specs.declared.Stage.{Stage}
use Rattle.visit.specs.declared.Stage.TheVariants.{Marking, Asking, AsRead, NotRead}
use Rattle.visit.specs.declared.Visit.{Visit}
use Rattle.visit.specs.Visit.{table_in_range, start_verdict, begun, started_by, start_of, is_over, heard, lost, note_of, noted_at, noted}
use Rattle.visit.specs.HandedOver.{is_as_read, outcome_of, handed_over}

-- ---- how it begins
-- its table
module _ (address longwords : ℕ) (range : table_in_range address longwords ≡ true) where
  parts : (eqb (address % 4) 0 ≡ true) × ((leb longwords 65536 && leb (address + 4 * longwords) (2 ^ 32)) ≡ true)
  parts = both_hold (eqb (address % 4) 0) (leb longwords 65536 && leb (address + 4 * longwords) (2 ^ 32)) range

  sizes : (leb longwords 65536 ≡ true) × (leb (address + 4 * longwords) (2 ^ 32) ≡ true)
  sizes = both_hold (leb longwords 65536) (leb (address + 4 * longwords) (2 ^ 32)) parts.1

  pub table_whole : address % 4 ≡ 0
  table_whole = eqb-true (address % 4) 0 parts.0

  pub table_bound : longwords ≤ 65536
  table_bound = leb-true longwords 65536 sizes.0

  pub table_within : address + 4 * longwords ≤ 2 ^ 32
  table_within = leb-true (address + 4 * longwords) (2 ^ 32) sizes.1

pub record BegunWith (address longwords room : ℕ) (v : Visit) : Type 0 where
  pub visit : v ≡ begun address longwords
  pub table : table_in_range address longwords ≡ true
  pub places : registers_asked + longwords ≤ room

started_accepted : (judged : Result ⊤ Ground) (v w : Visit) → started_by judged w ≡ Ok v → (judged ≡ Ok tt) × (v ≡ w)
started_accepted (Ok _) v w e = (refl, cc)
started_accepted (Err why) v w e = (cc, cc)

pub begun_with : (address longwords room : ℕ) {v : Visit} → start_of address longwords room ≡ Ok v → BegunWith address longwords room v
begun_with address longwords room {v} e =
    let started = started_accepted (start_verdict address longwords room) v (begun address longwords) e in
    let places = leb (registers_asked + longwords) room in
    let past-13 = accepted_holds (table_in_range address longwords) RequestOutOfRange (check places BufferTooShort ∷ []) started.0 in
    let past-11 = accepted_holds places BufferTooShort [] past-13.1 in
    record { visit = started.1; table = past-13.0; places = leb-true (registers_asked + longwords) room past-11.0 }

-- ---- what is over
pub over_stays : (v : Visit) (reply : ℕ) → is_over v.stage ≡ true → heard v reply ≡ v
unfolding heard
over_stays v reply over = rw over

pub over_is_not_lost : (v : Visit) → is_over v.stage ≡ true → lost v ≡ v
unfolding lost
over_is_not_lost v over = rw over

stage_notes_nothing : (v : Visit) (stage : Stage) (reply : ℕ) (notes : List ℕ) → is_over stage ≡ true → noted_at v stage reply notes ≡ notes
stage_notes_nothing v (Marking i) reply notes over = refl
stage_notes_nothing v (Asking sent reader) reply notes over = cc
stage_notes_nothing v AsRead reply notes over = refl
stage_notes_nothing v (NotRead reason) reply notes over = refl

pub over_notes_nothing : (v : Visit) (reply : ℕ) (notes : List ℕ) → is_over v.stage ≡ true → noted v reply notes ≡ notes
unfolding noted
over_notes_nothing v reply notes over =
    either (λ after. after ≡ notes) (leb reply 0x1FFFF) (noted_at v v.stage reply notes) notes
    (λ e. stage_notes_nothing v v.stage reply notes over)
    (λ e. refl)

-- ---- what is handed over
-- a value has 32 bits
abbrev pub Narrow : Outcome → Type 0
Narrow (Value value) = value < 2 ^ 32
Narrow Complete = Unit {0}
Narrow BusError = Unit {0}
Narrow Illegal = Unit {0}

pub note_read_back : (o : Outcome) → Narrow o → outcome_of (note_of o) ≡ o
note_read_back (Value value) small = rw (lt-ltb value (2 ^ 32) small)
note_read_back Complete small = refl
note_read_back BusError small = refl
note_read_back Illegal small = refl

-- "after a visit that ends not read, nothing is"
pub nothing_unless_read : (v : Visit) (notes : List ℕ) (j : ℕ) → is_as_read v.stage ≡ false → handed_over v notes j ≡ None
unfolding handed_over
nothing_unless_read v notes j unread = rw unread
