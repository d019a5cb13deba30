-- Laws of events for programs in other languages: how many there are, how the loop over them goes on, and how large an answer's numbers are.
use Rattle.std.specs.Prelude.{ℕ, suc, ◌+◌, ◌*◌, ◌/◌, ◌≤◌, ◌<◌, ◌≡◌, refl, Bool, true, false, cond, ◌&&◌, List, [], ◌∷◌, eqb, length, get_or, drop, set, Err}
use Rattle.std.specs.Prelude.{None, Ok, Option, Result, Some, ⊤}
use Rattle.std.proofs.Common.{ap, ◌∙◌, drop-cons, le-leb}
use Rattle.std.proofs.Math.Numerals.{add-one}
use native.Mathlib.Omega.{arith}
use Rattle.std.proofs.Math.ListN.{length-drop}
use Rattle.std.proofs.lemmas.List.Edits.{sets}
use Rattle.std.proofs.lemmas.Bool.{lt-leb}
use Rattle.laws.specs.StoreLaws.{sets_front}
use Rattle.grounds.specs.declared.Ground.{Ground}
use Rattle.grounds.specs.declared.Ground.TheVariants.{WordTooLarge, WaitTooLarge, MemoryTooLong, EventWhileHalted, OddPc, ReservedSize, TraceTooLong}
use Rattle.grounds.specs.declared.Ground.TheVariants.{ReservedPst, MarkerTooSoon, TraceCutShort, BufferTooShort, StateOutOfRange, RequestOutOfRange}
use Rattle.grounds.specs.declared.Ground.TheVariants.{ImpossibleReply}
use Rattle.grounds.specs.Grounds.{number}
use Rattle.board.specs.declared.Board.{Board}
use Rattle.board.specs.declared.Place.{Place}
use Rattle.board.specs.declared.Debug.{Debug}
use Rattle.board.specs.declared.Made.{Made}
use Rattle.board.specs.Board.{fresh_board, fresh_place, MakingMeets}
use Rattle.trigger.specs.declared.Event.{Event}
use Rattle.trigger.specs.Levels.{level_one, level_two}
use Rattle.trigger.specs.Fired.{fires, fired_level}
use Rattle.firing.specs.declared.Seen.{Seen}
use Rattle.firing.specs.Firing.{firing, seen}
use Rattle.bus.specs.EventAnswers.{told_captured, told_event}
use Rattle.bus.specs.Events.{event_verdict, event_outcome_by, event_outcome, board_after_event}
use Rattle.yarkovesh_events.specs.ExportedEvents.{set_up, event_at, events_of, answer_word, answers_to, EventsMeet}

pub number_at_most_14 : (g : Ground) → number g ≤ 14
number_at_most_14 WordTooLarge = omega arith
number_at_most_14 WaitTooLarge = omega arith
number_at_most_14 MemoryTooLong = omega arith
number_at_most_14 EventWhileHalted = omega arith
number_at_most_14 OddPc = omega arith
number_at_most_14 ReservedSize = omega arith
number_at_most_14 TraceTooLong = omega arith
number_at_most_14 ReservedPst = omega arith
number_at_most_14 MarkerTooSoon = omega arith
number_at_most_14 TraceCutShort = omega arith
number_at_most_14 BufferTooShort = omega arith
number_at_most_14 StateOutOfRange = omega arith
number_at_most_14 RequestOutOfRange = omega arith
number_at_most_14 ImpossibleReply = omega arith

-- "level fired (0, 1, 2)"
fired_at_most_2 : (bstat : ℕ) (d : Debug) (event : Event) → fired_level bstat d event ≤ 2
unfolding fired_level
fired_at_most_2 bstat d event = by_tests (eqb bstat 1 && fires (level_one d.tdr) d event) (eqb bstat 5 && fires (level_two d.tdr) d event)
  where
    by_tests : (one two : Bool) → cond one 1 (cond two 2 0) ≤ 2
    by_tests true two = omega arith
    by_tests false true = omega arith
    by_tests false false = omega arith

pub level_at_most_2 : (b : Board) (p : Place) (event : Event) → (told_event (event_outcome b p event)).level ≤ 2
unfolding seen firing
level_at_most_2 b p event =
    by_verdict (event_verdict b p event) (seen b.status b.debug event (firing b.status b.debug event))
    (fired_at_most_2 b.status.bstat b.debug event)
  where
    by_verdict : (v : Result ⊤ Ground) (s : Seen) → s.level ≤ 2 → (told_event (event_outcome_by v s)).level ≤ 2
    by_verdict (Ok _) s h = h
    by_verdict (Err g) s h = omega arith

pub value_if_at_most : (x : Bool) (v : ℕ) → cond x v 0 ≤ v
value_if_at_most true v = omega arith
value_if_at_most false v = omega arith

pub captured_at_most_1 : (c : Option ℕ) → length (told_captured c) ≤ 1
captured_at_most_1 None = omega arith
captured_at_most_1 (Some pc) = omega arith

-- four words an event
pub events_counted : (words : List ℕ) → length (events_of words) ≡ length words / 4
unfolding events_of
events_counted [] = refl
events_counted (pc ∷ []) = refl
events_counted (pc ∷ attribute ∷ []) = refl
events_counted (pc ∷ attribute ∷ address ∷ []) = refl
events_counted (pc ∷ attribute ∷ address ∷ lanes ∷ words) = omega (arith, events_counted words)

pub answers_counted : (events : List Event) (b : Board) (p : Place) → length (answers_to events b p) ≡ length events
unfolding answers_to
answers_counted [] b p = refl
answers_counted (event ∷ events) b p = ap suc (answers_counted events _ p)

-- where four words are left: the event that they make, and those after it
pub events_on : (words : List ℕ) (at : ℕ) → at + 3 < length words → events_of (drop at words) ≡ event_at words at ∷ events_of (drop (at + 4) words)
unfolding events_of
events_on words at h = ap events_of four
  where
    next : (i : ℕ) → i < length words → drop i words ≡ get_or words i 0 ∷ drop (i + 1) words
    next i k = rw (add-one i) (drop-cons words i 0 k)

    four : drop at words ≡ get_or words at 0 ∷ get_or words (at + 1) 0 ∷ get_or words (at + 2) 0 ∷ get_or words (at + 3) 0 ∷ drop (at + 4) words
    four =
        let second : at + 1 + 1 ≡ at + 2 = omega arith in
        let third : at + 2 + 1 ≡ at + 3 = omega arith in
        let fourth : at + 3 + 1 ≡ at + 4 = omega arith in
        rw (next at (omega arith), next (at + 1) (omega arith), second, next (at + 2) (omega arith), third, next (at + 3) h, fourth)

-- fewer than four words are none
pub no_event : (words : List ℕ) → length words < 4 → events_of words ≡ []
unfolding events_of
no_event [] h = refl
no_event (pc ∷ []) h = refl
no_event (pc ∷ attribute ∷ []) h = refl
no_event (pc ∷ attribute ∷ address ∷ []) h = refl
no_event (pc ∷ attribute ∷ address ∷ lanes ∷ words) h = absurd (omega arith)

-- one event more: its answer is put at its place, and the rest are answered on the board that it leaves
module _ (words out : List ℕ) (i : ℕ) (b : Board) (p : Place) where
  pub answers_on : (outcome : Result Seen Ground) {event : Event} {word : ℕ} {next : Board} → i < length words / 4 → event ≡ event_at words (i * 4)
      → word ≡ answer_word (told_event outcome) → told_event outcome ≡ told_event (event_outcome b p event) → next ≡ board_after_event b p event
      → sets (set out i word) (i + 1) (answers_to (events_of (drop ((i + 1) * 4) words)) next p) ≡ sets out i (answers_to (events_of (drop (i * 4) words)) b p)
  unfolding answers_to
  answers_on outcome h read answered same left =
      let place : (i + 1) * 4 ≡ i * 4 + 4 = omega arith in
      rw (answered, same, left, read, place, add-one i, events_on words (i * 4) (omega arith))

  pub answers_out : length words / 4 ≤ i → sets out i (answers_to (events_of (drop (i * 4) words)) b p) ≡ out
  unfolding answers_to
  answers_out h = rw (no_event (drop (i * 4) words) (simp length-drop (omega arith)))

-- the promise kept: where there is a word for each answer, and where there is not
module _ (registers words before : List ℕ) where
  pub taken_meets : {made : Made} {board : Board} {after : List ℕ} → length words / 4 ≤ length before → MakingMeets 0 made
      → board ≡ set_up registers made.board → after ≡ sets before 0 (answers_to (events_of words) board made.place)
      → EventsMeet registers words before 0 after
  taken_meets h made set e =
      let events = events_of words in
      let answers = answers_to events (set_up registers (fresh_board 0)) fresh_place in
      let fits : length events ≤ length before = rw (events_counted words) h in
      let judged = le-leb (length events) (length before) fits in
      let room : length answers ≤ length before = rw (answers_counted events (set_up registers (fresh_board 0)) fresh_place) fits in
      record { answer = rw judged; answers = rw judged (rw (set, made.board, made.place) at e ∙ sets_front answers before room) }

  pub short_meets : length before < length words / 4 → EventsMeet registers words before 11 before
  short_meets h =
      let short : length before < length (events_of words) = rw (events_counted words) h in
      let judged = lt-leb (length (events_of words)) (length before) short in record { answer = rw judged; answers = rw judged }
