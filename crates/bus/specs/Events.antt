-- Events and firing (01): the promises of the event and of the breakpoint input, refusals in their order.
use Rattle.std.specs.Prelude.{◌%◌, ◌≡◌, Bool, false, not, [], ◌∷◌, eqb, Err, None, Ok, Option, Result, Some, ⊤}
use Rattle.comparators.specs.declared.BusAccess.{BusAccess}
use Rattle.grounds.specs.declared.Ground.{Ground}
use Rattle.grounds.specs.declared.Ground.TheVariants.{EventWhileHalted, OddPc, ReservedSize, StateOutOfRange}
use Rattle.grounds.specs.Grounds.{check, judge, if_accepted}
use Rattle.board.specs.declared.Board.{Board}
use Rattle.board.specs.declared.Place.{Place}
use Rattle.ranges.specs.Ranges.{in_range}
use Rattle.board.specs.Setters.{with_status}
use Rattle.trigger.specs.declared.Event.{Event}
use Rattle.comparators.specs.Lanes.{size_field}
use Rattle.firing.specs.declared.Seen.{Seen}
use Rattle.firing.specs.declared.Pressed.{Pressed}
use Rattle.bus.specs.declared.Answer.{Answer}
use Rattle.firing.specs.Firing.{firing, seen, status_after}
use Rattle.firing.specs.Breakpoint.{pressed, status_pressed}
use Rattle.bus.specs.EventAnswers.{told_event, told_breakpoint}

-- "an access whose size field is 11"
abbrev pub reserved_size : Option BusAccess → Bool
reserved_size None = false
reserved_size (Some access) = eqb (size_field access) 3

-- "events 12, 4, 5, 6"
unfoldable pub event_verdict : Board → Place → Event → Result ⊤ Ground
event_verdict b p event =
    judge
    (check (in_range b p) StateOutOfRange
    ∷ check (not b.status.halted) EventWhileHalted
    ∷ check (eqb (event.pc % 2) 0) OddPc
    ∷ check (not (reserved_size event.bus)) ReservedSize
    ∷ [])

-- "the breakpoint input 12"
unfoldable pub breakpoint_verdict : Board → Place → Result ⊤ Ground
breakpoint_verdict b p = judge (check (in_range b p) StateOutOfRange ∷ [])

-- "A refusal returns its number"
abbrev pub event_outcome_by : Result ⊤ Ground → Seen → Result Seen Ground
event_outcome_by (Ok _) s = Ok s
event_outcome_by (Err g) s = Err g

abbrev pub breakpoint_outcome_by : Result ⊤ Ground → Pressed → Result Pressed Ground
breakpoint_outcome_by (Ok _) p = Ok p
breakpoint_outcome_by (Err g) p = Err g

abbrev pub event_outcome : Board → Place → Event → Result Seen Ground
event_outcome b p event = event_outcome_by (event_verdict b p event) (seen b.status b.debug event (firing b.status b.debug event))

abbrev pub board_after_event : Board → Place → Event → Board
board_after_event b p event =
    if_accepted (event_verdict b p event) (with_status b (status_after b.status b.debug event (firing b.status b.debug event))) b

abbrev pub breakpoint_outcome : Board → Place → Result Pressed Ground
breakpoint_outcome b p = breakpoint_outcome_by (breakpoint_verdict b p) (pressed b.status b.debug)

abbrev pub board_after_breakpoint : Board → Place → Board
board_after_breakpoint b p = if_accepted (breakpoint_verdict b p) (with_status b (status_pressed b.status (pressed b.status b.debug))) b

-- the promise of an event
pub record EventMeets (b : Board) (p : Place) (event : Event) (r : Answer Seen) : Type 0 where
  pub answer : told_event r.outcome ≡ told_event (event_outcome b p event)
  pub board : r.board ≡ board_after_event b p event

-- the promise of the breakpoint input
pub record BreakpointMeets (b : Board) (p : Place) (r : Answer Pressed) : Type 0 where
  pub answer : told_breakpoint r.outcome ≡ told_breakpoint (breakpoint_outcome b p)
  pub board : r.board ≡ board_after_breakpoint b p
