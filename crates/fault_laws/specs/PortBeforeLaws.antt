-- [4] "Replies on the port don't change": the port as it was before the request, and that a packet, an event and the breakpoint input do the same
-- there once the number is forgotten.
use Rattle.std.specs.Prelude.{ℕ, ◌≡◌, Err, None, Ok, Option, Result, ⊤}
use Rattle.grounds.specs.declared.Ground.{Ground}
use Rattle.std.proofs.Math.Path.{refl}
use Rattle.grounds.specs.Grounds.{if_accepted}
use Rattle.command.specs.declared.Command.{Command}
use Rattle.board.specs.declared.Board.{Board}
use Rattle.board.specs.declared.Place.{Place}
use Rattle.board.specs.declared.Status.{Status}
use Rattle.board.specs.Setters.{with_status, with_fault}
use Rattle.board.specs.State.{State, state_of}
use Rattle.ranges.specs.Ranges.{in_range}
use Rattle.registers.specs.Registers.{board_after}
use Rattle.access.specs.Access.{access_of, memory_after}
use Rattle.work.specs.Work.{ending_of, place_after}
use Rattle.work.specs.FaultApartLaws.{same_ending, same_work}
use Rattle.plan.specs.declared.Plan.{Plan}
use Rattle.plan.specs.declared.Plan.TheVariants.{Hold, Reject, Release, Work}
use Rattle.step.specs.Step.{rejected, holding, released, left, plan_for, word_taken, stepped}
use Rattle.step.specs.StepFaultLaws.{faulted}
use Rattle.port.specs.Packet.{packet_verdict}
use Rattle.trigger.specs.declared.Event.{Event}
use Rattle.firing.specs.Firing.{firing, status_after}
use Rattle.firing.specs.Breakpoint.{pressed, status_pressed}
use Rattle.bus.specs.Events.{event_verdict, breakpoint_verdict, event_outcome, breakpoint_outcome, board_after_event, board_after_breakpoint}
use Rattle.promises.specs.Machine.{Machine, stand_in}

-- ---- the port before: the work and the step as their definitions stood
abbrev pub worked_before : Command → ℕ → ℕ → State → State
worked_before c address value s =
    let access = access_of c s.memory s.place.pointer address in
    state_of (board_after c s.board address value) (place_after c s.place access (ending_of c s.board address access))
    (memory_after c s.memory s.place.pointer address value)

abbrev pub left_before : Plan → State → State
left_before (Hold phase) s = state_of s.board (holding s.place phase) s.memory
left_before Reject s = state_of s.board (rejected s.place) s.memory
left_before (Release low) s = state_of s.board (released s.place low) s.memory
left_before (Work c address value) s = worked_before c address value s

abbrev pub stepped_before : State → ℕ → State
stepped_before s word = left_before (plan_for s.board s.place word) s

abbrev pub port_before : Machine
port_before = record { verdict = stand_in.verdict; reply = stand_in.reply; step = stepped_before; event = stand_in.event; input = stand_in.input }

-- the number forgotten
abbrev pub forgotten : State → State
forgotten s = faulted s None

-- ---- a packet
left_forgotten : (plan : Plan) (s : State) (f : Option ℕ) → forgotten (left plan (faulted s f)) ≡ left_before plan (forgotten s)
left_forgotten (Hold phase) s f = refl
left_forgotten Reject s f = refl
left_forgotten (Release low) s f = refl
left_forgotten (Work c address value) s f =
    let access = access_of c s.memory s.place.pointer address in
    rw (
      same_work s.board f c address value,
      same_work s.board None c address value,
      same_ending s.board f c address access,
      same_ending s.board None c address access,
    )

pub packet_forgotten : (s : State) (word : ℕ) → forgotten (stepped s word) ≡ stepped_before (forgotten s) word
unfolding stepped plan_for
packet_forgotten s word = left_forgotten (plan_for s.board s.place word) s (word_taken s word).board.fault

pub verdict_forgotten : (s : State) (f : Option ℕ) (word : ℕ) → packet_verdict (faulted s f) word ≡ packet_verdict s word
unfolding packet_verdict in_range
verdict_forgotten s f word = refl

-- ---- an event and the breakpoint input
module _ (b : Board) (p : Place) (f : Option ℕ) where
  pub event_forgotten : (e : Event) → event_outcome (with_fault b f) p e ≡ event_outcome b p e
  unfolding event_verdict in_range
  event_forgotten e = refl

  pub breakpoint_forgotten : breakpoint_outcome (with_fault b f) p ≡ breakpoint_outcome b p
  unfolding breakpoint_verdict in_range
  breakpoint_forgotten = refl

  status_by : (v : Result ⊤ Ground) (s : Status)
      → with_fault (if_accepted v (with_status b s) b) f ≡ if_accepted v (with_status (with_fault b f) s) (with_fault b f)
  status_by (Ok _) s = refl
  status_by (Err g) s = refl

  pub event_leaves : (e : Event) → with_fault (board_after_event b p e) f ≡ board_after_event (with_fault b f) p e
  unfolding event_verdict in_range
  event_leaves e = status_by (event_verdict b p e) (status_after b.status b.debug e (firing b.status b.debug e))

  pub breakpoint_leaves : with_fault (board_after_breakpoint b p) f ≡ board_after_breakpoint (with_fault b f) p
  unfolding breakpoint_verdict in_range
  breakpoint_leaves = status_by (breakpoint_verdict b p) (status_pressed b.status (pressed b.status b.debug))
