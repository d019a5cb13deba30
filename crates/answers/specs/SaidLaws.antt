-- Laws of what is said: the answers of the port and of the bus are those that their promises determine.
use Rattle.std.specs.Prelude.{ℕ, ◌≡◌, refl, List}
use Rattle.std.proofs.Common.{ap}
use Rattle.grounds.specs.Grounds.{if_accepted}
use Rattle.board.specs.declared.Board.{Board}
use Rattle.board.specs.declared.Place.{Place}
use Rattle.board.specs.State.{State}
use Rattle.step.specs.Step.{reply_now, stepped}
use Rattle.port.specs.declared.Answer.{Answer}
use Rattle.port.specs.Packet.{packet_verdict, answered, PacketMeets}
use Rattle.port.specs.PacketUnique.{packet_unique}
use Rattle.trigger.specs.declared.Event.{Event}
use Rattle.firing.specs.declared.Seen.{Seen}
use Rattle.firing.specs.declared.Pressed.{Pressed}
use Rattle.bus.specs.declared.Answer.{Answer as BusAnswer}
use Rattle.bus.specs.Events.{event_outcome, breakpoint_outcome, EventMeets, BreakpointMeets}
use Rattle.bus.specs.EventUnique.{told_event_unique, told_breakpoint_unique}

-- the answer to a packet, and the state that is left
abbrev left : State → ℕ → State
left s word = if_accepted (packet_verdict s word) (stepped s word) s

abbrev due : State → ℕ → Answer
due s word = record { outcome = answered (packet_verdict s word) (reply_now s.place); board = (left s word).board; place = (left s word).place }

pub packet_outcome_lem : {s : State} {word : ℕ} {r : Answer} {after : List ℕ} → PacketMeets s word r after
    → r.outcome ≡ answered (packet_verdict s word) (reply_now s.place)
packet_outcome_lem {s} {word} {r} {after} meets =
    let other : PacketMeets s word (due s word) (left s word).memory = record { answer = refl; state = refl } in
    ap (λ (a : Answer). a.outcome) (packet_unique meets other).0

pub event_outcome_lem : {b : Board} {p : Place} {e : Event} {r : BusAnswer Seen} → EventMeets b p e r → r.outcome ≡ event_outcome b p e
event_outcome_lem {b} {p} {e} {r} meets = told_event_unique r.outcome (event_outcome b p e) meets.answer

pub breakpoint_outcome_lem : {b : Board} {p : Place} {r : BusAnswer Pressed} → BreakpointMeets b p r → r.outcome ≡ breakpoint_outcome b p
breakpoint_outcome_lem {b} {p} {r} meets = told_breakpoint_unique r.outcome (breakpoint_outcome b p) meets.answer
