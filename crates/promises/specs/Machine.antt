-- A stand-in as its callers see it: what the contracts of packet, event and breakpoint input say of a call.
-- The promises speak of any such machine, so that one that breaks a rule can be shown to break its promise.
use Rattle.std.specs.Prelude.{ℕ, Result, ⊤}
use Rattle.grounds.specs.declared.Ground.{Ground}
use Rattle.board.specs.declared.Place.{Place}
use Rattle.board.specs.State.{State, state_of}
use Rattle.trigger.specs.declared.Event.{Event}
use Rattle.step.specs.Step.{reply_now, stepped}
use Rattle.port.specs.Packet.{packet_verdict}
use Rattle.bus.specs.Events.{board_after_event, board_after_breakpoint}

pub record Machine : Type 0 where
  -- whether a packet is accepted, of the state, the memory lent with it in it, and of its word
  pub verdict : State → ℕ → Result ⊤ Ground
  -- "Its reply is fixed by the state before it"
  pub reply : Place → ℕ
  -- what an accepted packet leaves
  pub step : State → ℕ → State
  -- what an event and the breakpoint input leave, refused or not
  pub event : State → Event → State
  pub input : State → State

-- the proved one: the very definitions that the contracts of `take_packet`, `take_event` and `press_breakpoint` cite
abbrev pub stand_in : Machine
stand_in = record {
  verdict = packet_verdict;
  reply = reply_now;
  step = stepped;
  event = λ s e. state_of (board_after_event s.board s.place e) s.place s.memory;
  input = λ s. state_of (board_after_breakpoint s.board s.place) s.place s.memory;
}
