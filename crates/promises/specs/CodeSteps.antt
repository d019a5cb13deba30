-- The promises are about the code: what the contracts of make, take_packet, take_event and press_breakpoint say of an answer forces
-- exactly the step that a history takes.
use Rattle.std.specs.Prelude.{ℕ, ◌≤◌, ◌≡◌, List, [], Err, Ok}
use Rattle.grounds.specs.declared.Ground.{Ground}
use Rattle.board.specs.declared.Made.{Made}
use Rattle.board.specs.Board.{MakingMeets}
use Rattle.board.specs.State.{State, state_of}
use Rattle.trigger.specs.declared.Event.{Event}
use Rattle.port.specs.declared.Answer.{Answer}
use Rattle.port.specs.Packet.{packet_verdict, PacketMeets, Unaltered, Stepped}
use Rattle.firing.specs.declared.Seen.{Seen}
use Rattle.firing.specs.declared.Pressed.{Pressed}
use Rattle.bus.specs.declared.Answer.{Answer as BusAnswer}
use Rattle.bus.specs.Events.{event_verdict, breakpoint_verdict, EventMeets, BreakpointMeets}
use Rattle.promises.specs.Machine.{stand_in}
use Rattle.promises.specs.History.{Lent, lending, after_call, made}
use Rattle.promises.specs.History.Call.{packet, event, breakpoint}

pub record CodeSteps : Type 0 where
  -- A board made with W from 0 to 15 is where a history begins.
  pub making : (w : ℕ) (r : Made) → w ≤ 15 → MakingMeets w r → state_of r.board r.place [] ≡ made w
  -- A packet leaves what a history's packet leaves, each byte of memory with it,
  pub packets : (s : State) (m : Lent) (word : ℕ) (r : Answer) (out : List ℕ) → PacketMeets (lending s m) word r out
      → state_of r.board r.place out ≡ after_call stand_in s (packet m word)
  -- replies from the state before it and takes its step where it is accepted,
  pub accepted : (s : State) (m : Lent) (word : ℕ) (r : Answer) (out : List ℕ) → PacketMeets (lending s m) word r out
      → packet_verdict (lending s m) word ≡ Ok tt → Stepped (lending s m) word r out
  -- and gives its number and everything as it was where it is refused.
  pub refused : (s : State) (m : Lent) (word : ℕ) (r : Answer) (out : List ℕ) (g : Ground) → PacketMeets (lending s m) word r out
      → packet_verdict (lending s m) word ≡ Err g → Unaltered (lending s m) g r out
  -- An event leaves what a history's event leaves, the place and memory untouched,
  pub events : (s : State) (e : Event) (r : BusAnswer Seen) → EventMeets s.board s.place e r
      → state_of r.board s.place s.memory ≡ after_call stand_in s (event e)
  -- and the breakpoint input what a history's leaves.
  pub inputs : (s : State) (r : BusAnswer Pressed) → BreakpointMeets s.board s.place r
      → state_of r.board s.place s.memory ≡ after_call stand_in s breakpoint
  -- Refused calls change nothing: packets,
  pub still_packet : (s : State) (m : Lent) (word : ℕ) (g : Ground) → packet_verdict (lending s m) word ≡ Err g → after_call stand_in s (packet m word)
      ≡ lending s m
  -- events
  pub still_event : (s : State) (e : Event) (g : Ground) → event_verdict s.board s.place e ≡ Err g → after_call stand_in s (event e) ≡ s
  -- and breakpoint inputs.
  pub still_breakpoint : (s : State) (g : Ground) → breakpoint_verdict s.board s.place ≡ Err g → after_call stand_in s breakpoint ≡ s
