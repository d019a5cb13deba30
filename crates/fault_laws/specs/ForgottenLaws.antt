-- [4] "Replies on the port don't change, so demands 2 and 3 read as before": for every history the port with the number forgotten is the port before.
use Rattle.std.specs.Prelude.{ℕ, ◌≡◌, refl, List, [], ◌∷◌, Err, None, Ok, Result, ⊤}
use Rattle.grounds.specs.declared.Ground.{Ground}
use Rattle.std.proofs.Common.{ap, ap₂, sym, ◌∙◌}
use Rattle.grounds.specs.Grounds.{if_accepted}
use Rattle.board.specs.Board.{fresh_board, fresh_place}
use Rattle.board.specs.State.{State, state_of}
use Rattle.step.specs.Step.{reply_now, stepped}
use Rattle.port.specs.Packet.{packet_verdict}
use Rattle.trigger.specs.declared.Event.{Event}
use Rattle.bus.specs.Events.{event_outcome, breakpoint_outcome}
use Rattle.promises.specs.Machine.{stand_in}
use Rattle.promises.specs.Environment.{Handed, handed}
use Rattle.promises.specs.History.{Lent, Call, lending, finding, after_call, after, finds, made}
use Rattle.promises.specs.History.Call.{packet, event, breakpoint}
use Rattle.fault_laws.specs.PortBeforeLaws.{port_before, stepped_before, forgotten, packet_forgotten, verdict_forgotten}
use Rattle.fault_laws.specs.PortBeforeLaws.{event_forgotten, breakpoint_forgotten, event_leaves, breakpoint_leaves}

-- ---- the state that calls lead to
call_forgotten : (s : State) (c : Call) → forgotten (after_call stand_in s c) ≡ after_call port_before (forgotten s) c
call_forgotten s (packet m word) = rw (verdict_forgotten (lending s m) None word) (by (packet_verdict (lending s m) word))
  where
    by : (v : Result ⊤ Ground) → forgotten (if_accepted v (stepped (lending s m) word) (lending s m))
        ≡ if_accepted v (stepped_before (lending (forgotten s) m) word) (lending (forgotten s) m)
    by (Ok _) = packet_forgotten (lending s m) word
    by (Err g) = refl
call_forgotten s (event e) = ap (λ b. state_of b s.place s.memory) (event_leaves s.board s.place None e)
call_forgotten s breakpoint = ap (λ b. state_of b s.place s.memory) (breakpoint_leaves s.board s.place None)

calls_forgotten : (calls : List Call) (s : State) → forgotten (after stand_in s calls) ≡ after port_before (forgotten s) calls
unfolding after
calls_forgotten [] s = refl
calls_forgotten (c ∷ cs) s = calls_forgotten cs (after_call stand_in s c) ∙ ap (λ x. after port_before x cs) (call_forgotten s c)

-- ---- what its packets hand back
abbrev SameHanded : List Call → State → Type 0
SameHanded calls s = handed stand_in s.place (finds stand_in s calls) ≡ handed port_before s.place (finds port_before (forgotten s) calls)

-- from a state that is the other with its number forgotten
also_from : (calls : List Call) (x : State) {y : State} → SameHanded calls x → forgotten x ≡ y
    → handed stand_in x.place (finds stand_in x calls) ≡ handed port_before y.place (finds port_before y calls)
also_from calls x h e = h ∙ ap (λ (z : State). handed port_before z.place (finds port_before z calls)) e

packet_hands : (s : State) (m : Lent) (word : ℕ) (cs : List Call) → ((x : State) → SameHanded cs x) → SameHanded (packet m word ∷ cs) s
unfolding finds handed
packet_hands s m word cs behind = rw (verdict_forgotten (lending s m) None word) (by (packet_verdict (lending s m) word))
  where
    now : State
    now = lending s m

    next : State
    next = stepped now word

    before : State
    before = lending (forgotten s) m

    then : State
    then = stepped_before before word

    by : (v : Result ⊤ Ground)
        → handed stand_in s.place (if_accepted v (finding s m word ∷ finds stand_in (if_accepted v next now) cs) (finds stand_in (if_accepted v next now) cs))
        ≡ handed port_before s.place
        (if_accepted v (finding (forgotten s) m word ∷ finds port_before (if_accepted v then before) cs) (finds port_before (if_accepted v then before) cs))
    by (Ok _) =
        let step = packet_forgotten now word in
        ap₂ (λ (x : Handed) (xs : List Handed). x ∷ xs) (ap (λ (z : State). record { reply = reply_now s.place; memory = z.memory }) step)
        (also_from cs next (behind next) step)
    by (Err g) = also_from cs now (behind now) refl

same_handed : (calls : List Call) (s : State) → SameHanded calls s
unfolding finds handed
same_handed [] s = refl
same_handed (packet m word ∷ cs) s = packet_hands s m word cs (same_handed cs)
same_handed (event e ∷ cs) s = also_from cs (after_call stand_in s (event e)) (same_handed cs (after_call stand_in s (event e))) (call_forgotten s (event e))
same_handed (breakpoint ∷ cs) s =
    also_from cs (after_call stand_in s breakpoint) (same_handed cs (after_call stand_in s breakpoint)) (call_forgotten s breakpoint)

-- ---- the promise: of every history on a fresh board
pub record PortAsBefore (w : ℕ) (history : List Call) : Type 0 where
  -- W, registers, flags, memory, phase, chain, pointer and next reply are what they were
  pub state : forgotten (after stand_in (made w) history) ≡ after port_before (made w) history
  -- so are each packet's reply and the memory that it leaves
  pub replies : handed stand_in fresh_place (finds stand_in (made w) history) ≡ handed port_before fresh_place (finds port_before (made w) history)
  -- whether the next packet is accepted,
  pub verdict : (m : Lent) (word : ℕ)
      → packet_verdict (lending (after stand_in (made w) history) m) word ≡ packet_verdict (lending (after port_before (made w) history) m) word
  -- what the next event is answered: the level that fires, halted, an interrupt asked, the PC
  pub event : (e : Event)
      → event_outcome (after stand_in (made w) history).board (after stand_in (made w) history).place e
      ≡ event_outcome (after port_before (made w) history).board (after port_before (made w) history).place e
  -- and the breakpoint input.
  pub breakpoint : breakpoint_outcome (after stand_in (made w) history).board (after stand_in (made w) history).place
      ≡ breakpoint_outcome (after port_before (made w) history).board (after port_before (made w) history).place

pub port_as_before : (w : ℕ) (history : List Call) → PortAsBefore w history
unfolding fresh_board
port_as_before w history =
    let here = after stand_in (made w) history in
    let state = calls_forgotten history (made w) in
    record {
      state = state;
      replies = same_handed history (made w);
      verdict = λ m word. sym (verdict_forgotten (lending here m) None word) ∙ ap (λ (z : State). packet_verdict (lending z m) word) state;
      event = λ e. sym (event_forgotten here.board here.place None e) ∙ ap (λ (z : State). event_outcome z.board z.place e) state;
      breakpoint = sym (breakpoint_forgotten here.board here.place None) ∙ ap (λ (z : State). breakpoint_outcome z.board z.place) state;
    }
