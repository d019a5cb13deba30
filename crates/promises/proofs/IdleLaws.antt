-- Demand 3: NOPs after a history. Each is accepted, and what comes between them makes no difference.
use Prim.Native.Nat.{ℕ, suc, ◌+◌, ◌≤◌}
use Rattle.std.specs.Prelude.{◌≡◌, Ok}
use Rattle.std.proofs.Math.Path.{refl, ap, subst₂}
use Rattle.std.proofs.Common.{sym, ap₂, arith}
use Rattle.std.proofs.Math.Bool.{cond}
use mathlib.Core.List.{List, ◌∷◌}
use Rattle.std.proofs.Math.ListN.{length}
use Rattle.board.specs.declared.Board.{Board}
use Rattle.board.specs.declared.Place.{Place}
use Rattle.board.specs.declared.Status.{Status}
use Rattle.board.specs.Board.{at_rest}
use Rattle.board.specs.Setters.{with_status}
use Rattle.board.specs.State.{State, state_of}
use Rattle.step.specs.Step.{reply_now, stepped}
use Rattle.port.specs.Packet.{packet_verdict}
use Rattle.sound.specs.Sound.{SoundMemory}
use Rattle.bus.specs.Events.{board_after_event, board_after_breakpoint}
use Rattle.bus.specs.EventLaws.{event_changes_status_alone, breakpoint_changes_status_alone}
use Rattle.promises.specs.Machine.{stand_in}
use Rattle.promises.specs.Environment.{Handed, handed, under_way, AllNops}
use Rattle.promises.specs.Environment.AllNops.{done}
use Rattle.promises.specs.History.{Lent, Call, lending, after_call, after, finds, Idle, nops}
use Rattle.promises.specs.History.Call.{packet, event, breakpoint}
use Rattle.promises.specs.History.Idle.{none, nop, with_event, with_breakpoint}
use Rattle.promises.specs.Demand3.{SameButStatus, Unmoved}
use Rattle.promises.proofs.SameNopLaws.{SameNop, same_nop}
use Rattle.promises.proofs.HistoryLaws.{Fits, within_is_accepted, call_fits, packet_fits}

-- two states with the same place, on boards that agree in all but the status
record Alike (s r : State) : Type 0 where
  place : s.place ≡ r.place
  board : SameButStatus s.board r.board

-- calls from one, and from the other the NOPs among them in a row
record StillAlike (s r : State) (ms : List Lent) (idle : List Call) : Type 0 where
  number : under_way stand_in s.place (finds stand_in s idle) ≡ under_way stand_in r.place (finds stand_in r (nops ms))
  ends : Alike (after stand_in s idle) (after stand_in r (nops ms))
  hands : handed stand_in s.place (finds stand_in s idle) ≡ handed stand_in r.place (finds stand_in r (nops ms))

same_with_status : (a b : Board) (s : Status) → SameButStatus a b → SameButStatus (with_status a s) b
same_with_status a b s h = record { setting = h.setting; registers = h.registers; debug = h.debug; fault = h.fault }

module _ (w : ℕ) where
  module _ (s : State) (h : Fits w s) (m : Lent) (limit : length m.bytes ≤ 65536) where
    accepted : packet_verdict (lending s m) 0 ≡ Ok tt
    accepted = within_is_accepted w s h m 0 limit (omega arith)

    lent_fits : SoundMemory m.bytes
    lent_fits = record { bytes = m.narrow; limit = limit }

    nop_fits : Fits w (stepped (lending s m) 0)
    nop_fits = packet_fits w s h m 0 lent_fits

    nop_after : (cs : List Call) → after stand_in s (packet m 0 ∷ cs) ≡ after stand_in (stepped (lending s m) 0) cs
    unfolding after
    nop_after cs = rw accepted

  -- the packets of the idle calls are NOPs, all accepted
  pub idle_found : (s : State) (ms : List Lent) (idle : List Call) → Idle ms idle → Fits w s → AllNops w (finds stand_in s idle)
      × (length (finds stand_in s idle) ≡ length ms)
  unfolding finds
  idle_found s ms idle none h = (done, refl)
  idle_found s ms idle (nop {ms = ns} {cs = cs} m limit i) h =
      let next : AllNops w (finds stand_in (stepped (lending s m) 0) cs) × (length (finds stand_in (stepped (lending s m) 0) cs) ≡ length ns) =
      idle_found (stepped (lending s m) 0) ns cs i (nop_fits s h m limit) in
      rw (accepted s h m limit) (AllNops.nop s.board m.bytes h.board (lent_fits s h m limit) next.0, ap suc next.1)
  idle_found s ms idle (with_event {cs = cs} e i) h = idle_found (after_call stand_in s (event e)) ms cs i (call_fits w s h (event e))
  idle_found s ms idle (with_breakpoint {cs = cs} i) h = idle_found (after_call stand_in s breakpoint) ms cs i (call_fits w s h breakpoint)

  module _ (s r : State) (hr : Fits w r) (alike : Alike s r) (m : Lent) where
    one_nop : SameNop s.board (lending r m)
    one_nop = same_nop w (lending r m) hr.board.setting hr.place.phase s.board alike.board

    -- the first state, at the place of the second
    there : stepped (lending s m) 0 ≡ stepped (state_of s.board r.place m.bytes) 0
    there = ap (λ (p : Place). stepped (state_of s.board p m.bytes) 0) alike.place

    alike_nop : Alike (stepped (lending s m) 0) (stepped (lending r m) 0)
    alike_nop = rw there (record { place = one_nop.place; board = one_nop.board })

    alike_memory : (stepped (lending s m) 0).memory ≡ (stepped (lending r m) 0).memory
    alike_memory = rw there one_nop.memory

  still_alike : (s r : State) (ms : List Lent) (idle : List Call) → Idle ms idle → Fits w s → Fits w r → Alike s r → StillAlike s r ms idle
  unfolding after finds under_way handed
  still_alike s r ms idle none hs hr alike = record { number = refl; ends = alike; hands = refl }
  still_alike s r ms idle (nop {ms = ns} {cs = cs} m limit i) hs hr alike =
      let next : StillAlike (stepped (lending s m) 0) (stepped (lending r m) 0) ns cs =
      still_alike (stepped (lending s m) 0) (stepped (lending r m) 0) ns cs i (nop_fits s hs m limit) (nop_fits r hr m limit) (alike_nop s r hr alike m) in
      let taken : packet_verdict (lending s m) 0 ≡ Ok tt = accepted s hs m limit in
      let too : packet_verdict (lending r m) 0 ≡ Ok tt = accepted r hr m limit in
      record {
        number = rw (taken, too) (ap₂ (λ (p : Place) (n : ℕ). cond (at_rest p.phase) 0 1 + n) alike.place next.number);
        ends = subst₂ Alike (sym (nop_after s hs m limit cs)) (sym (nop_after r hr m limit (nops ns))) next.ends;
        hands =
            rw (taken, too)
            (ap₂ (λ (x : Handed) (xs : List Handed). x ∷ xs)
            (ap₂ (λ (p : Place) (x : List ℕ). record { reply = reply_now p; memory = x }) alike.place (alike_memory s r hr alike m)) next.hands);
      }
  still_alike s r ms idle (with_event {cs = cs} e i) hs hr alike =
      let changed : SameButStatus (board_after_event s.board s.place e) r.board =
      rw (event_changes_status_alone s.board s.place e)
      (same_with_status s.board r.board (board_after_event s.board s.place e).status alike.board) in
      let next : StillAlike (after_call stand_in s (event e)) r ms cs =
      still_alike (after_call stand_in s (event e)) r ms cs i (call_fits w s hs (event e)) hr (record { place = alike.place; board = changed }) in
      record { number = next.number; ends = next.ends; hands = next.hands }
  still_alike s r ms idle (with_breakpoint {cs = cs} i) hs hr alike =
      let changed : SameButStatus (board_after_breakpoint s.board s.place) r.board =
      rw (breakpoint_changes_status_alone s.board s.place)
      (same_with_status s.board r.board (board_after_breakpoint s.board s.place).status alike.board) in
      let next : StillAlike (after_call stand_in s breakpoint) r ms cs =
      still_alike (after_call stand_in s breakpoint) r ms cs i (call_fits w s hs breakpoint) hr (record { place = alike.place; board = changed }) in
      record { number = next.number; ends = next.ends; hands = next.hands }

  pub idle_unmoved : (s : State) (ms : List Lent) (idle : List Call) → Idle ms idle → Fits w s → Unmoved stand_in s ms idle
  idle_unmoved s ms idle i h =
      let all : StillAlike s s ms idle =
      still_alike s s ms idle i h h (record { place = refl; board = record { setting = refl; registers = refl; debug = refl; fault = refl } }) in
      record { number = all.number; place = all.ends.place; board = all.ends.board; handed = all.hands }
