-- Demand 3: what every call of a history keeps, and a history as one place in the environment that its calls make.
use Rattle.std.specs.Prelude.{ℕ, ◌≤◌, ◌≡◌, refl, true, leb, length, Err, Ok, Result, ⊤}
use Rattle.grounds.specs.declared.Ground.{Ground}
use Rattle.std.proofs.Common.{ap, leb-true}
use mathlib.Core.List.{List, [], ◌∷◌, ◌++◌}
use Rattle.laws.specs.TestLaws.{both_hold}
use Rattle.grounds.specs.declared.Ground.TheVariants.{WordTooLarge, MemoryTooLong, StateOutOfRange}
use Rattle.grounds.specs.Grounds.{check, if_accepted}
use Rattle.grounds.specs.GroundLaws.{accepted_holds}
use Rattle.board.specs.declared.Board.{Board}
use Rattle.board.specs.declared.Place.{Place}
use Rattle.ranges.specs.Ranges.{bstat_in_range, board_in_range, place_in_range, in_range}
use Rattle.board.specs.State.{State, state_of}
use Rattle.trigger.specs.declared.Event.{Event}
use Rattle.step.specs.Step.{stepped}
use Rattle.port.specs.Packet.{packet_verdict}
use Rattle.port.specs.PacketLaws.{no_other}
use Rattle.sound.specs.Sound.{SoundBoard, SoundPlace, SoundMemory}
use Rattle.sound.specs.SoundLaws.{packet_keeps_board, packet_keeps_place, status_keeps, sound_is_in_range, fresh_board_is_sound, fresh_place_is_sound}
use Rattle.bus.specs.Events.{board_after_event, board_after_breakpoint}
use Rattle.bus.specs.EventLaws.{event_changes_status_alone, breakpoint_changes_status_alone, event_keeps_ranges, breakpoint_keeps_ranges}
use Rattle.promises.specs.Machine.{stand_in}
use Rattle.promises.specs.Environment.{Found, Trail, noted, trail, AllFit}
use Rattle.promises.specs.Environment.AllFit.{none, more}
use Rattle.promises.specs.History.{Lent, Call, lending, finding, after_call, after, found_by, finds, made}
use Rattle.promises.specs.History.Call.{packet, event, breakpoint}

-- memory is lent anew with each packet: what it holds between is nobody's
pub record Fits (w : ℕ) (s : State) : Type 0 where
  pub board : SoundBoard w s.board
  pub place : SoundPlace w s.place

pub fresh_fits : (w : ℕ) → w ≤ 15 → Fits w (made w)
fresh_fits w small = record { board = fresh_board_is_sound w small; place = fresh_place_is_sound w }

-- an accepted packet has passed grounds 3 and 1
accepted_within : (s : State) (word : ℕ) → packet_verdict s word ≡ Ok tt → (length s.memory ≤ 65536) × (word ≤ 0x1FFFF)
unfolding packet_verdict
accepted_within s word e =
    let small = check (leb word 0x1FFFF) WordTooLarge ∷ [] in
    let short = check (leb (length s.memory) 65536) MemoryTooLong ∷ small in
    let past-12 = (accepted_holds (in_range s.board s.place) StateOutOfRange short e).1 in
    let past-3 = accepted_holds (leb (length s.memory) 65536) MemoryTooLong small past-12 in
    (leb-true _ _ past-3.0, leb-true _ _ (accepted_holds (leb word 0x1FFFF) WordTooLarge [] past-3.1).0)

-- events and breakpoint inputs change the status alone, and leave BSTAT in its range
ranged_bstat : (b : Board) (p : Place) → in_range b p ≡ true → bstat_in_range b.status.bstat ≡ true
unfolding in_range
ranged_bstat b p h = (both_hold (leb b.w 15) (bstat_in_range b.status.bstat) (both_hold (board_in_range b) (place_in_range b.w p) h).0).1

module _ (w : ℕ) (s : State) (h : Fits w s) where
  pub ranged : in_range s.board s.place ≡ true
  ranged = sound_is_in_range w s.board s.place h.board h.place

  event_fits : (e : Event) → SoundBoard w (board_after_event s.board s.place e)
  event_fits e =
      let after = board_after_event s.board s.place e in
      rw (event_changes_status_alone s.board s.place e)
      (status_keeps w s.board h.board after.status (ranged_bstat after s.place (event_keeps_ranges s.board s.place e ranged)))

  breakpoint_fits : SoundBoard w (board_after_breakpoint s.board s.place)
  breakpoint_fits =
      let after = board_after_breakpoint s.board s.place in
      rw (breakpoint_changes_status_alone s.board s.place)
      (status_keeps w s.board h.board after.status (ranged_bstat after s.place (breakpoint_keeps_ranges s.board s.place ranged)))

  -- "Order: packets 12, 3, 1": none of them
  pub within_is_accepted : (m : Lent) (word : ℕ) → length m.bytes ≤ 65536 → word ≤ 0x1FFFF → packet_verdict (lending s m) word ≡ Ok tt
  within_is_accepted m word limit small = no_other (lending s m) word ranged limit small

  memory_fits : (m : Lent) (word : ℕ) → packet_verdict (lending s m) word ≡ Ok tt → SoundMemory m.bytes
  memory_fits m word e = record { bytes = m.narrow; limit = (accepted_within (lending s m) word e).0 }

  pub packet_fits : (m : Lent) (word : ℕ) → SoundMemory m.bytes → Fits w (stepped (lending s m) word)
  packet_fits m word fits = record {
    board = packet_keeps_board w (lending s m) h.board h.place fits word;
    place = packet_keeps_place w (lending s m) h.board h.place fits word;
  }

  pub call_fits : (c : Call) → Fits w (after_call stand_in s c)
  call_fits (packet m word) = by (packet_verdict (lending s m) word) refl
    where
      by : (v : Result ⊤ Ground) → packet_verdict (lending s m) word ≡ v → Fits w (if_accepted v (stepped (lending s m) word) (lending s m))
      by (Ok _) e = packet_fits m word (memory_fits m word e)
      by (Err g) e = record { board = h.board; place = h.place }
  call_fits (event e) = record { board = event_fits e; place = h.place }
  call_fits breakpoint = record { board = breakpoint_fits; place = h.place }

  found_fits : (c : Call) (fs : List Found) → AllFit w fs → AllFit w (found_by stand_in s c fs)
  found_fits (packet m word) fs others = by (packet_verdict (lending s m) word) refl
    where
      by : (v : Result ⊤ Ground) → packet_verdict (lending s m) word ≡ v → AllFit w (if_accepted v (finding s m word ∷ fs) fs)
      by (Ok _) e = more (record { board = h.board; memory = memory_fits m word e; word = (accepted_within (lending s m) word e).1 }) others
      by (Err g) e = others
  found_fits (event e) fs others = others
  found_fits breakpoint fs others = others

module _ (w : ℕ) where
  pub history_fits : (s : State) (cs : List Call) → Fits w s → Fits w (after stand_in s cs)
  unfolding after
  history_fits s [] h = h
  history_fits s (c ∷ cs) h = history_fits (after_call stand_in s c) cs (call_fits w s h c)

  pub finds_fit : (s : State) (cs : List Call) → Fits w s → AllFit w (finds stand_in s cs)
  unfolding finds
  finds_fit s [] h = none
  finds_fit s (c ∷ cs) h = found_fits w s h c (finds stand_in (after_call stand_in s c) cs) (finds_fit (after_call stand_in s c) cs (call_fits w s h c))

-- one history after another
pub after_both : (s : State) (xs ys : List Call) → after stand_in s (xs ++ ys) ≡ after stand_in (after stand_in s xs) ys
unfolding after
after_both s [] ys = refl
after_both s (x ∷ xs) ys = after_both (after_call stand_in s x) xs ys

-- the place that a history leads to is the place of its trail
along : (v : Result ⊤ Ground) (s taken : State) (t : Trail) (f : Found) (cs : List Call)
    → (after stand_in taken cs).place ≡ (trail stand_in (noted stand_in t f) (finds stand_in taken cs)).place
    → (after stand_in s cs).place ≡ (trail stand_in t (finds stand_in s cs)).place
    → (after stand_in (if_accepted v taken s) cs).place
    ≡ (trail stand_in t (if_accepted v (f ∷ finds stand_in (if_accepted v taken s) cs) (finds stand_in (if_accepted v taken s) cs))).place
unfolding trail
along (Ok _) s taken t f cs accepted refused = accepted
along (Err g) s taken t f cs accepted refused = refused

pub place_of_trail : (s : State) (t : Trail) (cs : List Call) → s.place ≡ t.place → (after stand_in s cs).place ≡ (trail stand_in t (finds stand_in s cs)).place
unfolding after finds trail
place_of_trail s t [] e = e
place_of_trail s t (packet m word ∷ cs) e =
    along (packet_verdict (lending s m) word) (lending s m) (stepped (lending s m) word) t (finding s m word) cs
    (place_of_trail (stepped (lending s m) word) (noted stand_in t (finding s m word)) cs
    (ap (λ (p : Place). (stepped (state_of s.board p m.bytes) word).place) e))
    (place_of_trail (lending s m) t cs e)
place_of_trail s t (event e ∷ cs) q = place_of_trail (after_call stand_in s (event e)) t cs q
place_of_trail s t (breakpoint ∷ cs) q = place_of_trail (after_call stand_in s breakpoint) t cs q
