-- [6] "a mark absent means what 01 says today": 01's answer and board as they were defined before the request, and that an event without a mark has them.
use Rattle.std.specs.Prelude.{ℕ, ◌≡◌, refl, Bool, false, ◌||◌, List, [], Err, None, Ok, Option, Result, ⊤}
use Rattle.grounds.specs.declared.Ground.{Ground}
use Rattle.std.proofs.Math.Bool.{or-false}
use Rattle.grounds.specs.Grounds.{Refusal, refusal_of, no_refusal, if_accepted}
use Rattle.board.specs.declared.Board.{Board}
use Rattle.board.specs.declared.Place.{Place}
use Rattle.board.specs.declared.Status.{Status}
use Rattle.board.specs.declared.Debug.{Debug}
use Rattle.board.specs.Setters.{with_status, with_halted, with_trg, with_bstat, with_sync}
use Rattle.halting.specs.Halting.{halting}
use Rattle.trigger.specs.declared.Event.{Event}
use Rattle.firing.specs.declared.Firing.{Firing}
use Rattle.firing.specs.Firing.{firing, ssm, captured, seen, status_after}
use Rattle.bus.specs.EventAnswers.{told_captured, EventTold, told_event}
use Rattle.bus.specs.Events.{event_verdict, event_outcome, board_after_event}

-- ---- the definitions before the request; the verdict, the firing and the PC handed out are those of today
pub record SeenBefore : Type 0 where
  pub level : ℕ
  pub halted : Bool
  pub interrupt : Bool
  pub captured : Option ℕ

abbrev halted_before : Debug → Firing → Bool
halted_before d f = f.halts || ssm d

abbrev pub seen_before : Status → Debug → Event → Firing → SeenBefore
seen_before s d event f =
    record { level = f.level; halted = halted_before d f; interrupt = f.interrupts; captured = captured s.sync event.pc }

abbrev pub status_before : Status → Debug → Firing → Status
status_before s d f = with_sync (with_bstat (with_trg (with_halted s (halted_before d f)) (s.trg || f.halts)) f.bstat) false

pub record ToldBefore : Type 0 where
  pub refusal : Refusal
  pub level : ℕ
  pub halted : Bool
  pub interrupt : Bool
  pub captured : List ℕ

abbrev pub told_before : Result ⊤ Ground → SeenBefore → ToldBefore
told_before (Ok _) s =
    record { refusal = no_refusal; level = s.level; halted = s.halted; interrupt = s.interrupt; captured = told_captured s.captured }
told_before (Err g) s = record { refusal = refusal_of g; level = 0; halted = false; interrupt = false; captured = [] }

abbrev pub board_before : Board → Place → Event → Board
board_before b p event = if_accepted (event_verdict b p event) (with_status b (status_before b.status b.debug (firing b.status b.debug event))) b

-- ---- an event without a mark
-- the answer but for what [6] adds to it
abbrev pub without_ignored : EventTold → ToldBefore
without_ignored t = record { refusal = t.refusal; level = t.level; halted = t.halted; interrupt = t.interrupt; captured = t.captured }

pub record AsBefore (b : Board) (p : Place) (event : Event) : Type 0 where
  pub answer : without_ignored (told_event (event_outcome b p event))
      ≡ told_before (event_verdict b p event) (seen_before b.status b.debug event (firing b.status b.debug event))
  pub silent : (told_event (event_outcome b p event)).ignored ≡ []
  pub board : board_after_event b p event ≡ board_before b p event

-- for every event and board
pub unmarked_as_before : (b : Board) (p : Place) (event : Event) → event.mark ≡ None → AsBefore b p event
unfolding seen status_after halting
unmarked_as_before b p event absent = by_verdict (event_verdict b p event) refl
  where
    by_verdict : (v : Result ⊤ Ground) → event_verdict b p event ≡ v → AsBefore b p event
    by_verdict (Ok _) e = record {
      answer = rw (e, absent, or-false (ssm b.debug));
      silent = rw (e, absent);
      board = rw (e, absent, or-false (ssm b.debug), or-false b.status.halt);
    }
    by_verdict (Err g) e = record { answer = rw e; silent = rw e; board = rw e }
