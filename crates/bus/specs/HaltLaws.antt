-- Laws of HALT ([6] of 02) at an event: what a mark does not touch, what halts the processor, what sets CSR[HALT], and what clears it.
use Rattle.std.specs.Prelude.{ℕ, ◌≡◌, refl, false, ◌||◌, Err, Ok, Option, Result, ⊤}
use Rattle.halting.specs.declared.Privilege.{Privilege}
use Rattle.grounds.specs.declared.Ground.{Ground}
use Rattle.command.specs.Command.{rdmreg, go}
use Rattle.board.specs.declared.Board.{Board}
use Rattle.board.specs.declared.Place.{Place}
use Rattle.board.specs.declared.Status.{Status}
use Rattle.board.specs.declared.Debug.{Debug}
use Rattle.board.specs.Setters.{with_status, with_halted, with_halt}
use Rattle.registers.specs.Registers.{board_after}
use Rattle.trigger.specs.declared.Event.{Event}
use Rattle.trigger.specs.Fired.{fires, fired_level}
use Rattle.firing.specs.Firing.{firing, ssm, halt_of, halted_itself, seen, status_after}
use Rattle.bus.specs.EventAnswers.{told_halting, EventTold, told_event}
use Rattle.bus.specs.Events.{event_verdict, event_outcome, board_after_event}

-- the event with another mark, or with none
abbrev pub marked : Option Privilege → Event → Event
marked m event = record { pc = event.pc; bus = event.bus; mark = m }

abbrev told : Board → Place → Event → EventTold
told b p event = told_event (event_outcome b p event)

-- [6] "A breakpoint on the same event is judged first": the level that fires, BSTAT, TRG, an interrupt asked and the PC handed out are the same with any mark,
-- and so is a refusal; of the board nothing but halted and HALT can differ
pub record SameBut (b : Board) (p : Place) (event other : Event) : Type 0 where
  pub refusal : (told b p event).refusal ≡ (told b p other).refusal
  pub level : (told b p event).level ≡ (told b p other).level
  pub interrupt : (told b p event).interrupt ≡ (told b p other).interrupt
  pub captured : (told b p event).captured ≡ (told b p other).captured
  pub trg : (board_after_event b p event).status.trg ≡ (board_after_event b p other).status.trg
  pub bstat : (board_after_event b p event).status.bstat ≡ (board_after_event b p other).status.bstat
  pub board : board_after_event b p event
      ≡ with_status (board_after_event b p other)
      (with_halt (with_halted (board_after_event b p other).status (board_after_event b p event).status.halted) (board_after_event b p event).status.halt)

same_verdict : (b : Board) (p : Place) (event : Event) (m : Option Privilege) → event_verdict b p (marked m event) ≡ event_verdict b p event
unfolding event_verdict
same_verdict b p event m = refl

same_firing : (s : Status) (d : Debug) (event : Event) (m : Option Privilege) → firing s d (marked m event) ≡ firing s d event
unfolding firing fired_level fires
same_firing s d event m = refl

pub same_with_any_mark : (b : Board) (p : Place) (event : Event) (m : Option Privilege) → SameBut b p (marked m event) event
unfolding seen status_after
same_with_any_mark b p event m = by_verdict (event_verdict b p event) refl (same_verdict b p event m) (same_firing b.status b.debug event m)
  where
    by_verdict : (v : Result ⊤ Ground) → event_verdict b p event ≡ v → event_verdict b p (marked m event) ≡ event_verdict b p event
        → firing b.status b.debug (marked m event) ≡ firing b.status b.debug event → SameBut b p (marked m event) event
    by_verdict (Ok _) e verdict fired = record {
      refusal = rw (verdict, e);
      level = rw (verdict, e, fired);
      interrupt = rw (verdict, e, fired);
      captured = rw (verdict, e);
      trg = rw (verdict, e, fired);
      bstat = rw (verdict, e, fired);
      board = rw (verdict, e, fired);
    }
    by_verdict (Err g) e verdict fired = record {
      refusal = rw (verdict, e);
      level = rw (verdict, e);
      interrupt = rw (verdict, e);
      captured = rw (verdict, e);
      trg = rw (verdict, e);
      bstat = rw (verdict, e);
      board = rw (verdict, e);
    }

-- an accepted event: what it is answered of a halt, and what it leaves
pub record HaltedBy (b : Board) (p : Place) (event : Event) : Type 0 where
  -- halted by it exactly if the breakpoint, SSM or HALT says so
  pub halted : (told b p event).halted ≡ ((firing b.status b.debug event).halts || (ssm b.debug || halted_itself b.debug event))
  pub stops : (board_after_event b p event).status.halted ≡ (told b p event).halted
  -- [6] "halts nothing and the answer says so"
  pub ignored : (told b p event).ignored ≡ told_halting (halt_of b.debug event)
  -- HALT is set exactly if the program halted itself, TRG exactly if the breakpoint halts: [6] "both flags may be set"
  pub halt : (board_after_event b p event).status.halt ≡ (b.status.halt || halted_itself b.debug event)
  pub trg : (board_after_event b p event).status.trg ≡ (b.status.trg || (firing b.status b.debug event).halts)
  pub bkpt : (board_after_event b p event).status.bkpt ≡ b.status.bkpt

pub halting_of_event : (b : Board) (p : Place) (event : Event) → event_verdict b p event ≡ Ok tt → HaltedBy b p event
unfolding seen status_after
halting_of_event b p event accepted =
    record { halted = rw accepted; stops = rw accepted; ignored = rw accepted; halt = rw accepted; trg = rw accepted; bkpt = rw accepted }

-- "Reading clears FOF, TRG, HALT, BKPT"; "GO clears TRG, HALT, BKPT": as ever
pub csr_read_clears_halt : (b : Board) (address value : ℕ) → (board_after rdmreg b address value).status.halt ≡ false
csr_read_clears_halt b address value = refl

pub go_clears_halt : (b : Board) (address value : ℕ) → (board_after go b address value).status.halt ≡ false
go_clears_halt b address value = refl
