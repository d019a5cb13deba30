-- Laws of the event and the breakpoint input: what they leave alone, and that the ranges of ground 12 stay kept.
use Rattle.std.specs.Prelude.{ℕ, ◌≡◌, refl, Bool, true, false, cond, not, eqb, leb, Err, Ok, Result, ⊤}
use Rattle.laws.specs.TestLaws.{both_hold}
use Rattle.grounds.specs.declared.Ground.{Ground}
use Rattle.grounds.specs.declared.Ground.TheVariants.{EventWhileHalted, StateOutOfRange}
use Rattle.grounds.specs.Grounds.{if_accepted}
use Rattle.board.specs.declared.Board.{Board}
use Rattle.board.specs.declared.Place.{Place}
use Rattle.board.specs.declared.Status.{Status}
use Rattle.ranges.specs.Ranges.{bstat_in_range, board_in_range, place_in_range, in_range}
use Rattle.board.specs.Setters.{with_status}
use Rattle.trigger.specs.declared.Event.{Event}
use Rattle.trigger.specs.Levels.{level_two}
use Rattle.trigger.specs.Fired.{fired_level}
use Rattle.firing.specs.Firing.{bstat_after, firing, status_after}
use Rattle.firing.specs.Breakpoint.{pressed, status_pressed}
use Rattle.bus.specs.Events.{event_verdict, breakpoint_verdict, board_after_event, board_after_breakpoint}

-- whatever the verdict, only the status may change: W, the registers and the debug registers stay
by_status_alone : (v : Result ⊤ Ground) (b : Board) (s : Status) → if_accepted v (with_status b s) b ≡ with_status b (if_accepted v (with_status b s) b).status
by_status_alone (Ok _) b s = refl
by_status_alone (Err g) b s = refl

pub event_changes_status_alone : (b : Board) (p : Place) (e : Event) → board_after_event b p e ≡ with_status b (board_after_event b p e).status
event_changes_status_alone b p e = by_status_alone (event_verdict b p e) b (status_after b.status b.debug e (firing b.status b.debug e))

pub breakpoint_changes_status_alone : (b : Board) (p : Place) → board_after_breakpoint b p ≡ with_status b (board_after_breakpoint b p).status
breakpoint_changes_status_alone b p = by_status_alone (breakpoint_verdict b p) b (status_pressed b.status (pressed b.status b.debug))

-- "a bus event while halted" is refused: one that is accepted finds the processor running
pub accepted_while_running : (b : Board) (p : Place) (e : Event) → event_verdict b p e ≡ Ok tt → b.status.halted ≡ false
unfolding event_verdict
accepted_while_running b p e accepted = by (in_range b p) b.status.halted _ accepted
  where
    by : (within halted : Bool) (rest : Result ⊤ Ground) → cond within (cond (not halted) rest (Err EventWhileHalted)) (Err StateOutOfRange) ≡ Ok tt
        → halted ≡ false
    by true true rest h = cc
    by true false rest h = refl
    by false halted rest h = cc

pub refused_event_changes_nothing : (b : Board) (p : Place) (e : Event) (g : Ground) → event_verdict b p e ≡ Err g → board_after_event b p e ≡ b
refused_event_changes_nothing b p e g refused = rw refused

pub refused_breakpoint_changes_nothing : (b : Board) (p : Place) (g : Ground) → breakpoint_verdict b p ≡ Err g → board_after_breakpoint b p ≡ b
refused_breakpoint_changes_nothing b p g refused = rw refused

-- a firing leaves BSTAT within its range
bstat_stays_in_range : (level tdr bstat : ℕ) → bstat_in_range bstat ≡ true → bstat_in_range (bstat_after level tdr bstat) ≡ true
unfolding bstat_after bstat_in_range
bstat_stays_in_range level tdr bstat within = by_tests (eqb level 1) (level_two tdr).ebl (eqb level 2)
  where
    by_tests : (one ebl two : Bool) → bstat_in_range (cond one (cond ebl 5 2) (cond two 6 bstat)) ≡ true
    by_tests true true two = refl
    by_tests true false two = refl
    by_tests false ebl true = refl
    by_tests false ebl false = within

-- of the ranges, only BSTAT's speaks of the status
in_range_with : (b : Board) (p : Place) (s : Status) → in_range b p ≡ true → (bstat_in_range b.status.bstat ≡ true → bstat_in_range s.bstat ≡ true)
    → in_range (with_status b s) p ≡ true
unfolding in_range
in_range_with b p s within kept =
    let parts = both_hold (board_in_range b) (place_in_range b.w p) within in
    let board = both_hold (leb b.w 15) (bstat_in_range b.status.bstat) parts.0 in
    rw (board.0, kept board.1) parts.1

in_range_by : (v : Result ⊤ Ground) (b : Board) (p : Place) (s : Status) → in_range b p ≡ true
    → (bstat_in_range b.status.bstat ≡ true → bstat_in_range s.bstat ≡ true)
    → in_range (if_accepted v (with_status b s) b) p ≡ true
in_range_by (Ok _) b p s within kept = in_range_with b p s within kept
in_range_by (Err g) b p s within kept = within

pub event_keeps_ranges : (b : Board) (p : Place) (e : Event) → in_range b p ≡ true → in_range (board_after_event b p e) p ≡ true
unfolding status_after firing
event_keeps_ranges b p e within =
    in_range_by (event_verdict b p e) b p (status_after b.status b.debug e (firing b.status b.debug e)) within
    (bstat_stays_in_range (fired_level b.status.bstat b.debug e) b.debug.tdr b.status.bstat)

pub breakpoint_keeps_ranges : (b : Board) (p : Place) → in_range b p ≡ true → in_range (board_after_breakpoint b p) p ≡ true
unfolding status_pressed
breakpoint_keeps_ranges b p within =
    in_range_by (breakpoint_verdict b p) b p (status_pressed b.status (pressed b.status b.debug)) within (λ same. same)
