-- Laws of what the types give: with the ranges of 12 and of 3 it is all that a packet needs.
use Rattle.std.specs.Prelude.{ℕ, ◌≤◌, ◌≡◌, refl, Bool, true, ◌&&◌, leb, length}
use Rattle.std.proofs.Common.{leb-true}
use Rattle.laws.specs.TestLaws.{both_hold}
use Rattle.command.specs.Command.{operand_words, waits}
use Rattle.board.specs.declared.Phase.{Phase}
use Rattle.board.specs.declared.Phase.TheVariants.{Rest, Due, Waiting, Upper}
use Rattle.ranges.specs.Ranges.{phase_in_range, bstat_in_range, board_in_range, place_in_range, in_range}
use Rattle.board.specs.State.{State}
use Rattle.sound.specs.Sound.{PhaseWithin, Sound}
use Rattle.exchange.specs.ExchangeMirror.{PhaseTyped, Typed}

phase_fits : (w : ℕ) (phase : Phase) → phase_in_range w phase ≡ true → PhaseTyped phase → PhaseWithin w phase
phase_fits w Rest h t = tt
phase_fits w (Due c left o) h t =
    let lefts = both_hold (leb 1 left) (leb left (operand_words c)) h in (leb-true 1 left lefts.0, leb-true left (operand_words c) lefts.1, t)
phase_fits w (Waiting c left a v) h t =
    let waiting = both_hold (leb 1 left && leb left w) (waits c) h in
    let lefts = both_hold (leb 1 left) (leb left w) waiting.0 in
    (leb-true 1 left lefts.0, leb-true left w lefts.1, waiting.1, t.0, t.1)
phase_fits w (Upper low) h t = t

pub typed_is_sound : {s : State} → Typed s → in_range s.board s.place ≡ true → length s.memory ≤ 65536 → Sound s
unfolding in_range
typed_is_sound {s} t h limit =
    let w = s.board.w in
    let phase : Bool = phase_in_range w s.place.phase in
    let next : Bool = leb s.place.next 0x1FFFF in
    let ranges = both_hold (board_in_range s.board) (place_in_range w s.place) h in
    let board = both_hold (leb w 15) (bstat_in_range s.board.status.bstat) ranges.0 in
    let place = both_hold (phase && next) (leb s.place.pointer 65536) ranges.1 in
    let held = both_hold phase next place.0 in
    record {
      board = record { setting = refl; small = leb-true w 15 board.0; bstat = board.1; general = t.general; control = t.control; debug = t.debug };
      place =
          record {
            phase = phase_fits w s.place.phase held.0 t.phase;
            next = leb-true s.place.next 0x1FFFF held.1;
            pointer = leb-true s.place.pointer 65536 place.1;
          };
      memory = record { limit = limit; bytes = t.bytes };
    }
