-- Demand 3 of one place in any environment: 4 + W NOPs bring it to rest, and none of them is taken as a command word before.
use Rattle.std.specs.Prelude.{ℕ, suc, ◌+◌, ◌-◌, ◌≤◌, ◌≡◌, refl, Bool, true, false, cond, List, [], ◌∷◌, length}
use Rattle.std.proofs.Common.{zero-le, ap, arith}
use Rattle.board.specs.declared.Place.{Place}
use Rattle.board.specs.Board.{at_rest}
use Rattle.step.specs.Step.{stepped}
use Rattle.rest.specs.ToGoLaws.{to_go, to_go_at_most, none_to_go, some_to_go}
use Rattle.rest.specs.NopLaws.{nop_takes_one_off}
use Rattle.promises.specs.Machine.{stand_in}
use Rattle.promises.specs.TakenWords.{Word, Stage, stage, is_closed}
use Rattle.promises.specs.TakenWords.Stage.{operand_due, wait_due, upper_due, closed}
use Rattle.promises.specs.Environment.{Found, found_at, Trail, heard_at, heard, noted, trail, begun, under_way, AllFit, AllNops}
use Rattle.promises.specs.Demand3.{last_closed, PlaceRests}
use Rattle.sound.specs.Sound.{SoundPlace}
use Rattle.sound.specs.SoundLaws.{packet_keeps_place, fresh_place_is_sound}
use Rattle.promises.specs.Environment.AllFit.{none, more}
use Rattle.promises.specs.Environment.AllNops.{done, nop}
use Rattle.promises.proofs.PlaceClosingLaws.{Kept, kept_noted, kept_from_fresh, place_closes_kept}

pub place_fits_trail : (w : ℕ) (t : Trail) (fs : List Found) → AllFit w fs → SoundPlace w t.place → SoundPlace w (trail stand_in t fs).place
unfolding trail
place_fits_trail w t fs none h = h
place_fits_trail w t fs (more {f = f} {fs = gs} fits others) h =
    place_fits_trail w (noted stand_in t f) gs others (packet_keeps_place w (found_at f t.place) fits.board h fits.memory f.word)

-- a packet is taken as a command word exactly where the last word is closed
one_word_more : (f : Found) (p : Place) (os : List Word) → length (heard f p os) + cond (last_closed os) 0 1 ≡ suc (length os)
one_word_more f p [] = refl
one_word_more f p (o ∷ os) = at (stage o)
  where
    at : (s : Stage) → length (heard_at s f p o os) + cond (is_closed s) 0 1 ≡ suc (suc (length os))
    at operand_due = omega arith
    at wait_due = omega arith
    at (upper_due upper) = omega arith
    at (closed last) = omega arith

one_at_most : (t : Bool) → cond t 0 1 ≤ 1
one_at_most true = omega arith
one_at_most false = omega arith

-- so many NOPs as there are packets to go
record Brings (w : ℕ) (t : Trail) (fs : List Found) : Type 0 where
  rest : to_go w t.place.phase ≤ length fs → at_rest (trail stand_in t fs).place.phase ≡ true
  number : under_way stand_in t.place fs ≤ to_go w t.place.phase
  words : length (trail stand_in t fs).words + under_way stand_in t.place fs ≡ length t.words + length fs

brings : (w : ℕ) (t : Trail) (fs : List Found) → AllNops w fs → Kept w t → SoundPlace w t.place → Brings w t fs
unfolding trail under_way
brings w t fs done k h = record { rest = λ l. ap at_rest (none_to_go w t.place.phase h.phase l); number = zero-le; words = refl }
brings w t fs (nop {fs = gs} b m board memory others) k h =
    let f : Found = record { board = b; memory = m; word = 0 } in
    let one : to_go w (stepped (found_at f t.place) 0).place.phase ≤ to_go w t.place.phase - 1 =
    nop_takes_one_off w (found_at f t.place) board.setting h.phase in
    let next : Brings w (noted stand_in t f) gs =
    brings w (noted stand_in t f) gs others (kept_noted w t f board.setting k) (packet_keeps_place w (found_at f t.place) board h memory 0) in
    let taken : length (heard f t.place t.words) + cond (at_rest t.place.phase) 0 1 ≡ suc (length t.words) =
    rw (place_closes_kept w t k).rests (one_word_more f t.place t.words) in
    record {
      rest = λ l. next.rest (omega arith);
      number = omega (arith, next.number, some_to_go w t.place.phase h.phase, one_at_most (at_rest t.place.phase));
      words = omega (arith, next.words);
    }

pub place_rests_from : (w : ℕ) (t : Trail) (fs : List Found) → AllNops w fs → Kept w t → SoundPlace w t.place → PlaceRests stand_in w t fs
place_rests_from w t fs nops k h =
    let all : Brings w t fs = brings w t fs nops k h in
    let most : to_go w t.place.phase ≤ 4 + w = to_go_at_most w t.place.phase h.phase in
    record { enough = λ l. all.rest (omega arith); at_most = omega (arith, all.number); none_taken = all.words }

-- Whatever each packet before has found and each NOP finds, 4 + W NOPs bring the place to rest.
pub place_rests : (w : ℕ) (before idle : List Found) → AllFit w before → AllNops w idle → PlaceRests stand_in w (trail stand_in begun before) idle
place_rests w before idle fit nops =
    place_rests_from w (trail stand_in begun before) idle nops (kept_from_fresh w before fit) (place_fits_trail w begun before fit (fresh_place_is_sound w))
