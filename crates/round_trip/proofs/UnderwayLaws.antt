-- Laws of the exchange under way: where its two loops stand, and how each packet takes them on.
use Prim.Native.Nat.{ℕ, zero, suc, ◌+◌, ◌-◌, ◌≤◌}
use native.Mathlib.Omega.{arith}
use Rattle.std.proofs.Common.{add-one, ◌∙◌}
use Rattle.std.proofs.Math.Path.{◌≡◌, refl, sym}
use Rattle.std.proofs.Math.Bool.{true, false}
use Rattle.std.specs.Prelude.{List, [], ◌∷◌, get_or}
use Rattle.board.specs.Board.{at_rest}
use Rattle.step.specs.Step.{reply_now, stepped}
use Rattle.board.specs.State.{State}
use Rattle.sound.specs.Sound.{Sound}
use Rattle.sound.specs.SoundLaws.{packet_keeps_sound}
use Rattle.requests.specs.declared.Request.{Request}
use Rattle.readings.specs.declared.Reader.{Reader}
use Rattle.readings.specs.declared.Reader.TheVariants.{First}
use Rattle.requests.specs.Request.{in_range, kind_of}
use Rattle.building.specs.RequestWords.{command_word, built_words}
use Rattle.building.specs.RequestWordLaws.{Clear, built_clear}
use Rattle.readings.specs.Reader.{after_reply, done}
use Rattle.round_trip.specs.BroughtToRest.{rested, rest_nops, rest_budget}
use Rattle.round_trip.specs.TalkMirror.{talk, talked, talk_budget, from_command, exchanged}
use Rattle.round_trip.proofs.BroughtToRestLaws.{comes_to_rest}
use Rattle.round_trip.proofs.TalkLaws.{exchange_comes_to}

-- ---- bringing to rest: n NOPs are sent
pub record RestUnderway (n : ℕ) (s start : State) : Type 0 where
  pub within : n ≤ rest_budget
  pub sound : Sound s
  pub state : rested (rest_budget - n) s ≡ rested rest_budget start
  pub count : n + rest_nops (rest_budget - n) s ≡ rest_nops rest_budget start
  pub rests : at_rest (rested rest_budget start).place.phase ≡ true

pub rest_begins : {s : State} → Sound s → RestUnderway 0 s s
rest_begins {s} f = record { within = omega arith; sound = f; state = refl; count = omega arith; rests = comes_to_rest f }

-- while the place is not at rest the budget is not used up
more_to_rest : (k : ℕ) (s : State) → at_rest s.place.phase ≡ false → at_rest (rested k s).place.phase ≡ true → 1 ≤ k
unfolding rested
more_to_rest zero s t h = let z : true ≡ false = sym h ∙ t in let y : ◌≡◌ {A = ℕ} 0 1 = cc in omega arith
more_to_rest (suc k) s t h = omega arith

rest_more : (k : ℕ) (s : State) → at_rest s.place.phase ≡ false
    → (rested (suc k) s ≡ rested k (stepped s 0)) × (rest_nops (suc k) s ≡ suc (rest_nops k (stepped s 0)))
unfolding rested rest_nops
rest_more k s t = rw t (refl, refl)

pub rest_goes_on : {n : ℕ} {s start : State} → RestUnderway n s start → at_rest s.place.phase ≡ false → RestUnderway (n + 1) (stepped s 0) start
rest_goes_on {n} {s} {start} u t =
    let more : 1 ≤ rest_budget - n = more_to_rest (rest_budget - n) s t (rw u.state u.rests) in
    let k = rest_budget - (n + 1) in
    let budget : rest_budget - n ≡ suc k = omega arith in
    let next = rest_more k s t in
    record {
      within = omega arith;
      sound = packet_keeps_sound u.sound 0;
      state = sym next.0 ∙ (rw budget at u.state);
      count = omega (arith, next.1, rw budget at u.count);
      rests = u.rests;
    }

pub rest_stays : (k : ℕ) (s : State) → at_rest s.place.phase ≡ true → (rested k s ≡ s) × (rest_nops k s ≡ 0)
unfolding rested rest_nops
rest_stays zero s t = (refl, refl)
rest_stays (suc k) s t = rw t (refl, refl)

pub rest_is_reached : {n : ℕ} {s start : State} → RestUnderway n s start → at_rest s.place.phase ≡ true
    → (s ≡ rested rest_budget start) × (n ≡ rest_nops rest_budget start)
rest_is_reached {n} {s} u t =
    let stays = rest_stays (rest_budget - n) s t in
    (sym stays.0 ∙ u.state, omega (arith, stays.1, u.count))

-- ---- sending and reading: so many packets of the request are sent
pub record TalkUnderway (request : Request) (sent : ℕ) (reader : Reader) (s start : State) : Type 0 where
  pub begun : 1 ≤ sent
  pub within : sent ≤ talk_budget + 1
  pub sound : Sound s
  pub talk : talked (talk_budget + 1 - sent) request sent reader s ≡ from_command request start
  pub closes : done (from_command request start).reader ≡ true

pub talk_begins : {request : Request} {s : State} → Sound s → done (from_command request s).reader ≡ true → TalkUnderway request 1 First s s
talk_begins f h = record { begun = omega arith; within = omega arith; sound = f; talk = refl; closes = h }

module _ {request : Request} {sent : ℕ} {reader : Reader} {s start : State} (u : TalkUnderway request sent reader s start) where
  -- the packet that is sent next, and what the reader is after the reply to it
  talk_more : (k : ℕ) → done reader ≡ false
      → talked (suc k) request sent reader s
      ≡ talked k request (suc sent) (after_reply (kind_of request) reader (reply_now s.place)) (stepped s (get_or (built_words request) sent 0))
  unfolding talked
  talk_more k t = rw t

  more_to_say : (k : ℕ) → done reader ≡ false → done (talked k request sent reader s).reader ≡ true → 1 ≤ k
  unfolding talked
  more_to_say zero t h = let z : true ≡ false = sym h ∙ t in let y : ◌≡◌ {A = ℕ} 0 1 = cc in omega arith
  more_to_say (suc k) t h = omega arith

  pub talk_goes_on : done reader ≡ false
      → TalkUnderway request (sent + 1) (after_reply (kind_of request) reader (reply_now s.place)) (stepped s (get_or (built_words request) sent 0)) start
  talk_goes_on t =
      let more : 1 ≤ talk_budget + 1 - sent = more_to_say (talk_budget + 1 - sent) t (rw u.talk u.closes) in
      let k = talk_budget + 1 - suc sent in
      let budget : talk_budget + 1 - sent ≡ suc k = omega arith in
      record {
        begun = omega arith;
        within = omega arith;
        sound = packet_keeps_sound u.sound (get_or (built_words request) sent 0);
        talk = rw (add-one sent) (sym (talk_more k t) ∙ (rw budget at u.talk));
        closes = u.closes;
      }

  talk_stays : (k : ℕ) → done reader ≡ true → talked k request sent reader s ≡ talk reader s sent
  unfolding talked
  talk_stays zero t = refl
  talk_stays (suc k) t = rw t

  pub talk_is_closed : done reader ≡ true → talk reader s sent ≡ from_command request start
  talk_is_closed t = sym (talk_stays (talk_budget + 1 - sent) t) ∙ u.talk

-- a request in range, from a sound state at rest, closes
pub exchange_closes : (request : Request) {s : State} → in_range request ≡ true → Sound s → at_rest s.place.phase ≡ true
    → done (from_command request (stepped s (command_word request))).reader ≡ true
unfolding exchanged
exchange_closes request h f t = rw (exchange_comes_to request h f t)

-- ---- the words
clear_at : (words : List ℕ) (i : ℕ) → Clear words → get_or words i 0 ≤ 0xFFFF
clear_at [] i h = omega arith
clear_at (word ∷ words) zero h = h.0
clear_at (word ∷ words) (suc i) h = clear_at words i h.1

-- every word sent has C clear
pub sent_clear : (request : Request) (i : ℕ) → in_range request ≡ true → get_or (built_words request) i 0 ≤ 0xFFFF
sent_clear request i h = clear_at (built_words request) i (built_clear request h)
