-- What follows from the round trip: more NOPs change nothing, and what is left is sound for the next request.
use Rattle.std.specs.Prelude.{ℕ, zero, suc, ◌-◌, ◌≡◌, refl, true, List, [], ◌∷◌, ◌++◌, length, Ok, Some}
use Rattle.std.proofs.Common.{ap, ◌∙◌, subst}
use Rattle.command.specs.Reply.{complete}
use Rattle.board.specs.State.{State}
use Rattle.step.specs.Step.{stepped}
use Rattle.run.specs.Run.{ran, replies}
use Rattle.sound.specs.Sound.{Sound}
use Rattle.sound.specs.SoundLaws.{packet_keeps_sound}
use Rattle.requests.specs.declared.Request.{Request}
use Rattle.readings.specs.declared.Reader.TheVariants.{First}
use Rattle.requests.specs.Request.{in_range, kind_of}
use Rattle.building.specs.RequestWords.{command_word, operands}
use Rattle.readings.specs.Reader.{after_replies, done}
use Rattle.readings.specs.Reading.{reading, reading_of}
use Rattle.pod_laws.specs.NotYetLaws.{further_replies}
use Rattle.round_trip.specs.Meaning.{Scene, Meaning, meaning}
use Rattle.round_trip.specs.RoundTrip.{nops, resting, legal_there, legal_leaves, nops_there, words_there, later_replies}
use Rattle.round_trip.specs.PacketTakenLaws.{nop_at_rest}
use Rattle.round_trip.proofs.RoundTripLaws.{legal_closes, round_trip}
use Rattle.round_trip.proofs.MeantWorkLaws.{Sized, sound_is_sized}

-- ---- more NOPs
pub ran_append : (xs ys : List ℕ) (s : State) → ran (xs ++ ys) s ≡ ran ys (ran xs s)
unfolding ran
ran_append [] ys s = refl
ran_append (x ∷ xs) ys s = ran_append xs ys (stepped s x)

replies_append : (xs ys : List ℕ) (s : State) → replies (xs ++ ys) s ≡ replies xs s ++ replies ys (ran xs s)
unfolding ran replies
replies_append [] ys s = refl
replies_append (x ∷ xs) ys s = rw (replies_append xs ys (stepped s x))

nops_at_rest : (n : ℕ) (s : Scene) → ran (nops n) (resting s complete) ≡ resting s complete
unfolding ran
nops_at_rest zero s = refl
nops_at_rest (suc n) s = ap (ran (nops n)) (nop_at_rest s complete) ∙ nops_at_rest n s

pub record Beyond (request : Request) (words : List ℕ) (s : State) (n : ℕ) (m : Meaning) : Type 0 where
  -- the answer and the words used are those of the round trip
  pub answer : reading request (later_replies (words ++ nops n) s) ≡ Ok (Some m.outcome, length words - 1)
  -- and so is all that is left
  pub state : ran (words ++ nops n) s ≡ resting m.leaves complete

-- the words of the round trip and any number of NOPs more
pub further_nops : (request : Request) (s : Scene) (next n : ℕ) → in_range request ≡ true → legal_there request s ≡ true → Sized s
    → Beyond request (words_there request s) (resting s next) n (meaning request s)
unfolding replies
further_nops request s next n h l z =
    let k = kind_of request in
    let later = operands request ++ nops (nops_there request s) in
    let start = stepped (resting s next) (command_word request) in
    let trip = round_trip request s next h l z in
    let closed : done (after_replies k First (replies later start)) ≡ true = rw (legal_closes request s next h l z).answer in
    let read : reading_of k (replies later start) ≡ Ok (Some (meaning request s).outcome, suc (length later) - 1) = rw h at trip.answer in
    record {
      answer = rw (h, replies_append later (nops n) start) (further_replies k (replies later start) (replies (nops n) (ran later start)) closed ∙ read);
      state =
          ran_append (words_there request s) (nops n) (resting s next) ∙ ap (ran (nops n)) trip.state ∙ nops_at_rest n (meaning request s).leaves;
    }

-- ---- the next request
pub run_keeps_sound : (words : List ℕ) (s : State) → Sound s → Sound (ran words s)
unfolding ran
run_keeps_sound [] s f = f
run_keeps_sound (word ∷ words) s f = run_keeps_sound words (stepped s word) (packet_keeps_sound f word)

-- a place that a request leaves is one that the next may find
pub left_sound : (request : Request) (s : Scene) (next : ℕ) → in_range request ≡ true → legal_there request s ≡ true → Sound (resting s next)
    → Sound (legal_leaves request s)
left_sound request s next h l f =
    subst Sound (round_trip request s next h l (sound_is_sized f)).state (run_keeps_sound (words_there request s) (resting s next) f)
