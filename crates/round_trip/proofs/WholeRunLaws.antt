-- Laws: an exchange from anywhere is one run of packets, the NOPs to rest and the request's own, and their number is the one that is counted.
use Rattle.std.specs.Prelude.{ℕ, ◌≡◌, true, false, length}
use Rattle.std.proofs.Common.{ap, sym, ◌∙◌, arith, length-append}
use mathlib.Core.List.{List, [], ◌∷◌, ◌++◌}
use Rattle.std.proofs.lemmas.List.{length-replicate}
use Rattle.board.specs.State.{State}
use Rattle.run.specs.Run.{ran}
use Rattle.sound.specs.Sound.{Sound}
use Rattle.requests.specs.declared.Request.{Request}
use Rattle.requests.specs.Request.{in_range}
use Rattle.building.specs.RequestWords.{command_word, built_words}
use Rattle.round_trip.specs.RoundTrip.{nops, legal_there, second_word, state_there, nops_there, words_there, packets_there}
use Rattle.round_trip.specs.BroughtToRest.{rested, rest_budget, rest_scene, rest_packets, packets_from}
use Rattle.round_trip.proofs.MeantWorkLaws.{sound_is_sized}
use Rattle.round_trip.proofs.RoundTripLaws.{round_trip, illegal_trip}
use Rattle.round_trip.proofs.BroughtToRestLaws.{comes_to_rest, rest_keeps_sound, rest_packets_are_nops, rest_is_resting}
use Rattle.round_trip.proofs.TalkLaws.{words_length}
use Rattle.round_trip.proofs.NextRequestLaws.{ran_append}

pub record WholeRun (request : Request) (s : State) (words : List ℕ) : Type 0 where
  -- what it leaves is what the exchange leaves
  pub state : ran (nops (rest_packets s) ++ words) s ≡ state_there request (rest_scene s)
  -- and it has as many packets as are counted
  pub count : length (nops (rest_packets s) ++ words) ≡ packets_from request s

module _ (request : Request) (s : State) where
  whole_run : (words : List ℕ) → ran words (rested rest_budget s) ≡ state_there request (rest_scene s) → length words ≡ packets_there request (rest_scene s)
      → WholeRun request s words
  whole_run words left number =
      let first = nops (rest_packets s) in
      record {
        state = ran_append first words s ∙ ap (ran words) (sym (rest_packets_are_nops s)) ∙ left;
        count = omega (arith, length-append first words, length-replicate {A = ℕ} (rest_packets s) 0, number);
      }

  module _ (h : in_range request ≡ true) (f : Sound s) where
    pub legal_run : legal_there request (rest_scene s) ≡ true → WholeRun request s (words_there request (rest_scene s))
    unfolding state_there packets_there
    legal_run l =
        let words = words_there request (rest_scene s) in
        let rest = rest_is_resting (rested rest_budget s) (comes_to_rest f) in
        let trip = round_trip request (rest_scene s) (rested rest_budget s).place.next h l (sound_is_sized (rest_keeps_sound rest_budget s f)) in
        whole_run words (ap (ran words) rest ∙ trip.state ∙ rw l) (rw l (words_length (built_words request) (nops_there request (rest_scene s))))

    pub illegal_run : legal_there request (rest_scene s) ≡ false → WholeRun request s (command_word request ∷ second_word request ∷ [])
    unfolding state_there packets_there
    illegal_run l =
        let words = command_word request ∷ second_word request ∷ [] in
        let rest = rest_is_resting (rested rest_budget s) (comes_to_rest f) in
        let trip = illegal_trip request (rest_scene s) (rested rest_budget s).place.next h l in
        whole_run words (ap (ran words) rest ∙ trip.state ∙ rw l) (rw l)
