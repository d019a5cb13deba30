-- Laws of the exchange: it ends, within the budget, in what the request means.
use Rattle.std.specs.Prelude.{ℕ, zero, suc, ◌+◌, ◌≤◌, ◌≡◌, refl, true, false, List, [], ◌∷◌, ◌++◌, get_or, None, Option, Some}
use Rattle.memory.specs.declared.Size.{Size}
use native.Mathlib.Omega.{arith}
use Rattle.std.proofs.Common.{add-zero, sym, ap, ◌∙◌, subst, length-append}
use Rattle.std.proofs.Math.ListN.{length}
use Rattle.std.proofs.lemmas.List.{length-replicate}
use Rattle.board.specs.Board.{at_rest}
use Rattle.step.specs.Step.{reply_now, stepped}
use Rattle.board.specs.State.{State}
use Rattle.run.specs.Run.{ran, replies}
use Rattle.sound.specs.Sound.{Sound}
use Rattle.rest.specs.ToGoLaws.{waits_at_most}
use Rattle.requests.specs.declared.Request.{Request}
use Rattle.readings.specs.declared.Outcome.{Outcome}
use Rattle.readings.specs.declared.Outcome.TheVariants.{Value, Complete, BusError, Illegal}
use Rattle.readings.specs.declared.Reader.{Reader}
use Rattle.readings.specs.declared.Reader.TheVariants.{First, Closed}
use Rattle.requests.specs.Request.{in_range, kind_of}
use Rattle.building.specs.RequestWords.{command_word, operands, built_words}
use Rattle.command.specs.CommandLaws.{size_words_bound}
use Rattle.readings.specs.Reader.{after_reply, done}
use Rattle.readings.specs.ReaderLaws.{done_uses_none}
use Rattle.pod_laws.specs.MeantCommand.{command_of}
use Rattle.pod_laws.specs.RequestCountLaws.{word_count_bound}
use Rattle.round_trip.specs.Meaning.{Scene, meaning}
use Rattle.round_trip.specs.RoundTrip.{nops, resting, scene_of, legal_there, outcome_there, legal_leaves, second_word, illegal_leaves}
use Rattle.round_trip.specs.RoundTrip.{state_there, closing_replies, nops_there, packets_there}
use Rattle.round_trip.specs.BroughtToRest.{rested, rest_budget, rest_scene}
use Rattle.round_trip.specs.TalkMirror.{Talk, talk, talked, talk_budget, exchanged}
use Rattle.round_trip.specs.ClosesLaws.{Closes}
use Rattle.round_trip.proofs.MeantWorkLaws.{Sized, sound_is_sized}
use Rattle.round_trip.proofs.RoundTripLaws.{legal_closes, illegal_closes}
use Rattle.round_trip.proofs.BroughtToRestLaws.{rest_is_resting, comes_to_rest, rest_keeps_sound}
use Rattle.laws.specs.TestLaws.{by_test}

-- ---- the words sent, one after the other
-- a list of words is what a request sends from its i-th packet on
abbrev Along : List ℕ → ℕ → List ℕ → Type 0
Along all i [] = Unit {0}
Along all i (word ∷ words) = (get_or all i 0 ≡ word) × Along all (suc i) words

along_later : (x : ℕ) (all : List ℕ) (i : ℕ) (words : List ℕ) → Along all i words → Along (x ∷ all) (suc i) words
along_later x all i [] h = tt
along_later x all i (word ∷ words) h = (h.0, along_later x all (suc i) words h.1)

along_nops : (i n : ℕ) → Along [] i (nops n)
along_nops i zero = tt
along_nops i (suc n) = (refl, along_nops (suc i) n)

along_all : (all : List ℕ) (n : ℕ) → Along all 0 (all ++ nops n)
along_all [] n = along_nops 0 n
along_all (x ∷ xs) n = (refl, along_later x xs 0 (xs ++ nops n) (along_all xs n))

-- words that close a request within the budget are those that are sent
closed_talk : (k : ℕ) (request : Request) (i : ℕ) (reader : Reader) (s : State) (outcome : Outcome) → reader ≡ Closed outcome
    → talked k request i reader s ≡ talk (Closed outcome) s i
unfolding talked
closed_talk zero request i reader s outcome e = rw e
closed_talk (suc k) request i reader s outcome e = rw e

sent_to_the_end : (k : ℕ) (request : Request) (words : List ℕ) (i : ℕ) (reader : Reader) (s : State) (outcome : Outcome) (final : State)
    → Along (built_words request) i words → length words ≤ k → Closes (kind_of request) words reader s outcome final
    → talked k request i reader s ≡ talk (Closed outcome) final (i + length words)
unfolding talked replies ran
sent_to_the_end k request [] i reader s outcome final along h c = closed_talk k request i reader s outcome c.answer ∙ rw (add-zero i, c.state)
sent_to_the_end zero request (word ∷ words) i reader s outcome final along h c = absurd (omega arith)
sent_to_the_end (suc k) request (word ∷ words) i reader s outcome final along h c =
    by_test (done reader)
    (λ t. absurd (omega (arith, c.all, done_uses_none (kind_of request) reader (replies (word ∷ words) s) t)))
    (λ t.
    let more : i + suc (length words) ≡ suc i + length words = omega arith in
    rw (t, along.0, more)
    (sent_to_the_end k request words (suc i) (after_reply (kind_of request) reader (reply_now s.place)) (stepped s word) outcome final along.1 (omega arith)
    (record { answer = c.answer; all = omega (arith, rw t at c.all); state = c.state })))

-- ---- the budget is enough
closing_bound : (kind : Option Size) (outcome : Outcome) → closing_replies kind outcome ≤ 2
closing_bound None (Value v) = omega arith
closing_bound (Some size) (Value v) = size_words_bound size
closing_bound kind Complete = omega arith
closing_bound kind BusError = omega arith
closing_bound kind Illegal = omega arith

pub words_length : (words : List ℕ) (n : ℕ) → length (words ++ nops n) ≡ length words + n
words_length words n = length-append words (nops n) ∙ ap (λ k. length words + k) (length-replicate n 0)

nops_bound : (request : Request) (s : Scene) → s.board.w ≤ 15 → nops_there request s ≤ 17
nops_bound request s small =
    omega (arith, waits_at_most s.board.w (command_of request), closing_bound (kind_of request) (meaning request s).outcome)

-- ---- the exchange
-- it ends in the outcome, the state and the number of packets that are meant there
abbrev pub talk_there : Request → Scene → Talk
talk_there request s = talk (Closed (outcome_there request s)) (state_there request s) (packets_there request s)

module _ (request : Request) (s : Scene) (next : ℕ) (h : in_range request ≡ true) where
  legal_talk : legal_there request s ≡ true → Sized s → s.board.w ≤ 15
      → exchanged request (resting s next)
      ≡ talk (Closed (meaning request s).outcome) (legal_leaves request s) (length (built_words request) + nops_there request s)
  unfolding exchanged
  legal_talk l z small =
      let n = nops_there request s in
      let later = operands request ++ nops n in
      let len = words_length (operands request) n in
      let sum : 1 + length later ≡ length (built_words request) + n = omega arith in
      sent_to_the_end talk_budget request later 1 First (stepped (resting s next) (command_word request)) (meaning request s).outcome (legal_leaves request s)
      (along_all (built_words request) n).1
      (omega (arith, word_count_bound request, nops_bound request s small))
      (legal_closes request s next h l z)
      ∙ rw sum

  illegal_talk : legal_there request s ≡ false → exchanged request (resting s next) ≡ talk (Closed Illegal) (illegal_leaves request s) 2
  unfolding exchanged
  illegal_talk l =
      sent_to_the_end talk_budget request (second_word request ∷ []) 1 First (stepped (resting s next) (command_word request)) Illegal
      (illegal_leaves request s)
      (refl, tt) (omega arith) (illegal_closes request s next l)

  pub exchange_from_rest : Sized s → s.board.w ≤ 15 → exchanged request (resting s next) ≡ talk_there request s
  unfolding state_there packets_there
  exchange_from_rest z small = by_test (legal_there request s) (λ l. rw l (legal_talk l z small)) (λ l. rw l (illegal_talk l))

pub exchange_comes_to : (request : Request) {s : State} → in_range request ≡ true → Sound s → at_rest s.place.phase ≡ true
    → exchanged request s ≡ talk_there request (scene_of s)
exchange_comes_to request {s} h f t =
    subst (λ (x : State). exchanged request x ≡ talk_there request (scene_of s)) (sym (rest_is_resting s t))
    (exchange_from_rest request (scene_of s) s.place.next h (sound_is_sized f) f.board.small)

-- and from anywhere, once it is brought to rest
pub exchange_from_anywhere : (request : Request) {s : State} → in_range request ≡ true → Sound s
    → exchanged request (rested rest_budget s) ≡ talk_there request (rest_scene s)
exchange_from_anywhere request {s} h f = exchange_comes_to request h (rest_keeps_sound rest_budget s f) (comes_to_rest f)

pub packets_bound : (request : Request) (s : Scene) → s.board.w ≤ 15 → packets_there request s ≤ 22
unfolding packets_there
packets_bound request s small =
    by_test (legal_there request s)
    (λ l. rw l (omega (arith, word_count_bound request, nops_bound request s small)))
    (λ l. rw l (omega arith))
