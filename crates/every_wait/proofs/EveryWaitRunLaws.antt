-- Laws of [10] in packets: over a list the words and NOPs come to the same at every W, and only their number grows.
use Rattle.std.specs.Prelude.{ℕ, ◌+◌, ◌*◌, ◌≤◌, ◌≡◌, Bool, true, false, cond, length, Err, Ok, Result as StdResult, ⊤}
use Rattle.grounds.specs.declared.Ground.{Ground}
use Rattle.std.proofs.Common.{arith, mul-add, ap, sym, ◌∙◌, subst, length-append}
use Rattle.std.proofs.Math.Path.{refl}
use mathlib.Core.List.{List, [], ◌∷◌, map}
use Rattle.laws.specs.TestLaws.{by_test}
use Rattle.command.specs.Command.{waits}
use Rattle.command.specs.Reply.{complete}
use Rattle.board.specs.Board.{fresh_board, fresh_place}
use Rattle.plan.specs.Plan.{waits_of}
use Rattle.run.specs.Run.{ran}
use Rattle.sound.specs.Sound.{SoundMemory, Sound}
use Rattle.requests.specs.declared.Request.{Request}
use Rattle.requests.specs.Request.{in_range, kind_of}
use Rattle.building.specs.RequestWords.{built_words}
use Rattle.pod_laws.specs.MeantCommand.{command_of}
use Rattle.round_trip.specs.Meaning.{Scene, Meaning, meaning}
use Rattle.round_trip.specs.RoundTrip.{resting, legal_there, legal_leaves, state_there, closing_replies, nops_there, words_there}
use Rattle.round_trip.proofs.MeantWorkLaws.{sound_is_sized}
use Rattle.round_trip.proofs.RoundTripLaws.{round_trip}
use Rattle.round_trip.proofs.TalkLaws.{words_length}
use Rattle.round_trip.proofs.NextRequestLaws.{ran_append, left_sound}
use Rattle.round_trip.proofs.EveryWLaws.{at_w, same_at_every_w}
use Rattle.exchange_verdict.specs.ExchangeVerdict.{exchange_verdict}
use Rattle.exchange.specs.Exchange.{exchange_leaves}
use Rattle.exchange.specs.ExchangeLaws.{accepted_is_within}
use Rattle.exchange.specs.ExchangeAtRestLaws.{from_rest}
use Rattle.every_wait.specs.EveryWait.{fresh_at, answers, is_legal, legals, AllLegal, left_by, Result, results}
use Rattle.every_wait.specs.EveryWaitRun.{outcomes, meant_by, words_of, LegalThrough, Trips, waiting, fresh_scene, PacketsAt}
use Rattle.every_wait.proofs.EveryWaitLaws.{fresh_ready}

-- ---- with another wait setting
module _ (w : ℕ) where
  legal_at : (requests : List Request) (s : Scene) → LegalThrough requests s → LegalThrough requests (at_w w s)
  legal_at [] s h = tt
  legal_at (request ∷ requests) s h =
      let on = legal_at requests (meaning request s).leaves h.2 in
      (h.0, h.1, subst (λ (m : Meaning). LegalThrough requests m.leaves) (sym (same_at_every_w w s request).meant) on)

  outcomes_at : (requests : List Request) (s : Scene) → outcomes requests (at_w w s) ≡ outcomes requests s
  unfolding outcomes
  outcomes_at [] s = refl
  outcomes_at (request ∷ requests) s =
      rw (same_at_every_w w s request).meant (ap (λ os. (meaning request s).outcome ∷ os) (outcomes_at requests (meaning request s).leaves))

-- ---- the round trips, one after another
all_trips : (requests : List Request) (s : Scene) → Sound (resting s complete) → LegalThrough requests s → Trips requests s
all_trips [] s f h = tt
all_trips (request ∷ requests) s f h =
    let left = left_sound request s complete h.0 h.1 f in
    (round_trip request s complete h.0 h.1 (sound_is_sized f), all_trips requests (meaning request s).leaves left h.2)

one_run : (requests : List Request) (s : Scene) → Trips requests s → ran (words_of requests s) (resting s complete) ≡ resting (meant_by requests s) complete
unfolding words_of meant_by ran
one_run [] s trips = refl
one_run (request ∷ requests) s trips =
    let later = words_of requests (meaning request s).leaves in
    ran_append (words_there request s) later (resting s complete) ∙ ap (ran later) trips.0.state ∙ one_run requests (meaning request s).leaves trips.1

-- ---- the number of packets
wait_grows : (w : ℕ) (t : Bool) → cond t w 0 ≡ w * cond t 1 0
wait_grows w true = omega arith
wait_grows w false = omega arith

words_grow : (w : ℕ) (request : Request) (s : Scene)
    → length (words_there request (at_w w s)) ≡ length (words_there request (at_w 0 s)) + w * cond (waits (command_of request)) 1 0
words_grow w request s =
    let c = command_of request in
    let closing = closing_replies (kind_of request) (meaning request s).outcome in
    let none : waits_of 0 c ≡ 0 = by_test (waits c) (λ h. rw h) (λ h. rw h) in
    let here : nops_there request (at_w w s) ≡ waits_of w c + closing = rw (same_at_every_w w s request).meant in
    let there : nops_there request (at_w 0 s) ≡ waits_of 0 c + closing = rw (same_at_every_w 0 s request).meant in
    omega (
      arith,
      words_length (built_words request) (nops_there request (at_w w s)),
      words_length (built_words request) (nops_there request (at_w 0 s)),
      here,
      there,
      none,
      wait_grows w (waits c),
    )

words_more : (w : ℕ) (request : Request) (requests : List Request) (s : Scene)
    → length (words_of (request ∷ requests) (at_w w s))
    ≡ length (words_there request (at_w w s)) + length (words_of requests (at_w w (meaning request s).leaves))
unfolding words_of
words_more w request requests s =
    length-append (words_there request (at_w w s)) (words_of requests (meaning request (at_w w s)).leaves)
    ∙ ap (λ (m : Meaning). length (words_there request (at_w w s)) + length (words_of requests m.leaves)) (same_at_every_w w s request).meant

number_grows : (w : ℕ) (requests : List Request) (s : Scene)
    → length (words_of requests (at_w w s)) ≡ length (words_of requests (at_w 0 s)) + w * waiting requests
unfolding waiting words_of
number_grows w [] s = omega arith
number_grows w (request ∷ requests) s =
    let one : ℕ = cond (waits (command_of request)) 1 0 in
    omega (
      arith,
      words_more w request requests s,
      words_more 0 request requests s,
      words_grow w request s,
      number_grows w requests (meaning request s).leaves,
      mul-add w one (waiting requests),
    )

-- ---- legal in exchanges is legal in packets
record LegalTaken (request : Request) (s : Scene) : Type 0 where
  asked : in_range request ≡ true
  legal : legal_there request s ≡ true
  leaves : exchange_leaves request (resting s complete) ≡ legal_leaves request s

legal_taken : (request : Request) (s : Scene) → Sound (resting s complete) → is_legal request (resting s complete) ≡ true → LegalTaken request s
unfolding state_there
legal_taken request s f legal = by_verdict (exchange_verdict request (resting s complete)) refl
  where
    by_verdict : (v : StdResult ⊤ Ground) → exchange_verdict request (resting s complete) ≡ v → LegalTaken request s
    by_verdict (Err why) e = let no : false ≡ true = rw e at legal in let one : ◌≡◌ {A = ℕ} 0 1 = cc in absurd (omega arith)
    by_verdict (Ok _) e =
        let h = (accepted_is_within request (resting s complete) e).asked in
        let from = from_rest request s complete h f in
        let l : legal_there request s ≡ true = rw (e, from.scene) at legal in
        record { asked = h; legal = l; leaves = rw (e, from.scene, l) }

legal_through : (requests : List Request) (s : Scene) → Sound (resting s complete) → AllLegal requests (resting s complete) → LegalThrough requests s
unfolding legals
legal_through [] s f legal = tt
legal_through (request ∷ requests) s f legal =
    let one = legal_taken request s f legal.0 in
    let left = left_sound request s complete one.asked one.legal f in
    (one.asked, one.legal, legal_through requests (meaning request s).leaves left (subst (AllLegal requests) one.leaves legal.1))

-- ---- what exchanges come to
abbrev Through : List Request → Scene → Type 0
Through requests s =
    (left_by requests (resting s complete) ≡ resting (meant_by requests s) complete)
    × (results requests (resting s complete) ≡ map Result.came (outcomes requests s))

exchanges_mean : (requests : List Request) (s : Scene) → Sound (resting s complete) → LegalThrough requests s → Through requests s
unfolding left_by meant_by answers outcomes state_there
exchanges_mean [] s f h = (refl, refl)
exchanges_mean (request ∷ requests) s f h =
    let from = from_rest request s complete h.0 f in
    let on = exchanges_mean requests (meaning request s).leaves (left_sound request s complete h.0 h.1 f) h.2 in
    rw (from.verdict, from.scene, h.1) (on.0, ap (λ rs. Result.came (meaning request s).outcome ∷ rs) on.1)

-- ---- THE LAW in packets, from a fresh board
fresh_rests : (w : ℕ) (m : List ℕ) → w ≤ 15 → SoundMemory m → Sound (resting (fresh_scene w m) complete)
unfolding fresh_place
fresh_rests w m small memory =
    let r = fresh_ready w m small memory.bytes in record { board = r.board; place = r.place; memory = memory }

pub fresh_packets : (requests : List Request) (m : List ℕ) → SoundMemory m → AllLegal requests (fresh_at 0 m) → (w : ℕ) → w ≤ 15 → PacketsAt w requests m
unfolding fresh_board fresh_place
fresh_packets requests m memory legal w small =
    let none : 0 ≤ 15 = omega arith in
    let s = fresh_scene 0 m in
    let h = legal_at w requests s (legal_through requests s (fresh_rests 0 m none memory) legal) in
    let f = fresh_rests w m small memory in
    let trips = all_trips requests (fresh_scene w m) f h in
    let through = exchanges_mean requests (fresh_scene w m) f h in
    record {
      trips = trips;
      run = one_run requests (fresh_scene w m) trips ∙ sym through.0;
      results = through.1;
      outcomes = outcomes_at w requests s;
      number = number_grows w requests s;
    }
