-- Laws of what an exchange answers: its value is read from replies, so that eight digits hold it, and twenty the number of its packets.
use Rattle.std.specs.Prelude.{ℕ, ◌+◌, ◌*◌, ◌^◌, ◌≤◌, ◌<◌, ◌≡◌, refl, Bool, true, false, cond, List, [], ◌∷◌, leb, eqb, length, Err, None, Ok, Option, Result}
use Rattle.std.specs.Prelude.{Some, ⊤}
use Rattle.grounds.specs.declared.Ground.{Ground}
use Rattle.std.proofs.Common.{arith, leb-true}
use Rattle.memory.specs.declared.Size.{Size}
use Rattle.memory.specs.declared.Size.TheVariants.{Byte, Word, Long}
use Rattle.command.specs.Reply.{complete, not_ready, bus_error, illegal}
use Rattle.grounds.specs.declared.Ground.TheVariants.{WordTooLarge, ImpossibleReply, MemoryTooLong, StateOutOfRange, RequestOutOfRange}
use Rattle.grounds.specs.Grounds.{check}
use Rattle.grounds.specs.GroundLaws.{accepted_holds}
use Rattle.ranges.specs.Ranges.{in_range as stateInRange}
use Rattle.board.specs.State.{State}
use Rattle.sound.specs.Sound.{Sound}
use Rattle.requests.specs.declared.Request.{Request}
use Rattle.requests.specs.Request.{in_range}
use Rattle.readings.specs.declared.Outcome.{Outcome}
use Rattle.readings.specs.declared.Outcome.TheVariants.{Value, Complete, BusError, Illegal}
use Rattle.readings.specs.declared.Reader.{Reader}
use Rattle.readings.specs.declared.Reader.TheVariants.{First, Second, Closed, Bad}
use Rattle.readings.specs.Reader.{result_word, data_reply, status_reply, first_reply, second_reply, after_reply, after_replies}
use Rattle.round_trip.specs.Meaning.{Scene, meaning}
use Rattle.round_trip.specs.RoundTrip.{legal_there, outcome_there}
use Rattle.round_trip.specs.BroughtToRest.{rest_budget, rest_scene}
use Rattle.round_trip.proofs.BroughtToRestLaws.{rest_keeps_sound, rest_nops_bound}
use Rattle.round_trip.proofs.MeantWorkLaws.{Sized, sound_is_sized}
use Rattle.run.specs.Run.{replies}
use Rattle.round_trip.specs.ClosesLaws.{Closes}
use Rattle.round_trip.proofs.RoundTripLaws.{legal_closes}
use Rattle.round_trip.proofs.TalkLaws.{packets_bound}
use Rattle.exchange_verdict.specs.ExchangeVerdict.{exchange_verdict}
use Rattle.exchange.specs.Exchange.{ended_there, answered_as}
use Rattle.exchange.specs.ExchangeMirror.{Typed}
use Rattle.exchange.specs.TypedLaws.{typed_is_sound}
use Rattle.text_laws.specs.ToldBackLaws.{OutcomeHeld}

-- an answer whose numbers fit their digits
abbrev pub ExchangeHeld : Result (Outcome × ℕ) Ground → Type 0
ExchangeHeld (Ok (outcome, packets)) = OutcomeHeld outcome × (packets < 10 ^ 20)
ExchangeHeld (Err why) = Unit

-- a reader holds no more than one result word, and then the value of two
abbrev ReaderHeld : Reader → Type 0
ReaderHeld First = Unit
ReaderHeld (Second upper) = upper ≤ 0xFFFF
ReaderHeld (Closed outcome) = OutcomeHeld outcome
ReaderHeld (Bad why) = Unit

result_held : (size : Size) (reply : ℕ) → reply ≤ 0xFFFF → ReaderHeld (result_word size reply)
result_held Byte reply h = by_test (leb reply 0xFF)
  where
    by_test : (t : Bool) → ReaderHeld (cond t (Closed (Value reply)) (Bad ImpossibleReply))
    by_test true = omega arith
    by_test false = tt
result_held Word reply h = omega arith
result_held Long reply h = h

data_held : (kind : Option Size) (reply : ℕ) → reply ≤ 0xFFFF → ReaderHeld (data_reply kind reply)
data_held None reply h = by_test (eqb reply complete)
  where
    by_test : (t : Bool) → ReaderHeld (cond t (Closed Complete) (Bad ImpossibleReply))
    by_test true = tt
    by_test false = tt
data_held (Some size) reply h = result_held size reply h

status_held : (reply : ℕ) → ReaderHeld (status_reply reply)
status_held reply = by_tests (eqb reply not_ready) (eqb reply bus_error) (eqb reply illegal)
  where
    by_tests : (t u v : Bool) → ReaderHeld (cond t First (cond u (Closed BusError) (cond v (Closed Illegal) (Bad ImpossibleReply))))
    by_tests true u v = tt
    by_tests false true v = tt
    by_tests false false true = tt
    by_tests false false false = tt

first_held : (kind : Option Size) (reply : ℕ) → ReaderHeld (first_reply kind reply)
first_held kind reply = by_test (leb reply 0xFFFF) refl
  where
    by_test : (t : Bool) → leb reply 0xFFFF ≡ t → ReaderHeld (cond t (data_reply kind reply) (status_reply reply))
    by_test true e = data_held kind reply (leb-true reply 0xFFFF e)
    by_test false e = status_held reply

second_held : (upper reply : ℕ) → upper ≤ 0xFFFF → ReaderHeld (second_reply upper reply)
second_held upper reply h = by_test (leb reply 0xFFFF) refl
  where
    by_test : (t : Bool) → leb reply 0xFFFF ≡ t → ReaderHeld (cond t (Closed (Value (upper * 65536 + reply))) (Bad ImpossibleReply))
    by_test true e = let low : reply ≤ 0xFFFF = leb-true reply 0xFFFF e in omega arith
    by_test false e = tt

reply_held : (kind : Option Size) (reader : Reader) (reply : ℕ) → ReaderHeld reader → ReaderHeld (after_reply kind reader reply)
reply_held kind First reply h = by_test (leb reply 0x1FFFF)
  where
    by_test : (t : Bool) → ReaderHeld (cond t (first_reply kind reply) (Bad WordTooLarge))
    by_test true = first_held kind reply
    by_test false = tt
reply_held kind (Second upper) reply h = by_test (leb reply 0x1FFFF)
  where
    by_test : (t : Bool) → ReaderHeld (cond t (second_reply upper reply) (Bad WordTooLarge))
    by_test true = second_held upper reply h
    by_test false = tt
reply_held kind (Closed outcome) reply h = h
reply_held kind (Bad why) reply h = tt

replies_held : (kind : Option Size) (reader : Reader) (replies : List ℕ) → ReaderHeld reader → ReaderHeld (after_replies kind reader replies)
replies_held kind reader [] h = h
replies_held kind reader (reply ∷ replies) h = replies_held kind (after_reply kind reader reply) replies (reply_held kind reader reply h)

closes_held : {kind : Option Size} {words : List ℕ} {s final : State} {outcome : Outcome} → Closes kind words First s outcome final → OutcomeHeld outcome
closes_held {kind} {words} {s} c = rw c.answer at (replies_held kind First (replies words s) tt)

-- what a request comes to there
there_held : (request : Request) (s : Scene) → in_range request ≡ true → Sized s → OutcomeHeld (outcome_there request s)
there_held request s h z = by_test (legal_there request s) refl
  where
    by_test : (t : Bool) → legal_there request s ≡ t → OutcomeHeld (cond t (meaning request s).outcome Illegal)
    by_test true l = closes_held (legal_closes request s 0 h l z)
    by_test false l = tt

-- what is not refused is within its ranges
ranges : (request : Request) (s : State) → Typed s → exchange_verdict request s ≡ Ok tt → (in_range request ≡ true) × Sound s
unfolding exchange_verdict
ranges request s typed e =
    let state = check (stateInRange s.board s.place) StateOutOfRange in
    let memory = check (leb (length s.memory) 65536) MemoryTooLong in
    let first = accepted_holds (in_range request) RequestOutOfRange (state ∷ memory ∷ []) e in
    let second = accepted_holds (stateInRange s.board s.place) StateOutOfRange (memory ∷ []) first.1 in
    let third = accepted_holds (leb (length s.memory) 65536) MemoryTooLong [] second.1 in
    (first.0, typed_is_sound typed second.0 (leb-true (length s.memory) 65536 third.0))

-- THE LAW: of a state that the types allow, whatever is answered fits its digits
pub exchange_held : (request : Request) (s : State) → Typed s → ExchangeHeld (answered_as (exchange_verdict request s) (ended_there request s))
exchange_held request s typed = by_verdict (exchange_verdict request s) refl
  where
    by_verdict : (v : Result ⊤ Ground) → exchange_verdict request s ≡ v → ExchangeHeld (answered_as v (ended_there request s))
    by_verdict (Ok _) e =
        let r = ranges request s typed e in
        let rested = rest_keeps_sound rest_budget s r.1 in
        let few = packets_bound request (rest_scene s) rested.board.small in
        let nops = rest_nops_bound rest_budget r.1 in
        let w : s.board.w ≤ 15 = r.1.board.small in
        (there_held request (rest_scene s) r.0 (sound_is_sized rested), omega arith)
    by_verdict (Err why) e = tt
