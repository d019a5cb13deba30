-- Laws of the exchange in code: brought to rest, sent and read, it answers as promised.
use Rattle.std.specs.Prelude.{ℕ, ◌+◌, ◌≤◌, ◌≡◌, true, [], ◌∷◌, leb, length, Ok}
use Rattle.std.proofs.Common.{arith, ap, ◌∙◌, leb-true}
use Rattle.grounds.specs.declared.Ground.TheVariants.{MemoryTooLong, StateOutOfRange, RequestOutOfRange}
use Rattle.grounds.specs.Grounds.{check}
use Rattle.grounds.specs.GroundLaws.{accepted_holds}
use Rattle.board.specs.Board.{at_rest}
use Rattle.ranges.specs.Ranges.{in_range as stateInRange}
use Rattle.board.specs.State.{State}
use Rattle.sound.specs.Sound.{Sound}
use Rattle.requests.specs.declared.Request.{Request}
use Rattle.readings.specs.declared.Reader.{Reader}
use Rattle.requests.specs.Request.{in_range}
use Rattle.round_trip.specs.RoundTrip.{state_there}
use Rattle.round_trip.specs.BroughtToRest.{rested, rest_budget, rest_scene, rest_packets}
use Rattle.round_trip.specs.TalkMirror.{Talk, talk, exchanged}
use Rattle.round_trip.proofs.BroughtToRestLaws.{comes_to_rest, rest_keeps_sound, rest_nops_bound}
use Rattle.round_trip.proofs.TalkLaws.{exchange_from_anywhere, packets_bound}
use Rattle.exchange_verdict.specs.ExchangeVerdict.{exchange_verdict}
use Rattle.exchange.specs.Exchange.{ended_there}
use Rattle.exchange.specs.ExchangeMirror.{answer_of}

-- ---- accepted
pub record Within (request : Request) (s : State) : Type 0 where
  pub asked : in_range request ≡ true
  pub state : stateInRange s.board s.place ≡ true
  pub memory : length s.memory ≤ 65536

pub accepted_is_within : (request : Request) (s : State) → exchange_verdict request s ≡ Ok tt → Within request s
unfolding exchange_verdict
accepted_is_within request s e =
    let three = check (leb (length s.memory) 65536) MemoryTooLong ∷ [] in
    let twelve = check (stateInRange s.board s.place) StateOutOfRange ∷ three in
    let past-13 = accepted_holds (in_range request) RequestOutOfRange twelve e in
    let past-12 = accepted_holds (stateInRange s.board s.place) StateOutOfRange three past-13.1 in
    let past-3 = accepted_holds (leb (length s.memory) 65536) MemoryTooLong [] past-12.1 in
    record { asked = past-13.0; state = past-12.0; memory = leb-true (length s.memory) 65536 past-3.0 }

-- ---- at rest
pub record AtRest (s : State) : Type 0 where
  pub sound : Sound s
  pub rest : at_rest s.place.phase ≡ true

pub rested_is_at_rest : {s start : State} → Sound start → s ≡ rested rest_budget start → AtRest s
rested_is_at_rest {start = start} f e = rw e (record { sound = rest_keeps_sound rest_budget start f; rest = comes_to_rest f })

-- ---- sent and read
pub record Conversed (request : Request) (start : State) (nops : ℕ) (reader : Reader) (s : State) (packets : ℕ) : Type 0 where
  pub answer : answer_of reader (nops + packets) ≡ ended_there request start
  pub state : s ≡ state_there request (rest_scene start)
  pub few : packets ≤ 22
  pub few_nops : nops ≤ rest_budget

pub conversed_as_promised : {request : Request} {start : State} {nops : ℕ} {reader : Reader} {rest s : State} {packets : ℕ}
    → Sound start → in_range request ≡ true → rest ≡ rested rest_budget start → nops ≡ rest_packets start → talk reader s packets ≡ exchanged request rest
    → Conversed request start nops reader s packets
conversed_as_promised {request} {start} {nops} f h rests count talked =
    let there = rest_scene start in
    let whole = talked ∙ ap (exchanged request) rests ∙ exchange_from_anywhere request h f in
    record {
      answer = ap (λ (t : Talk). answer_of t.reader (nops + t.packets)) whole ∙ rw count;
      state = ap (λ (t : Talk). t.state) whole;
      few = rw (ap (λ (t : Talk). t.packets) whole) (packets_bound request there (rest_keeps_sound rest_budget start f).board.small);
      few_nops = rw count (omega (arith, rest_nops_bound rest_budget f, f.board.small));
    }
