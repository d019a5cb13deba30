-- [10] The same answers at every wait setting: a list of requests, each sent and read to its end by `exchange`, and what is said of it at each W.
use Rattle.std.specs.Prelude.{ℕ, ◌≤◌, ◌≡◌, Bool, true, false, List, [], ◌∷◌, map, Err, Ok, Result as StdResult}
use Rattle.grounds.specs.declared.Ground.{Ground}
use Rattle.grounds.specs.Grounds.{if_accepted}
use Rattle.board.specs.declared.Board.{Board}
use Rattle.board.specs.Board.{fresh_board, fresh_place}
use Rattle.board.specs.Setters.{with_w}
use Rattle.board.specs.State.{State, state_of}
use Rattle.requests.specs.declared.Request.{Request}
use Rattle.readings.specs.declared.Outcome.{Outcome}
use Rattle.round_trip.specs.RoundTrip.{legal_there}
use Rattle.round_trip.specs.BroughtToRest.{rest_scene}
use Rattle.exchange.specs.declared.Returned.{Returned}
use Rattle.exchange_verdict.specs.ExchangeVerdict.{exchange_verdict}
use Rattle.exchange.specs.Exchange.{answered_as, ended_there, exchange_leaves, ExchangeMeets}

-- ---- a list of requests
-- "on a fresh board and the same memory"
abbrev pub fresh_at : ℕ → List ℕ → State
fresh_at w m = state_of (fresh_board w) fresh_place m

-- what `exchange` answers, by its contract
abbrev pub answer_to : Request → State → StdResult (Outcome × ℕ) Ground
answer_to request s = answered_as (exchange_verdict request s) (ended_there request s)

-- "any list of requests sent and read by the pod's half to its end": each finds what the one before left
unfoldable pub answers : List Request → State → List (StdResult (Outcome × ℕ) Ground)
answers [] s = []
answers (request ∷ requests) s = answer_to request s ∷ answers requests (exchange_leaves request s)

unfoldable pub left_by : List Request → State → State
left_by [] s = s
left_by (request ∷ requests) s = left_by requests (exchange_leaves request s)

-- its command word is taken, which a refused one is not, and it is "legal when taken"
abbrev pub is_legal : Request → State → Bool
is_legal request s = if_accepted (exchange_verdict request s) (legal_there request (rest_scene s)) false

unfoldable pub legals : List Request → State → List Bool
legals [] s = []
legals (request ∷ requests) s = is_legal request s ∷ legals requests (exchange_leaves request s)

abbrev pub All : List Bool → Type 0
All [] = Unit {0}
All (x ∷ xs) = (x ≡ true) × All xs

-- "every command word is legal when taken"
abbrev pub AllLegal : List Request → State → Type 0
AllLegal requests s = All (legals requests s)

-- ---- what is compared
-- "the results": an answer, but for the number of its packets
pub data Result : Type 0 where
  came : Outcome → Result
  refused : Ground → Result

abbrev pub result_of : StdResult (Outcome × ℕ) Ground → Result
result_of (Ok (outcome, packets)) = Result.came outcome
result_of (Err why) = Result.refused why

abbrev pub results : List Request → State → List Result
results requests s = map result_of (answers requests s)

-- "final registers apart from W": the flags, a pending SYNC_PC and the address that was not there among them
abbrev pub apart_from_w : Board → Board
apart_from_w b = with_w b 0

-- two settings of W, a list of requests and memory; the chain, the pointer and the next reply are the place's
pub record SameAt (v w : ℕ) (requests : List Request) (m : List ℕ) : Type 0 where
  pub legal : legals requests (fresh_at w m) ≡ legals requests (fresh_at v m)
  pub results : results requests (fresh_at w m) ≡ results requests (fresh_at v m)
  pub board : apart_from_w (left_by requests (fresh_at w m)).board ≡ apart_from_w (left_by requests (fresh_at v m)).board
  pub place : (left_by requests (fresh_at w m)).place ≡ (left_by requests (fresh_at v m)).place
  pub memory : (left_by requests (fresh_at w m)).memory ≡ (left_by requests (fresh_at v m)).memory

-- [10] itself, "for all W from 0 to 15"
pub record OnlyWaitingChanges (requests : List Request) (m : List ℕ) : Type 0 where
  -- "it is so at every W"
  pub legal : (w : ℕ) → w ≤ 15 → AllLegal requests (fresh_at w m)
  -- "the results, final registers apart from W, and final memory are equal"
  pub same : (v w : ℕ) → v ≤ 15 → w ≤ 15 → SameAt v w requests m

-- ---- calls of the code, one after another
pub record Call : Type 0 where
  pub returned : Returned
  pub memory : List ℕ

abbrev pub left_in : Call → State
left_in call = state_of call.returned.board call.returned.place call.memory

-- each meets the contract of `exchange` on what the one before returned and left in memory
abbrev pub Called : List Request → State → List Call → Type 0
Called [] s [] = Unit {0}
Called [] s (call ∷ calls) = ⊥
Called (request ∷ requests) s [] = ⊥
Called (request ∷ requests) s (call ∷ calls) = ExchangeMeets request s call.returned call.memory × Called requests (left_in call) calls

abbrev pub answers_in : List Call → List (StdResult (Outcome × ℕ) Ground)
answers_in calls = map (λ (call : Call). call.returned.answer) calls

abbrev pub last_in : State → List Call → State
last_in s [] = s
last_in s (call ∷ calls) = last_in (left_in call) calls
