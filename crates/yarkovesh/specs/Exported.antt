-- What programs in other languages are answered: a run of packets on a fresh board, and the listing of a trace (01), each answer one number.
use Rattle.std.specs.Prelude.{ℕ, ◌+◌, ◌*◌, ◌%◌, ◌^◌, ◌≡◌, List, ◌++◌, length, drop, Err, Ok, Result, ⊤}
use Rattle.grounds.specs.declared.Ground.{Ground}
use Rattle.grounds.specs.Grounds.{told, if_accepted}
use Rattle.board.specs.Board.{fresh_board, fresh_place, making_verdict, setting_made}
use Rattle.board.specs.State.{State, state_of}
use Rattle.run.specs.Run.{ran, replies, run_verdict}
use Rattle.trace.specs.TraceReading.{Told, refusal, counted}
use Rattle.listing.specs.Listing.{listing, words_after}

-- 0 where it is accepted, else the ground's number
abbrev pub verdict_number : Result ⊤ Ground → ℕ
verdict_number v = (told v).number

abbrev pub fresh : ℕ → List ℕ → State
fresh w m = state_of (fresh_board (setting_made w)) fresh_place m

-- the board is made before the run is judged
abbrev pub made_first : Result ⊤ Ground → Result ⊤ Ground → Result ⊤ Ground
made_first (Ok _) run = run
made_first (Err why) run = Err why

abbrev pub fresh_verdict : ℕ → List ℕ → List ℕ → ℕ → Result ⊤ Ground
fresh_verdict w m words room = made_first (making_verdict w) (run_verdict (fresh w m) words room)

-- the promise of a run on a fresh board of wait setting w
pub record FreshRunMeets (w : ℕ) (m words before : List ℕ) (r : ℕ) (left out : List ℕ) : Type 0 where
  pub answer : r ≡ verdict_number (fresh_verdict w m words (length before))
  pub memory : left ≡ if_accepted (fresh_verdict w m words (length before)) (ran words (fresh w m)).memory m
  pub answers : out ≡ if_accepted (fresh_verdict w m words (length before)) (replies words (fresh w m) ++ drop (length words) before) before

-- the number of items; or the ground's number in the upper 32 bits, and the cycle in the lower
abbrev pub listing_number : Told → ℕ
listing_number (counted items) = items
listing_number (refusal number cycle) = number * 2 ^ 32 + cycle % 2 ^ 32

-- the promise of a listing
pub record ListMeets (trace before : List ℕ) (r : ℕ) (after : List ℕ) : Type 0 where
  pub answer : r ≡ listing_number (listing trace (length before))
  pub words : after ≡ words_after trace before (listing trace (length before))
