-- Packets (01): a run of packets over a lent list into a lent list of replies, the fold of the step.
use Rattle.std.specs.Prelude.{ℕ, ◌≡◌, Bool, true, ◌&&◌, List, [], ◌∷◌, ◌++◌, leb, length, drop, Result, ⊤}
use Rattle.grounds.specs.declared.Ground.{Ground}
use Rattle.grounds.specs.declared.Ground.TheVariants.{WordTooLarge, MemoryTooLong, BufferTooShort, StateOutOfRange}
use Rattle.grounds.specs.Grounds.{check, judge, told, if_accepted}
use Rattle.ranges.specs.Ranges.{in_range}
use Rattle.board.specs.State.{State, state_of}
use Rattle.step.specs.Step.{reply_now, stepped}
use Rattle.run.specs.declared.Ran.{Ran}

unfoldable pub ran : List ℕ → State → State
ran [] s = s
ran (word ∷ words) s = ran words (stepped s word)

unfoldable pub replies : List ℕ → State → List ℕ
replies [] s = []
replies (word ∷ words) s = reply_now s.place ∷ replies words (stepped s word)

-- "a packet .. above 0x1FFFF": none of them
unfoldable pub all_within : List ℕ → Bool
all_within [] = true
all_within (word ∷ words) = leb word 0x1FFFF && all_within words

-- the grounds of a packet in their order, 1 over all words, then 11; a refused run alters nothing
unfoldable pub run_verdict : State → List ℕ → ℕ → Result ⊤ Ground
run_verdict s words room =
    judge
    (check (in_range s.board s.place) StateOutOfRange
    ∷ check (leb (length s.memory) 65536) MemoryTooLong
    ∷ check (all_within words) WordTooLarge
    ∷ check (leb (length words) room) BufferTooShort
    ∷ [])

-- the promise of a run: words beyond the last reply stay
pub record RunMeets (s : State) (words before : List ℕ) (r : Ran) (after out : List ℕ) : Type 0 where
  pub answer : told r.verdict ≡ told (run_verdict s words (length before))
  pub state : state_of r.board r.place after ≡ if_accepted (run_verdict s words (length before)) (ran words s) s
  pub answers : out ≡ if_accepted (run_verdict s words (length before)) (replies words s ++ drop (length words) before) before
