-- The pod's half (01, by eye): what building answers and leaves in the lent buffer.
use Rattle.std.specs.Prelude.{ℕ, ◌≡◌, List, [], ◌∷◌, ◌++◌, leb, length, drop, Err, Ok, Result, ⊤}
use Rattle.grounds.specs.declared.Ground.{Ground}
use Rattle.grounds.specs.declared.Ground.TheVariants.{BufferTooShort, RequestOutOfRange}
use Rattle.grounds.specs.Grounds.{check, judge, Refusal, no_refusal, refusal_of, told, if_accepted}
use Rattle.requests.specs.declared.Request.{Request}
use Rattle.requests.specs.Request.{in_range}
use Rattle.building.specs.RequestWords.{built_words}

-- "Building: 13, 11."
abbrev pub building_verdict : Request → ℕ → Result ⊤ Ground
building_verdict request room =
    judge (check (in_range request) RequestOutOfRange ∷ check (leb (length (built_words request)) room) BufferTooShort ∷ [])

-- what building says on paper: its refusal, and the number of words built
pub record BuiltOnPaper : Type 0 where
  pub refusal : Refusal
  pub count : ℕ

abbrev pub told_built : Result ℕ Ground → BuiltOnPaper
told_built (Ok count) = record { refusal = no_refusal; count = count }
told_built (Err why) = record { refusal = refusal_of why; count = 0 }

-- .. and what it has to say
abbrev pub due_built : Result ⊤ Ground → Request → BuiltOnPaper
due_built verdict request = record { refusal = told verdict; count = if_accepted verdict (length (built_words request)) 0 }

-- the words at the front and the rest as it was
abbrev pub buffer_at : Result ⊤ Ground → Request → List ℕ → List ℕ
buffer_at verdict request before = if_accepted verdict (built_words request ++ drop (length (built_words request)) before) before

-- the promise of building
pub record BuildingMeets (request : Request) (before : List ℕ) (r : Result ℕ Ground) (after : List ℕ) : Type 0 where
  pub answer : told_built r ≡ due_built (building_verdict request (length before)) request
  pub buffer : after ≡ buffer_at (building_verdict request (length before)) request before
