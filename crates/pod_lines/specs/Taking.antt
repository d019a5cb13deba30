-- The desk's language: any count of words as numbers, taken into a lent buffer.
use Rattle.std.specs.Prelude.{ℕ, ◌≡◌, Bool, true, cond, ◌&&◌, List, [], ◌∷◌, ◌++◌, leb, length, drop, Err, Ok, Result}
use Rattle.pod_lines.specs.declared.NotTaken.{NotTaken}
use Rattle.pod_lines.specs.declared.NotTaken.TheVariants.{TooMany, NotAllNumbers}
use Rattle.numbers.specs.Numbers.{value, is_numeral}

abbrev pub all_numerals : List (List ℕ) → Bool
all_numerals [] = true
all_numerals (word ∷ words) = is_numeral word && all_numerals words

abbrev pub values : List (List ℕ) → List ℕ
values [] = []
values (word ∷ words) = value word ∷ values words

-- how many they are, where all are numbers
abbrev pub counted : List (List ℕ) → Result ℕ NotTaken
counted words = cond (all_numerals words) (Ok (length words)) (Err NotAllNumbers)

-- .. and where the buffer has room for them
abbrev pub taken : Result ℕ NotTaken → ℕ → Result ℕ NotTaken
taken (Ok n) room = cond (leb n room) (Ok n) (Err TooMany)
taken (Err why) room = Err why

-- the numbers at the front and the rest as it was; all as it was where they are not taken
abbrev pub buffer_after : Result ℕ NotTaken → List (List ℕ) → List ℕ → List ℕ
buffer_after (Ok n) words before = values words ++ drop n before
buffer_after (Err why) words before = before

-- the promise of taking numbers
pub record TakingMeets (words : List (List ℕ)) (before : List ℕ) (r : Result ℕ NotTaken) (after : List ℕ) : Type 0 where
  pub answer : r ≡ taken (counted words) (length before)
  pub buffer : after ≡ buffer_after (taken (counted words) (length before)) words before
