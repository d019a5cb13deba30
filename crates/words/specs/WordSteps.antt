-- Taking the words of a line one by one.
use Rattle.std.specs.Prelude.{ℕ, ◌<◌, ◌≤◌, ◌≡◌, List, [], ◌∷◌, length, Option, None, Some}
use Rattle.std.specs.Borrow.{Bor}
use Rattle.words.specs.LineWords.{words_from, last_end}
use Rattle.words.specs.declared.Words.{Words}

-- the words that are still to come
abbrev pub words_left : Words → List (List ℕ)
words_left words = words_from words.line.now words.at

-- the first word was taken, up to its end; behind the last word of the line nothing is left
pub record TakesWord (old : Words) (word : List ℕ) (new : Words) : Type 0 where
  pub first : words_left old ≡ word ∷ words_left new
  pub line : new.line ≡ old.line
  pub goes_on : old.at < new.at
  pub inside : new.at ≤ length old.line.now
  pub closes : words_left new ≡ [] → last_end old.line.now ≡ new.at

abbrev pub GivesWord : Words → Option (Bor (List ℕ)) → Words → Type 0
GivesWord old None new = (words_left old ≡ []) × (new ≡ old)
GivesWord old (Some word) new = TakesWord old word.now new
