-- What the code of `pod` holds of a line: the place where the colon ends.
use Rattle.std.specs.Prelude.{ℕ, List, None, Some, Option}
use Rattle.words.specs.LineWords.{words_from}

-- the words behind the place where a colon ends
abbrev pub behind : List ℕ → Option ℕ → Option (List (List ℕ))
behind line (Some end) = Some (words_from line end)
behind line None = None
