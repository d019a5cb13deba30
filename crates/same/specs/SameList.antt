-- Two lists of numbers compared one by one: the same bytes, the same words.
use Rattle.std.specs.Prelude.{Bool, ℕ, List, eqb}
use Rattle.std.specs.Cmp.Lexicographic.{pointwise}

abbrev pub same : List ℕ → List ℕ → Bool
same word name = pointwise eqb word name
