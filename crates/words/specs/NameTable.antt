-- The desk's language: a table of names, and what a name means there.
use Rattle.std.specs.Prelude.{ℕ, cond, List, [], ◌∷◌}
use Rattle.words.specs.LineWords.{same}

pub record Row (A : Type 0) : Type 0 where
  pub name : List ℕ
  pub meaning : A

abbrev pub row : {A : Type 0} → List ℕ → A → Row A
row n m = record { name = n; meaning = m }

-- "Any other line that is none of these .. gets `unclear`": what a name means that is in no row comes first
abbrev pub found : {A : Type 0} → A → List ℕ → List (Row A) → A
found none name [] = none
found none name (r ∷ rows) = cond (same name r.name) r.meaning (found none name rows)
