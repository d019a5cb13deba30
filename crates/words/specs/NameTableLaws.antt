-- Laws of a table of names: a name means what its row says.
use Rattle.std.specs.Prelude.{ℕ, ◌≡◌, refl, Bool, true, false, cond, List, [], ◌∷◌, map, ◌⊎◌}
use Rattle.std.proofs.Common.{inl, inr}
use Rattle.words.specs.LineWords.{lower, same}
use Rattle.words.specs.LineWordLaws.{same_equal}
use Rattle.words.specs.NameTable.{Row, found}

-- a row of a table has the name, in small letters, and the meaning
pub data Listed {A : Type 0} (name : List ℕ) (meaning : A) : List (Row A) → Type 0 where
  here : {r : Row A} {rows : List (Row A)} → map lower name ≡ r.name → meaning ≡ r.meaning → Listed name meaning (r ∷ rows)
  there : {r : Row A} {rows : List (Row A)} → Listed name meaning rows → Listed name meaning (r ∷ rows)

-- a name means what a row with that very name says, but for the case, or is none of the names
pub found_is_listed : {A : Type 0} (none : A) (name : List ℕ) (rows : List (Row A)) → (found none name rows ≡ none) ⊎ Listed name (found none name rows) rows
found_is_listed none name [] = inl refl
found_is_listed {A} none name (r ∷ rows) = by_test (found_is_listed none name rows) (same name r.name) refl
  where
    by_test : (found none name rows ≡ none) ⊎ Listed name (found none name rows) rows → (t : Bool) → same name r.name ≡ t
        → (cond t r.meaning (found none name rows) ≡ none) ⊎ Listed name (cond t r.meaning (found none name rows)) (r ∷ rows)
    by_test ih true e = inr (here (same_equal name r.name e) refl)
    by_test (inl p) false e = inl p
    by_test (inr l) false e = inr (there l)
