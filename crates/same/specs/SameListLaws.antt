-- Laws of lists compared one by one: they are the same exactly where they are equal.
use Rattle.std.specs.Prelude.{ℕ, ◌+◌, ◌≤◌, ◌<◌, ◌≡◌, refl, Bool, true, false, List, length, get_or, drop}
use Rattle.std.proofs.Common.{ap, add-one, drop-cons, drop_of_length-le, eq-eqb, ne_eqb}
use Rattle.std.proofs.lemmas.Bool.Decides.{Decides-eqb}
use Rattle.std.proofs.lemmas.Slice.Eq.{slice_eq-Decides}
use Rattle.same.specs.SameList.{same}

pub same_goes_on : (word name : List ℕ) (i : ℕ) → i < length word → i < length name → get_or word i 0 ≡ get_or name i 0
    → same (drop i word) (drop i name) ≡ same (drop (i + 1) word) (drop (i + 1) name)
same_goes_on word name i h g e = rw (add-one, drop-cons word i 0 h, drop-cons name i 0 g, eq-eqb _ _ e)

pub same_differs : (word name : List ℕ) (i : ℕ) → i < length word → i < length name → (get_or word i 0 ≡ get_or name i 0 → ⊥)
    → same (drop i word) (drop i name) ≡ false
same_differs word name i h g e = rw (drop-cons word i 0 h, drop-cons name i 0 g, ne_eqb _ _ e)

pub same_ends : (word name : List ℕ) (i : ℕ) → length word ≤ i → length name ≤ i → same (drop i word) (drop i name) ≡ true
same_ends word name i h g = rw (drop_of_length-le word h, drop_of_length-le name g)

pub same_equal : (word name : List ℕ) → same word name ≡ true → word ≡ name
same_equal word name = (slice_eq-Decides Decides-eqb word name _ refl).0

pub equal_same : (word : List ℕ) → same word word ≡ true
equal_same word = (slice_eq-Decides Decides-eqb word word _ refl).1 refl

pub same_length : (word name : List ℕ) → (length word ≡ length name → ⊥) → same word name ≡ false
same_length word name h = by_test (same word name) refl
  where
    by_test : (t : Bool) → same word name ≡ t → t ≡ false
    by_test true e = absurd (h (ap length (same_equal word name e)))
    by_test false e = refl
