-- Laws of sizes behind a name: the name first, and then the size.
use Rattle.std.specs.Prelude.{ℕ, ◌<◌, ◌≡◌, refl, Bool, true, false, ◌&&◌, List, [], ◌∷◌, ◌++◌, eqb, length, take, drop, None}
use Rattle.std.proofs.Common.{arith, take_all}
use Rattle.words.specs.LineWords.{ascii, lower, same}
use Rattle.words.specs.LineWordLaws.{same_length}
use Rattle.request_lines.specs.RequestLines.{size_behind}

same_parts : (name stem tail : List ℕ) → same name (stem ++ tail) ≡ same (take (length stem) name) stem && same (drop (length stem) name) tail
same_parts name [] tail = refl
same_parts [] (b ∷ stem) tail = refl
same_parts (a ∷ name) (b ∷ stem) tail = by_test (same_parts name stem tail) (eqb (lower a) b)
  where
    by_test : same name (stem ++ tail) ≡ same (take (length stem) name) stem && same (drop (length stem) name) tail
        → (t : Bool) → t && same name (stem ++ tail) ≡ (t && same (take (length stem) name) stem) && same (drop (length stem) name) tail
    by_test h true = h
    by_test h false = refl

pub no_size_of_another : (name stem : List ℕ) → same (take (length stem) name) stem ≡ false → size_behind name stem ≡ None
unfolding size_behind
no_size_of_another name stem e = rw (same_parts name stem (ascii ".b"), same_parts name stem (ascii ".w"), same_parts name stem (ascii ".l"), e)

pub no_size_of_a_shorter : (name stem : List ℕ) → length name < length stem → size_behind name stem ≡ None
no_size_of_a_shorter name stem h =
    let all = take_all (length stem) name (omega arith) in
    let longer : length name ≡ length stem → ⊥ = λ e. omega (arith, h, e) in
    no_size_of_another name stem (rw all (same_length name stem longer))

pub size_behind_lem : (name stem : List ℕ) → same (take (length stem) name) stem ≡ true → size_behind name stem ≡ size_behind (drop (length stem) name) []
unfolding size_behind
size_behind_lem name stem e = rw (same_parts name stem (ascii ".b"), same_parts name stem (ascii ".w"), same_parts name stem (ascii ".l"), e)

-- a name by its stem
pub ruleset by_stem = (no_size_of_another, no_size_of_a_shorter, size_behind_lem)
