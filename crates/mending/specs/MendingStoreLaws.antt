-- Laws of the buffers that mending fills: one cycle more, and room for each cycle where there is room for all.
use Rattle.std.specs.Prelude.{◌≡◌, refl, ℕ, zero, suc, ◌+◌, ◌-◌, ◌*◌, ◌≤◌, ◌<◌, Bool, true, false, cond, List, [], ◌∷◌, eqb, length, set}
use Rattle.std.proofs.Common.{ap, sym, ◌∙◌, add-zero, zero-add, add-suc, arith, length-append}
use Rattle.std.proofs.lemmas.List.Edits.{sets}
use Rattle.laws.specs.StoreLaws.{sets_append}
use Rattle.cycle.specs.Cycle.{pst, ddata}
use Rattle.mending.specs.Mending.{mended_pst, retold, change_word, changes_before, changes}
use Rattle.mending.specs.MendingLaws.{changes_next, retold_next}

pub retold_length : (psts : ℕ → ℕ) (trace : List ℕ) (i : ℕ) → length (retold psts trace i) ≡ i
unfolding retold
retold_length psts trace zero = refl
retold_length psts trace (suc i) = omega (arith, length-append (retold psts trace i) ((psts i * 16 + ddata trace i) ∷ []), retold_length psts trace i)

-- the words of the cycles before one are among those before a later one
pub changes_grow : (trace : List ℕ) (i k : ℕ) → length (changes_before trace i) ≤ length (changes_before trace (i + k))
unfolding changes_before
changes_grow trace i zero = rw (add-zero i) (omega arith)
changes_grow trace i (suc k) =
    let more = length-append (changes_before trace (i + k)) (change_word (i + k) (pst trace (i + k)) (mended_pst trace (i + k))) in
    rw (add-suc i k) (omega (arith, changes_grow trace i k))

pub changes_counted : (trace : List ℕ) (i : ℕ)
    → length (changes_before trace i) + length (change_word i (pst trace i) (mended_pst trace i)) ≡ length (changes_before trace (i + 1))
changes_counted trace i =
    sym (ap length (changes_next trace i) ∙ length-append (changes_before trace i) (change_word i (pst trace i) (mended_pst trace i)))

-- one word a cycle at most
pub changes_at_most : (trace : List ℕ) (i : ℕ) → length (changes_before trace i) ≤ i
unfolding changes_before
changes_at_most trace zero = omega arith
changes_at_most trace (suc i) =
    omega (
      arith,
      length-append (changes_before trace i) (change_word i (pst trace i) (mended_pst trace i)),
      changes_at_most trace i,
      one_at_most (eqb (mended_pst trace i) (pst trace i)),
    )
  where
    one_at_most : (t : Bool) → length (cond t [] ((i * 16 + pst trace i) ∷ [])) ≤ 1
    one_at_most true = omega arith
    one_at_most false = omega arith

-- one cycle more in both buffers
pub mended_more : (psts : ℕ → ℕ) (trace before : List ℕ) (i : ℕ)
    → set (sets before 0 (retold psts trace i)) i (psts i * 16 + ddata trace i) ≡ sets before 0 (retold psts trace (i + 1))
mended_more psts trace before i =
    sym (ap (sets before 0) (retold_next trace i psts)
    ∙ sets_append (retold psts trace i) ((psts i * 16 + ddata trace i) ∷ []) before 0
    ∙ ap (λ (at : ℕ). set (sets before 0 (retold psts trace i)) at (psts i * 16 + ddata trace i)) (zero-add _ ∙ retold_length psts trace i))

pub changes_more : (trace before : List ℕ) (i : ℕ)
    → sets (sets before 0 (changes_before trace i)) (length (changes_before trace i)) (change_word i (pst trace i) (mended_pst trace i))
    ≡ sets before 0 (changes_before trace (i + 1))
changes_more trace before i =
    sym (ap (sets before 0) (changes_next trace i)
    ∙ sets_append (changes_before trace i) (change_word i (pst trace i) (mended_pst trace i)) before 0
    ∙ ap (λ (at : ℕ). sets (sets before 0 (changes_before trace i)) at word) (zero-add (length (changes_before trace i))))
  where
    word : List ℕ
    word = change_word i (pst trace i) (mended_pst trace i)

-- so there is room for the words of each cycle where there is room for all
pub change_fits : (trace : List ℕ) (i : ℕ) → i < length trace
    → length (changes_before trace i) + length (change_word i (pst trace i) (mended_pst trace i)) ≤ length (changes trace)
change_fits trace i h =
    let end : i + 1 + (length trace - (i + 1)) ≡ length trace = omega arith in
    omega (arith, changes_counted trace i, rw end at (changes_grow trace (i + 1) (length trace - (i + 1))))
