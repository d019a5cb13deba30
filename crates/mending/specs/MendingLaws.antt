-- Laws of mending: cycle by cycle, what the first two rules keep, and the marker that the third is for.
use Rattle.std.specs.Prelude.{◌≡◌, refl, ℕ, zero, suc, ◌+◌, ◌-◌, ◌*◌, ◌≤◌, ◌<◌, Bool, true, false, cond, List, [], ◌∷◌, ◌++◌, eqb, length}
use Rattle.std.proofs.Math.Path.{sym}
use Rattle.std.proofs.Common.{add-one, arith}
use borrow.Author.Tests.{eq-eqb, ne_eqb, lt-ltb, le-ltb}
use Rattle.laws.specs.TestLaws.{either}
use Rattle.cycle.proofs.CycleLaws.{never}
use Rattle.cycle.specs.Cycle.{pst, ddata, marker, nibbles, due_after, reserved, too_soon, after}
use Rattle.mending.specs.Mending.{kept, found, kept_at, latest_marker, cut_short, mended_pst, retold, change_word, changes_before}

-- the first two rules keep a PST or wipe it
pub data KeptOrWiped (p : ℕ) : ℕ → Type 0 where
  same : KeptOrWiped p p
  wiped : KeptOrWiped p 0

pub kept_or_wiped : (due p : ℕ) → KeptOrWiped p (kept due p)
unfolding kept
kept_or_wiped due p = either (KeptOrWiped p) (reserved p) _ _ (λ e. wiped) (λ e. either (KeptOrWiped p) (too_soon due p) _ _ (λ f. wiped) (λ f. same))

kept_le : {p k : ℕ} → KeptOrWiped p k → k ≤ p
kept_le same = omega arith
kept_le wiped = omega arith

-- one cycle more
module _ (trace : List ℕ) (i : ℕ) where
  pub due_next : {due k : ℕ} → due ≡ (found trace i).due → k ≡ kept due (pst trace i) → due_after due k ≡ (found trace (i + 1)).due
  unfolding found after
  due_next due-is k-is = rw (add-one i, k-is, due-is)

  pub left_of : {due cut k left : ℕ} → due ≡ (found trace i).due → cut ≡ cut_short trace → k ≡ kept due (pst trace i) → left ≡ cond (eqb i cut) 0 k
      → left ≡ mended_pst trace i
  unfolding mended_pst
  left_of due-is cut-is k-is left_is = rw (left_is, k-is, due-is, cut-is)

  pub latest_next : cond (marker (kept_at trace i)) i (latest_marker trace i) ≡ latest_marker trace (i + 1)
  unfolding latest_marker
  latest_next = rw (add-one i)

  pub changes_next : changes_before trace (i + 1) ≡ changes_before trace i ++ change_word i (pst trace i) (mended_pst trace i)
  unfolding changes_before
  changes_next = rw (add-one i)

  pub retold_next : (psts : ℕ → ℕ) → retold psts trace (i + 1) ≡ retold psts trace i ++ (psts i * 16 + ddata trace i) ∷ []
  unfolding retold
  retold_next psts = rw (add-one i)

-- and so do all three; none makes it larger
pub mended_or_wiped : (trace : List ℕ) (i : ℕ) → KeptOrWiped (pst trace i) (mended_pst trace i)
unfolding mended_pst
mended_or_wiped trace i =
    either (KeptOrWiped (pst trace i)) (eqb i (cut_short trace)) 0 (kept_at trace i) (λ e. wiped) (λ e. kept_or_wiped (found trace i).due (pst trace i))

pub mended_at_most : (trace : List ℕ) (i : ℕ) → mended_pst trace i ≤ pst trace i
mended_at_most trace i = kept_le (mended_or_wiped trace i)

-- a marker that stands before a cycle, as the first two rules leave it
pub record Announced (trace : List ℕ) (j i : ℕ) : Type 0 where
  pub before : j < i
  pub stands : marker (kept_at trace j) ≡ true

latest_step : (trace : List ℕ) (i : ℕ) (t : Bool) → marker (kept_at trace i) ≡ t
    → (cond t (nibbles (kept_at trace i)) ((found trace i).due - 1) ≡ 0 → ⊥)
    → (((found trace i).due ≡ 0 → ⊥) → Announced trace (latest_marker trace i) i)
    → Announced trace (cond t i (latest_marker trace i)) (suc i)
latest_step trace i true e due earlier = record { before = omega arith; stands = e }
latest_step trace i false e due earlier =
    let a = earlier (λ none. due (omega (arith, none))) in record { before = omega (arith, a.before); stands = a.stands }

-- where nibbles are due, the latest marker is one of the cycles before
latest_announced : (trace : List ℕ) (i : ℕ) → ((found trace i).due ≡ 0 → ⊥) → Announced trace (latest_marker trace i) i
unfolding found latest_marker after
latest_announced trace zero due = absurd (due refl)
latest_announced trace (suc i) due = latest_step trace i (marker (kept_at trace i)) refl due (latest_announced trace i)

module _ (trace : List ℕ) where
  -- the third rule wipes one cycle, and leaves all others as the first two keep them
  pub at_cut : mended_pst trace (cut_short trace) ≡ 0
  unfolding mended_pst
  at_cut = rw (eq-eqb (cut_short trace) (cut_short trace) refl)

  pub elsewhere : (i : ℕ) → (i ≡ cut_short trace → ⊥) → mended_pst trace i ≡ kept_at trace i
  unfolding mended_pst
  elsewhere i h = rw (ne_eqb i (cut_short trace) h)

  -- a trace that ends inside no transfer
  pub cut_none : (found trace (length trace)).due ≡ 0 → cut_short trace ≡ length trace
  unfolding cut_short
  cut_none e = rw (eq-eqb _ 0 e)

  module _ (due : (found trace (length trace)).due ≡ 0 → ⊥) where
    pub cut_latest : cut_short trace ≡ latest_marker trace (length trace)
    unfolding cut_short
    cut_latest = rw (ne_eqb _ 0 due)

    pub cut_announced : Announced trace (cut_short trace) (length trace)
    cut_announced = rw cut_latest (latest_announced trace (length trace) due)

-- what is kept, by the kind of PST
module _ (due p : ℕ) where
  pub kept_reserved : reserved p ≡ true → kept due p ≡ 0
  unfolding kept
  kept_reserved e = rw e

  pub kept_low : p < 8 → reserved p ≡ false → kept due p ≡ p
  unfolding kept
  kept_low h e = rw (e, lt-ltb p 8 h, sym (never due))

  above : (n : ℕ) → n < 8 → 8 ≤ p → eqb p n ≡ false
  above n k h = ne_eqb p n (λ e. omega (arith, e))

  unreserved : 8 ≤ p → reserved p ≡ false
  unreserved h = rw (above 2 (omega arith) h, above 6 (omega arith) h)

  pub kept_soon : 8 ≤ p → p < 12 → 2 ≤ due → kept due p ≡ 0
  unfolding kept
  kept_soon h k d = rw (unreserved h, le-ltb p 8 h, lt-ltb p 12 k, le-ltb due 2 d)

  pub kept_in_turn : 8 ≤ p → p < 12 → due < 2 → kept due p ≡ p
  unfolding kept
  kept_in_turn h k d = rw (unreserved h, lt-ltb due 2 d)

  pub kept_high : 12 ≤ p → kept due p ≡ p
  unfolding kept
  kept_high h = rw (unreserved (omega arith), le-ltb p 8 (omega arith), le-ltb p 12 h, sym (never due))
