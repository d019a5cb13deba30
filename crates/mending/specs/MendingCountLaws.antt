-- Laws of how many cycles change: those that the first two rules wipe, and one more where the trace ends inside a transfer.
use Rattle.std.specs.Prelude.{◌≡◌, refl, Bool, true, false, cond, List, [], ◌∷◌, eqb, ltb, length}
use Rattle.std.proofs.Math.Path.{ap}
use Rattle.std.proofs.Common.{sym, add-one, eqb-true, eq-eqb, ne_eqb, lt-ltb, le-ltb}
use Prim.Native.Nat.{ℕ, zero, suc, ◌+◌, ◌*◌, ◌≤◌, ◌<◌}
use Rattle.std.proofs.lemmas.Bool.{false≢true, eqb-false}
use native.Mathlib.Omega.{arith}
use Rattle.std.proofs.Math.ListN.{length-append}
use Rattle.laws.specs.TestLaws.{by_test, either, below_next}
use Rattle.cycle.specs.CycleCountLaws.{one}
use Rattle.cycle.specs.Cycle.{pst, marker}
use Rattle.mending.specs.Mending.{found, kept_at, cut_short, mended_pst, change_word, changes_before, changes}
use Rattle.mending.specs.MendingMirror.{wipes, wiped_before}
use Rattle.mending.specs.MendingLaws.{KeptOrWiped, same, wiped, kept_or_wiped, Announced, at_cut, elsewhere, cut_none, cut_announced}

pub wipes_once : (old left : ℕ) → wipes old left ≤ 1
wipes_once old left = either (λ (n : ℕ). n ≤ 1) (eqb left old) 0 1 (λ e. omega arith) (λ e. omega arith)

pub wiped_next : (trace : List ℕ) (i : ℕ) → wiped_before trace i + wipes (pst trace i) (kept_at trace i) ≡ wiped_before trace (i + 1)
unfolding wiped_before
wiped_next trace i = rw (add-one i)

pub wiped_at_most : (trace : List ℕ) (i : ℕ) → wiped_before trace i ≤ i
unfolding wiped_before
wiped_at_most trace zero = omega arith
wiped_at_most trace (suc i) = omega (arith, wiped_at_most trace i, wipes_once (pst trace i) (kept_at trace i))

change_counted : (i old left : ℕ) → length (change_word i old left) ≡ wipes old left
change_counted i old left = by_case (eqb left old)
  where
    by_case : (t : Bool) → length (cond t [] ((i * 16 + old) ∷ [])) ≡ cond t 0 1
    by_case true = refl
    by_case false = refl

-- a marker that is kept is the cycle's own, and no 0
own_marker : {p k : ℕ} → KeptOrWiped p k → marker k ≡ true → (wipes p k ≡ 0) × (wipes p 0 ≡ 1)
own_marker {p} same e = (rw (eq-eqb p p refl), rw (ne_eqb 0 p (λ z. false≢true (rw (sym z) at e))))
own_marker wiped e = absurd (false≢true e)

module _ (trace : List ℕ) where
  -- at its cycle the third rule makes a change that the first two did not make, and nowhere else
  third_adds : (i : ℕ) → (cut_short trace < suc i → Announced trace (cut_short trace) (length trace))
      → wipes (pst trace i) (mended_pst trace i) + one (ltb (cut_short trace) i) ≡ wipes (pst trace i) (kept_at trace i) + one (ltb (cut_short trace) (suc i))
  third_adds i a = by_test (eqb i (cut_short trace)) here there
    where
      here : eqb i (cut_short trace) ≡ true
          → wipes (pst trace i) (mended_pst trace i) + one (ltb (cut_short trace) i)
          ≡ wipes (pst trace i) (kept_at trace i) + one (ltb (cut_short trace) (suc i))
      here e =
          let same : i ≡ cut_short trace = eqb-true _ _ e in
          let own = own_marker (kept_or_wiped (found trace i).due (pst trace i)) (rw (sym same) at (a (omega arith)).stands) in
          rw (rw (sym same) at (at_cut trace), own.0, own.1, le-ltb (cut_short trace) i (omega arith), lt-ltb (cut_short trace) (suc i) (omega arith))

      there : eqb i (cut_short trace) ≡ false
          → wipes (pst trace i) (mended_pst trace i) + one (ltb (cut_short trace) i)
          ≡ wipes (pst trace i) (kept_at trace i) + one (ltb (cut_short trace) (suc i))
      there e = let other : i ≡ cut_short trace → ⊥ = eqb-false _ _ e in
          rw (elsewhere trace i other, below_next (cut_short trace) i (λ same. other (sym same)))

  changed_by : (i : ℕ) → (cut_short trace < i → Announced trace (cut_short trace) (length trace))
      → length (changes_before trace i) ≡ wiped_before trace i + one (ltb (cut_short trace) i)
  unfolding changes_before wiped_before
  changed_by zero a = omega (arith, ap one (le-ltb (cut_short trace) 0 (omega arith)))
  changed_by (suc i) a =
      omega (
        arith,
        length-append (changes_before trace i) (change_word i (pst trace i) (mended_pst trace i)),
        change_counted i (pst trace i) (mended_pst trace i),
        third_adds i a,
        changed_by i (λ h. a (omega (arith, h))),
      )

  -- so the trace's changes are those of the first two rules, and one where it ends inside a transfer
  pub changes_whole : (found trace (length trace)).due ≡ 0 → length (changes trace) ≡ wiped_before trace (length trace)
  changes_whole e =
      let none = cut_none trace e in
      omega (arith, changed_by (length trace) (λ h. absurd (omega (arith, none))), ap one (le-ltb (cut_short trace) (length trace) (omega (arith, none))))

  pub changes_cut : ((found trace (length trace)).due ≡ 0 → ⊥) → length (changes trace) ≡ wiped_before trace (length trace) + 1
  changes_cut due =
      let a = cut_announced trace due in
      omega (arith, changed_by (length trace) (λ h. a), ap one (lt-ltb (cut_short trace) (length trace) a.before))
