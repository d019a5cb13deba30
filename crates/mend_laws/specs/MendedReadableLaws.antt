-- The mended trace is always readable (02, [5]): every cycle passes, and none is cut.
use Rattle.std.specs.Prelude.{◌≡◌, ℕ, zero, suc, ◌+◌, ◌-◌, ◌≤◌, ◌<◌, Bool, cond, List, eqb, ltb, length}
use Rattle.std.proofs.Math.Path.{refl, sym}
use Rattle.std.proofs.Common.{ap, ◌∙◌, arith, eqb-true, ltb-true, ltb-false}
use Rattle.std.proofs.Math.Bool.{true, false}
use Rattle.std.proofs.lemmas.Bool.{false≢true, eqb-false}
use Rattle.laws.specs.TestLaws.{by_test}
use Rattle.cycle.specs.Cycle.{pst, marker, reserved, too_soon, after, carried_into}
use Rattle.cycle.proofs.CycleLaws.{never}
use Rattle.trace.specs.Items.{items}
use Rattle.trace.specs.TraceReading.{counted, reading}
use Rattle.trace.proofs.TraceReadableLaws.{Passes, Readable, readable_read}
use Rattle.mending.specs.Mending.{kept, found, kept_at, latest_marker, cut_short, mended_pst, retold, mended}
use Rattle.mending.specs.MendingLaws.{Announced, at_cut, elsewhere, cut_none, cut_latest, cut_announced}
use Rattle.mending.specs.MendingStoreLaws.{retold_length}
use Rattle.mend_laws.specs.RetoldLaws.{retold_pst}

-- what the first two rules keep passes
module _ (due p : ℕ) where
  pub kept_unreserved : reserved (kept due p) ≡ false
  unfolding kept
  kept_unreserved = by_tests (reserved p) (too_soon due p) refl
    where
      by_tests : (r s : Bool) → reserved p ≡ r → reserved (cond r 0 (cond s 0 p)) ≡ false
      by_tests true s e = refl
      by_tests false true e = refl
      by_tests false false e = e

  pub kept_in_time : too_soon due (kept due p) ≡ false
  unfolding kept
  kept_in_time = by_tests (reserved p) (too_soon due p) refl
    where
      by_tests : (r s : Bool) → too_soon due p ≡ s → too_soon due (cond r 0 (cond s 0 p)) ≡ false
      by_tests true s e = sym (never due)
      by_tests false true e = sym (never due)
      by_tests false false e = e

-- a trace whose PSTs are what the two rules keep, up to a cycle, has there under way what they find
pub carried_found : (psts : ℕ → ℕ) (trace : List ℕ) (n i : ℕ) → i ≤ n → ((j : ℕ) → j < i → psts j ≡ kept_at trace j)
    → carried_into (retold psts trace n) i ≡ found trace i
unfolding carried_into found
carried_found psts trace n zero h same = refl
carried_found psts trace n (suc i) h same =
    rw (carried_found psts trace n i (omega arith) (λ j k. same j (omega arith)), retold_pst psts trace n i (omega arith), same i (omega arith))

-- behind the latest marker there is none
none_later : (trace : List ℕ) (n i : ℕ) → latest_marker trace n < i → i < n → marker (kept_at trace i) ≡ false
unfolding latest_marker
none_later trace zero i h k = absurd (omega arith)
none_later trace (suc n) i h k = by_tests (marker (kept_at trace n)) (eqb i n) refl refl h (λ l. none_later trace n i l)
  where
    by_tests : (m t : Bool) → marker (kept_at trace n) ≡ m → eqb i n ≡ t → cond m n (latest_marker trace n) < i
        → (latest_marker trace n < i → i < n → marker (kept_at trace i) ≡ false) → marker (kept_at trace i) ≡ false
    by_tests true t e f l before = absurd (omega arith)
    by_tests false true e f l before = rw (eqb-true i n f) e
    by_tests false false e f l before = before l (omega (arith, eqb-false i n f))

-- a marker that the two rules keep comes where one nibble at most is due
kept_marker_due : (due p : ℕ) → marker (kept due p) ≡ true → due - 1 ≡ 0
kept_marker_due due p e = by_test (ltb due 2) (λ t. omega (arith, ltb-true due 2 t)) (λ t. absurd (false≢true (sym (kept_in_time due p) ∙ rw (t, e))))

-- where there is no marker, a nibble less is due
due_falls : (trace : List ℕ) (i : ℕ) → marker (pst trace i) ≡ false → (carried_into trace (suc i)).due ≡ (carried_into trace i).due - 1
unfolding carried_into after
due_falls trace i e = rw e

module _ (trace : List ℕ) where
  -- up to the cycle that the third rule wipes, the mended trace has under way what the first two rules find
  pub carried_to_cut : (i : ℕ) → i ≤ length trace → i ≤ cut_short trace → carried_into (mended trace) i ≡ found trace i
  carried_to_cut i h k = carried_found (mended_pst trace) trace (length trace) i h (λ j l. elsewhere trace j (λ e. omega (arith, e)))

  pst_mended : (i : ℕ) → i < length trace → pst (mended trace) i ≡ mended_pst trace i
  pst_mended i h = retold_pst (mended_pst trace) trace (length trace) i h

  -- behind it nothing is due
  module _ (due : (found trace (length trace)).due ≡ 0 → ⊥) where
    none_due : (i : ℕ) → cut_short trace < i → i ≤ length trace → (carried_into (mended trace) i).due ≡ 0
    none_due zero h k = absurd (omega arith)
    none_due (suc i) h k = by_place (eqb i (cut_short trace)) refl (none_due i)
      where
        a : Announced trace (cut_short trace) (length trace)
        a = cut_announced trace due

        wiped_falls : i ≡ cut_short trace → (carried_into (mended trace) (suc i)).due ≡ 0
        wiped_falls same =
            let none : marker (pst (mended trace) i) ≡ false = rw (pst_mended i (omega arith), same, at_cut trace) in
            due_falls (mended trace) i none
            ∙ rw (carried_to_cut i (omega arith) (omega arith), same)
            (kept_marker_due (found trace (cut_short trace)).due (pst trace (cut_short trace)) a.stands)

        stays_none : (i ≡ cut_short trace → ⊥) → (carried_into (mended trace) i).due ≡ 0 → (carried_into (mended trace) (suc i)).due ≡ 0
        stays_none other before =
            let later : latest_marker trace (length trace) < i = omega (arith, cut_latest trace due) in
            let none : marker (pst (mended trace) i) ≡ false
            = rw (pst_mended i (omega arith), elsewhere trace i other) (none_later trace (length trace) i later (omega arith)) in
            omega (arith, due_falls (mended trace) i none)

        by_place : (t : Bool) → eqb i (cut_short trace) ≡ t
            → (cut_short trace < i → i ≤ length trace → (carried_into (mended trace) i).due ≡ 0)
            → (carried_into (mended trace) (suc i)).due ≡ 0
        by_place true e before = wiped_falls (eqb-true i (cut_short trace) e)
        by_place false e before =
            let other = eqb-false i (cut_short trace) e in stays_none other (before (omega (arith, other)) (omega arith))

  -- each cycle passes: wiped by the third rule, as the first two leave it, or with nothing due
  passes_mended : (i : ℕ) → i < length trace → Passes (mended trace) i
  passes_mended i h = by_test (eqb i (cut_short trace)) (λ e. wiped (eqb-true i (cut_short trace) e)) (λ e. other (eqb-false i (cut_short trace) e))
    where
      wiped : i ≡ cut_short trace → Passes (mended trace) i
      wiped e =
          let zero-there : pst (mended trace) i ≡ 0 = pst_mended i h ∙ rw e (at_cut trace) in
          record { unreserved = rw zero-there; in_time = rw zero-there (sym (never (carried_into (mended trace) i).due)) }

      kept_there : (i ≡ cut_short trace → ⊥) → pst (mended trace) i ≡ kept_at trace i
      kept_there e = pst_mended i h ∙ elsewhere trace i e

      before : (i ≡ cut_short trace → ⊥) → i < cut_short trace → too_soon (carried_into (mended trace) i).due (pst (mended trace) i) ≡ false
      before e l = rw (kept_there e, carried_to_cut i (omega arith) (omega arith)) (kept_in_time (found trace i).due (pst trace i))

      behind : cut_short trace < i → too_soon (carried_into (mended trace) i).due (pst (mended trace) i) ≡ false
      behind l = rw (none_due (λ none. omega (arith, cut_none trace none)) i l (omega arith))

      other : (i ≡ cut_short trace → ⊥) → Passes (mended trace) i
      other e =
          record {
            unreserved = rw (kept_there e) (kept_unreserved (found trace i).due (pst trace i));
            in_time = by_test (ltb i (cut_short trace))
                (λ t. before e (ltb-true i (cut_short trace) t))
                (λ t. behind (omega (arith, ltb-false i (cut_short trace) t)));
          }

  whole_mended : (carried_into (mended trace) (length trace)).due ≡ 0
  whole_mended = by_test (eqb (found trace (length trace)).due 0) (λ e. uncut (eqb-true _ 0 e)) (λ e. cut (eqb-false _ 0 e))
    where
      uncut : (found trace (length trace)).due ≡ 0 → (carried_into (mended trace) (length trace)).due ≡ 0
      uncut none = rw (carried_to_cut (length trace) (omega arith) (omega (arith, cut_none trace none))) none

      cut : ((found trace (length trace)).due ≡ 0 → ⊥) → (carried_into (mended trace) (length trace)).due ≡ 0
      cut due = none_due due (length trace) (cut_announced trace due).before (omega arith)

  pub mended_passes : Readable (mended trace)
  mended_passes =
      let same = retold_length (mended_pst trace) trace (length trace) in
      record { passes = λ i h. passes_mended i (rw same at h); whole = rw same whole_mended }

  -- THE LAW: "The mended trace is always readable"
  pub mended_read : length trace ≤ 65536 → reading (mended trace) ≡ counted (length (items (mended trace)))
  mended_read short = readable_read (mended trace) (rw (retold_length (mended_pst trace) trace (length trace)) short) mended_passes
