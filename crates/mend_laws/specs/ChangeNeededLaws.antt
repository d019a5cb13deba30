-- Each change was needed where the rules made it (02, [5]): without it the reader would have refused the trace as mended so far, there and on that ground.
use Rattle.std.specs.Prelude.{◌≡◌, refl, ℕ, ◌≤◌, ◌<◌, Bool, true, false, cond, List, eqb, ltb, length}
use Rattle.std.proofs.Common.{ap, sym, ◌∙◌, arith, eqb-true, lt-ltb, le-ltb}
use Rattle.std.proofs.lemmas.Bool.{eqb-false}
use Rattle.laws.specs.TestLaws.{by_test}
use Rattle.cycle.specs.Cycle.{pst, reserved, too_soon, carried_into}
use Rattle.trace.specs.TraceReading.{refusal, reading}
use Rattle.trace.proofs.TraceReadableLaws.{Passes, refused_reserved, refused_too_soon, refused_cut}
use Rattle.mending.specs.Mending.{kept, found, kept_at, latest_marker, cut_short, mended_pst, retold}
use Rattle.mending.specs.MendingLaws.{elsewhere, cut_none, cut_latest}
use Rattle.mending.specs.MendingStoreLaws.{retold_length}
use Rattle.mend_laws.specs.RetoldLaws.{retold_pst}
use Rattle.mend_laws.specs.MendedReadableLaws.{kept_unreserved, kept_in_time, carried_found}

-- "what has been mended so far": the cycles before cycle i as the first two rules leave them, and the others as recorded
abbrev pub pst_so_far : List ℕ → ℕ → ℕ → ℕ
pst_so_far trace i j = cond (ltb j i) (kept_at trace j) (pst trace j)

abbrev pub so_far : List ℕ → ℕ → List ℕ
so_far trace i = retold (pst_so_far trace i) trace (length trace)

-- why cycle i was changed: the reader's own refusal of the trace as mended so far
pub data Needed (trace : List ℕ) (i : ℕ) : Type 0 where
  -- "a reserved PST becomes 0"
  reserved_there : reading (so_far trace i) ≡ refusal 8 i → Needed trace i
  -- "a marker that would get ground 9 becomes PST 0"
  too_soon_there : reading (so_far trace i) ≡ refusal 9 i → Needed trace i
  -- "if the trace ends inside a transfer, that transfer's marker": the latest
  cut_there : reading (so_far trace (length trace)) ≡ refusal 10 0 → i ≡ latest_marker trace (length trace) → Needed trace i

module _ (trace : List ℕ) (i : ℕ) (h : i ≤ length trace) where
  within : length (so_far trace i) ≡ length trace
  within = retold_length (pst_so_far trace i) trace (length trace)

  mended_before : (j : ℕ) → j < i → pst_so_far trace i j ≡ kept_at trace j
  mended_before j k = rw (lt-ltb j i k)

  -- what the cycles up to cycle i find there is what the rules find
  found_so_far : (j : ℕ) → j ≤ i → carried_into (so_far trace i) j ≡ found trace j
  found_so_far j k = carried_found (pst_so_far trace i) trace (length trace) j (omega arith) (λ m l. mended_before m (omega arith))

  passes_so_far : (j : ℕ) → j < i → Passes (so_far trace i) j
  passes_so_far j k =
      let there : pst (so_far trace i) j ≡ kept_at trace j = retold_pst (pst_so_far trace i) trace (length trace) j (omega arith) ∙ mended_before j k in
      record {
        unreserved = rw there (kept_unreserved (found trace j).due (pst trace j));
        in_time = rw (there, found_so_far j (omega arith)) (kept_in_time (found trace j).due (pst trace j));
      }

-- a PST that is not kept is reserved, or comes too soon
not_kept : (due p : ℕ) → reserved p ≡ false → (kept due p ≡ p → ⊥) → too_soon due p ≡ true
unfolding kept
not_kept due p e differs = by_test (too_soon due p) (λ t. t) (λ t. absurd (differs (rw (e, t))))

module _ (trace : List ℕ) (short : length trace ≤ 65536) (i : ℕ) (h : i < length trace) where
  as_recorded : pst (so_far trace i) i ≡ pst trace i
  as_recorded = retold_pst (pst_so_far trace i) trace (length trace) i h ∙ rw (le-ltb i i (omega arith))

  -- by the first two rules
  wiped_needed : (kept_at trace i ≡ pst trace i → ⊥) → Needed trace i
  wiped_needed differs = by_test (reserved (pst trace i)) bad soon
    where
      fits : length (so_far trace i) ≤ 65536
      fits = omega (arith, within trace i (omega arith))

      there : i < length (so_far trace i)
      there = omega (arith, within trace i (omega arith))

      before : (j : ℕ) → j < i → Passes (so_far trace i) j
      before = passes_so_far trace i (omega arith)

      bad : reserved (pst trace i) ≡ true → Needed trace i
      bad e = reserved_there (refused_reserved (so_far trace i) fits i there before (rw as_recorded e))

      soon : reserved (pst trace i) ≡ false → Needed trace i
      soon e =
          too_soon_there (
          refused_too_soon (so_far trace i) fits i there before (rw as_recorded e)
          (rw (as_recorded, found_so_far trace i (omega arith) i (omega arith)) (not_kept (found trace i).due (pst trace i) e differs))
          )

  -- by the third
  cut_needed : i ≡ cut_short trace → Needed trace i
  cut_needed e = cut_there (refused_cut whole fits each due) (e ∙ cut_latest trace cut)
    where
      whole : List ℕ
      whole = so_far trace (length trace)

      same : length whole ≡ length trace
      same = within trace (length trace) (omega arith)

      fits : length whole ≤ 65536
      fits = omega (arith, same)

      cut : (found trace (length trace)).due ≡ 0 → ⊥
      cut none = omega (arith, cut_none trace none)

      each : (j : ℕ) → j < length whole → Passes whole j
      each j k = passes_so_far trace (length trace) (omega arith) j (rw same at k)

      due : (carried_into whole (length whole)).due ≡ 0 → ⊥
      due none = cut (rw (same, found_so_far trace (length trace) (omega arith) (length trace) (omega arith)) at none)

  -- THE LAW: no cycle is changed that the three rules do not name
  pub each_change_needed : (mended_pst trace i ≡ pst trace i → ⊥) → Needed trace i
  each_change_needed differs =
      by_test (eqb i (cut_short trace))
      (λ e. cut_needed (eqb-true i (cut_short trace) e))
      (λ e. wiped_needed (λ same. differs (elsewhere trace i (eqb-false i (cut_short trace) e) ∙ same)))
