-- The list (02, [5]): in cycle order, each cycle once; what is listed was changed, and what was changed is listed.
use Rattle.std.specs.Prelude.{◌≡◌, refl, ℕ, zero, suc, ◌+◌, ◌*◌, ◌/◌, ◌%◌, ◌≤◌, ◌<◌, Bool, true, false, cond, ◌⊎◌, eqb, ltb, length, get_or}
use Rattle.std.proofs.Common.{ap, sym, ◌∙◌, inl, inr, arith, eqb-true, ltb-true, ne_eqb}
use Rattle.std.proofs.lemmas.Bool.{false≢true, eqb-false}
use mathlib.Core.List.Memᴰ
use mathlib.Core.List.{List, [], ◌∷◌, ◌++◌, append-nil, Memᴰ}
use Rattle.laws.specs.TestLaws.{by_test}
use Rattle.cycle.specs.Cycle.{pst, ddata, marker, reserved, too_soon}
use Rattle.trace.proofs.TraceReadableLaws.{Readable}
use Rattle.mending.specs.Mending.{kept, found, cut_short, mended_pst, mended, change_word, changes_before, changes}
use Rattle.mending.specs.MendingLaws.{KeptOrWiped, same, wiped, kept_or_wiped, mended_or_wiped, elsewhere, cut_none, cut_announced}
use Rattle.mend_laws.specs.RetoldLaws.{retold_byte, retold_pst, retold_ddata, retold_same}
use Rattle.mend_laws.specs.MendedReadableLaws.{mended_passes}

-- only PSTs that are reserved or markers are wiped
reserved_small : (p : ℕ) → reserved p ≡ true → p < 16
reserved_small p e = by_test (eqb p 2) (λ t. omega (arith, eqb-true p 2 t)) (λ t. omega (arith, eqb-true p 6 (rw t at e)))

marker_small : (p : ℕ) → marker p ≡ true → p < 16
marker_small p e = by_test (ltb p 8) (λ t. omega (arith, ltb-true p 8 t)) (λ t. omega (arith, ltb-true p 12 (rw t at e)))

wiped_small : (due p : ℕ) → (kept due p ≡ p → ⊥) → p < 16
unfolding kept
wiped_small due p differs =
    by_test (reserved p) (reserved_small p) (λ r. by_test (too_soon due p) (λ s. soon (ltb due 2) s) (λ s. absurd (differs (rw (r, s)))))
  where
    soon : (t : Bool) → cond t false (marker p) ≡ true → p < 16
    soon true e = let z : ◌≡◌ {A = ℕ} 0 1 = cc in absurd (omega arith)
    soon false e = marker_small p e

kept_marker_small : {p k : ℕ} → KeptOrWiped p k → marker k ≡ true → p < 16
kept_marker_small {p} same e = marker_small p e
kept_marker_small wiped e = absurd (false≢true e)

differs_wiped : {p k : ℕ} → KeptOrWiped p k → (k ≡ p → ⊥) → k ≡ 0
differs_wiped same differs = absurd (differs refl)
differs_wiped wiped differs = refl

module _ (trace : List ℕ) (i : ℕ) (h : i < length trace) (differs : mended_pst trace i ≡ pst trace i → ⊥) where
  pub changed_small : pst trace i < 16
  changed_small = by_test (eqb i (cut_short trace)) (λ e. cut (eqb-true i (cut_short trace) e)) (λ e. other (eqb-false i (cut_short trace) e))
    where
      cut : i ≡ cut_short trace → pst trace i < 16
      cut e =
          let a = cut_announced trace (λ none. omega (arith, cut_none trace none)) in
          kept_marker_small (kept_or_wiped (found trace i).due (pst trace i)) (rw e a.stands)

      other : (i ≡ cut_short trace → ⊥) → pst trace i < 16
      other e = wiped_small (found trace i).due (pst trace i) (λ same. differs (elsewhere trace i e ∙ same))

  -- what was changed is 0
  pub changed_wiped : mended_pst trace i ≡ 0
  changed_wiped = differs_wiped (mended_or_wiped trace i) differs

-- of a list of words: the cycles rise from one on, and are all below another
abbrev pub Rising : ℕ → ℕ → List ℕ → Type 0
Rising from to [] = from ≤ to
Rising from to (word ∷ words) = (from ≤ word / 16) × Rising (word / 16 + 1) to words

rising_later : (from to later : ℕ) (words : List ℕ) → to ≤ later → Rising from to words → Rising from later words
rising_later from to later [] h r = omega (arith, r)
rising_later from to later (word ∷ words) h r = (r.0, rising_later (word / 16 + 1) to later words h r.1)

rising_more : (from i : ℕ) (words : List ℕ) (word : ℕ) → word / 16 ≡ i → Rising from i words → Rising from (suc i) (words ++ word ∷ [])
rising_more from i [] word e r = (omega (arith, r), omega (arith, e))
rising_more from i (first ∷ words) word e r = (r.0, rising_more (first / 16 + 1) i words word e r.1)

-- a cycle's word, taken apart
module _ (i p : ℕ) (h : p < 16) where
  pub word_cycle : (i * 16 + p) / 16 ≡ i
  word_cycle = omega arith

  pub word_pst : (i * 16 + p) % 16 ≡ p
  word_pst = omega arith

-- THE LAW: "in cycle order"; so each cycle is listed once, and is one of the trace's
pub listed_in_order : (trace : List ℕ) (i : ℕ) → i ≤ length trace → Rising 0 i (changes_before trace i)
unfolding changes_before
listed_in_order trace zero h = omega arith
listed_in_order trace (suc i) h = by_change (eqb (mended_pst trace i) (pst trace i)) refl (listed_in_order trace i (omega arith))
  where
    by_change : (t : Bool) → eqb (mended_pst trace i) (pst trace i) ≡ t → Rising 0 i (changes_before trace i)
        → Rising 0 (suc i) (changes_before trace i ++ cond t [] ((i * 16 + pst trace i) ∷ []))
    by_change true e r = rw (append-nil (changes_before trace i)) (rising_later 0 i (suc i) (changes_before trace i) (omega arith) r)
    by_change false e r =
        let small = changed_small trace i (omega arith) (eqb-false _ _ e) in
        rising_more 0 i (changes_before trace i) (i * 16 + pst trace i) (word_cycle i (pst trace i) small) r

-- what a word of the list says of the trace: "every changed cycle with its old PST"
pub record ChangedAt (trace : List ℕ) (word : ℕ) : Type 0 where
  pub within : word / 16 < length trace
  pub old : word % 16 ≡ pst trace (word / 16)
  -- it has really changed: it is 0, and was not
  pub left : pst (mended trace) (word / 16) ≡ 0
  pub was : pst trace (word / 16) ≡ 0 → ⊥

changed_at : (trace : List ℕ) (i : ℕ) → i < length trace → (mended_pst trace i ≡ pst trace i → ⊥) → ChangedAt trace (i * 16 + pst trace i)
changed_at trace i h differs =
    let small = changed_small trace i h differs in
    let left = changed_wiped trace i h differs in
    record {
      within = rw (word_cycle i (pst trace i) small) h;
      old = rw (word_cycle i (pst trace i) small) (word_pst i (pst trace i) small);
      left = rw (word_cycle i (pst trace i) small) (retold_pst (mended_pst trace) trace (length trace) i h ∙ left);
      was = λ none. differs (left ∙ sym (rw (word_cycle i (pst trace i) small) at none));
    }

-- THE LAW: what is listed was changed
pub listed_changed : (trace : List ℕ) (i word : ℕ) → i ≤ length trace → Memᴰ word (changes_before trace i) → ChangedAt trace word
unfolding changes_before
listed_changed trace zero word h m = absurd (Memᴰ.not-nil m)
listed_changed trace (suc i) word h m =
    by_cases (Memᴰ.append_cases (changes_before trace i) m) (λ earlier. listed_changed trace i word (omega arith) earlier)
  where
    here : (t : Bool) → eqb (mended_pst trace i) (pst trace i) ≡ t → Memᴰ word (cond t [] ((i * 16 + pst trace i) ∷ [])) → ChangedAt trace word
    here true e k = absurd (Memᴰ.not-nil k)
    here false e k = rw (Memᴰ.eq_of_singleton k) (changed_at trace i (omega arith) (eqb-false _ _ e))

    by_cases : Memᴰ word (changes_before trace i) ⊎ Memᴰ word (change_word i (pst trace i) (mended_pst trace i))
        → (Memᴰ word (changes_before trace i) → ChangedAt trace word) → ChangedAt trace word
    by_cases (inl m) before = before m
    by_cases (inr m) before = here (eqb (mended_pst trace i) (pst trace i)) refl m

-- THE LAW: what was changed is listed
pub changed_listed : (trace : List ℕ) (n i : ℕ) → i < n → (mended_pst trace i ≡ pst trace i → ⊥) → Memᴰ (i * 16 + pst trace i) (changes_before trace n)
unfolding changes_before
changed_listed trace zero i h differs = absurd (omega arith)
changed_listed trace (suc n) i h differs = by_place (eqb i n) refl (λ l. changed_listed trace n i l differs)
  where
    here : i ≡ n → Memᴰ (i * 16 + pst trace i) (change_word n (pst trace n) (mended_pst trace n))
    here e = rw (ne_eqb (mended_pst trace n) (pst trace n) (λ f. differs (rw e f))) (Memᴰ.head (ap (λ (k : ℕ). k * 16 + pst trace k) e))

    by_place : (t : Bool) → eqb i n ≡ t → (i < n → Memᴰ (i * 16 + pst trace i) (changes_before trace n))
        → Memᴰ (i * 16 + pst trace i) (changes_before trace n ++ change_word n (pst trace n) (mended_pst trace n))
    by_place true e before = Memᴰ.append_right (changes_before trace n) (here (eqb-true i n e))
    by_place false e before = Memᴰ.append_left (change_word n (pst trace n) (mended_pst trace n)) (before (omega (arith, eqb-false i n e)))

module _ (trace : List ℕ) (i : ℕ) (h : i < length trace) where
  unlisted_kept : (Memᴰ (i * 16 + pst trace i) (changes trace) → ⊥) → mended_pst trace i ≡ pst trace i
  unlisted_kept unlisted =
      by_test (eqb (mended_pst trace i) (pst trace i))
      (λ e. eqb-true _ _ e)
      (λ e. absurd (unlisted (changed_listed trace (length trace) i h (eqb-false _ _ e))))

  -- THE LAW: "every other byte is the same"
  pub unlisted_same : (Memᴰ (i * 16 + pst trace i) (changes trace) → ⊥) → get_or (mended trace) i 0 ≡ get_or trace i 0
  unlisted_same unlisted = omega (arith, retold_byte (mended_pst trace) trace (length trace) i h, unlisted_kept unlisted)

  -- THE LAW: "All DDATA nibbles stay."
  pub nibbles_stay : ddata (mended trace) i ≡ ddata trace i
  nibbles_stay = retold_ddata (mended_pst trace) trace (length trace) i h

-- where nothing is listed, the trace was readable
pub nothing_listed : (trace : List ℕ) → changes trace ≡ [] → Readable trace
nothing_listed trace e =
    rw (retold_same (mended_pst trace) trace (λ i h. unlisted_kept trace i h (λ m. Memᴰ.not-nil (rw e at m)))) at (mended_passes trace)
