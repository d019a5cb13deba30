-- "putting the listed PSTs back gives the trace as it was recorded" (02, [5]); a list that is taken is the trace's own, and says what was recorded.
use Rattle.std.specs.Prelude.{◌≡◌, refl, ℕ, zero, suc, ◌+◌, ◌*◌, ◌≤◌, ◌<◌, Bool, true, false, cond, List, [], ◌∷◌, eqb, ltb, leb, length}
use Rattle.std.proofs.Common.{ap, sym, ◌∙◌, arith, eqb-true, lt-ltb, le-ltb, leb-true, le-leb}
use Rattle.std.proofs.lemmas.Bool.{eqb-false}
use Rattle.laws.specs.TestLaws.{by_test, both_hold, and_holds, below_next}
use Rattle.same.specs.SameList.{same}
use Rattle.same.specs.SameListLaws.{same_equal, equal_same}
use Rattle.cycle.specs.Cycle.{pst}
use Rattle.mending.specs.Mending.{mended_pst, retold, mended, change_word, changes_before, changes}
use Rattle.mending.specs.MendingStoreLaws.{retold_length}
use Rattle.unmending.specs.Unmending.{put_word, put_back, is_its_list, UnmendingMeets}
use Rattle.unmending.specs.UnmendingLaws.{put_append}
use Rattle.mend_laws.specs.RetoldLaws.{retold_same, retold_agree, retold_set}
use Rattle.mend_laws.specs.ChangeListLaws.{changed_small, word_cycle, word_pst}

-- the PSTs once those of the cycles before cycle i are back
abbrev pst_back : List ℕ → ℕ → ℕ → ℕ
pst_back trace i j = cond (ltb j i) (pst trace j) (mended_pst trace j)

-- one cycle more: the others are as they were, and where the PST had not changed, so is this one
others_stay : (trace : List ℕ) (i j : ℕ) → (j ≡ i → ⊥) → pst_back trace i j ≡ pst_back trace (suc i) j
others_stay trace i j other = rw (below_next j i other)

this_back : (trace : List ℕ) (i : ℕ) → pst_back trace (suc i) i ≡ pst trace i
this_back trace i = rw (lt-ltb i (suc i) (omega arith))

unchanged_stay : (trace : List ℕ) (i : ℕ) → mended_pst trace i ≡ pst trace i → (j : ℕ) → pst_back trace i j ≡ pst_back trace (suc i) j
unchanged_stay trace i e j =
    by_test (eqb j i)
    (λ here. rw (eqb-true j i here) (rw (le-ltb i i (omega arith)) (e ∙ sym (this_back trace i))))
    (λ there. others_stay trace i j (eqb-false j i there))

-- the word of a changed cycle puts its PST back
changed_back : (trace : List ℕ) (i : ℕ) → i < length trace → (mended_pst trace i ≡ pst trace i → ⊥)
    → put_word (retold (pst_back trace i) trace (length trace)) (i * 16 + pst trace i) ≡ retold (pst_back trace (suc i)) trace (length trace)
changed_back trace i h differs =
    let small = changed_small trace i h differs in
    rw (word_cycle i (pst trace i) small, word_pst i (pst trace i) small, sym (this_back trace i))
    (retold_set (pst_back trace i) (pst_back trace (suc i)) trace (length trace) i h (λ j k other. others_stay trace i j other))

-- the words of the cycles before cycle i put their PSTs back
back_before : (trace : List ℕ) (i : ℕ) → i ≤ length trace → put_back (mended trace) (changes_before trace i) ≡ retold (pst_back trace i) trace (length trace)
unfolding changes_before put_back
back_before trace zero h = retold_agree (mended_pst trace) (pst_back trace 0) trace (length trace) (λ j k. rw (le-ltb j 0 (omega arith)))
back_before trace (suc i) h =
    put_append (mended trace) (changes_before trace i) (change_word i (pst trace i) (mended_pst trace i))
    ∙ ap (λ (t : List ℕ). put_back t (change_word i (pst trace i) (mended_pst trace i))) (back_before trace i (omega arith))
    ∙ by_change (eqb (mended_pst trace i) (pst trace i)) refl
  where
    by_change : (t : Bool) → eqb (mended_pst trace i) (pst trace i) ≡ t
        → put_back (retold (pst_back trace i) trace (length trace)) (cond t [] ((i * 16 + pst trace i) ∷ []))
        ≡ retold (pst_back trace (suc i)) trace (length trace)
    by_change true e =
        retold_agree (pst_back trace i) (pst_back trace (suc i)) trace (length trace) (λ j k. unchanged_stay trace i (eqb-true _ _ e) j)
    by_change false e = changed_back trace i (omega arith) (eqb-false _ _ e)

-- THE LAW: "putting the listed PSTs back gives the trace as it was recorded"
pub put_back_recorded : (trace : List ℕ) → put_back (mended trace) (changes trace) ≡ trace
put_back_recorded trace =
    back_before trace (length trace) (omega arith) ∙ retold_same (pst_back trace (length trace)) trace (λ i h. rw (lt-ltb i (length trace) h))

-- so no two traces, mended, give the same trace and the same list
pub recorded_once : (trace other : List ℕ) → mended trace ≡ mended other → changes trace ≡ changes other → trace ≡ other
recorded_once trace other e f = sym (put_back_recorded trace) ∙ rw (e, f) (put_back_recorded other)

-- a list is taken as a trace's exactly if it is: what was recorded is then what is put back
pub its_list_taken : (trace : List ℕ) → length trace ≤ 65536 → is_its_list (mended trace) (changes trace) ≡ true
unfolding is_its_list
its_list_taken trace short =
    rw (le-leb (length (mended trace)) 65536 (rw (retold_length (mended_pst trace) trace (length trace)) short), put_back_recorded trace)
    (and_holds _ _ (equal_same (mended trace)) (equal_same (changes trace)))

pub record ItsList (trace words : List ℕ) : Type 0 where
  pub short : length trace ≤ 65536
  pub cycles : trace ≡ mended (put_back trace words)
  pub list : words ≡ changes (put_back trace words)

pub taken_its_list : (trace words : List ℕ) → is_its_list trace words ≡ true → ItsList trace words
unfolding is_its_list
taken_its_list trace words e =
    let all = both_hold (leb (length trace) 65536) _ e in
    let both = both_hold (same (mended (put_back trace words)) trace) (same (changes (put_back trace words)) words) all.1 in
    record {
      short = leb-true (length trace) 65536 all.0;
      cycles = sym (same_equal (mended (put_back trace words)) trace both.0);
      list = sym (same_equal (changes (put_back trace words)) words both.1);
    }

-- THE LAW, of the function: given what mending gave, it says so, and the trace is as it was recorded
pub unmended : {r : Bool} {after : List ℕ} (trace : List ℕ) → length trace ≤ 65536 → UnmendingMeets (mended trace) (changes trace) r after
    → (r ≡ true) × (after ≡ trace)
unmended trace short m =
    let taken = its_list_taken trace short in (m.answer ∙ taken, m.cycles ∙ rw taken (put_back_recorded trace))
