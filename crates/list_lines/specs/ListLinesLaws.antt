-- Laws of reading a list: byte by byte of a number, and line by line.
use Rattle.std.specs.Prelude.{◌≡◌, refl, ℕ, zero, suc, ◌+◌, ◌-◌, ◌*◌, ◌≤◌, ◌<◌, Bool, true, false, cond, None, Some, List, [], ◌∷◌, eqb, ltb, length, get_or}
use Rattle.std.specs.Prelude.{Option}
use Rattle.std.specs.Prelude.{take, drop, set}
use Rattle.std.proofs.Common.{ap, sym, ◌∙◌, add-zero, zero-add, add_assoc, add-one, length-take, length-drop, drop_of_length-le, eq-eqb, ne_eqb, ltb-false}
use Rattle.std.proofs.Math.Nat.{sub-zero}
use native.Mathlib.Omega.{arith}
use Rattle.std.proofs.lemmas.List.Edits.{sets}
use Rattle.std.proofs.Math.Seq.{drop-drop}
use Rattle.laws.specs.PlaceLaws.{from_here}
use Rattle.laws.specs.StoreLaws.{one_left}
use Rattle.same.specs.SameList.{same}
use Rattle.same.specs.SameListLaws.{same_equal}
use Rattle.list_lines.specs.ListLines.{digits, number, behind, named, word_with, word_behind, line_word, listed, more, lines_with, lines_in, LinesMeet}

-- the bytes from a place on, by the first of them
module _ (most end value i : ℕ) (bytes : List ℕ) where
  pub digits_here : i < length bytes → digits most end value i (drop i bytes)
      ≡ cond (eqb (get_or bytes i 0) end) (Some (value, i + 1))
      (cond (ltb (get_or bytes i 0) 48) None
      (cond (ltb 57 (get_or bytes i 0)) None
      (cond (ltb most (value * 10 + (get_or bytes i 0 - 48))) None
      (digits most end (value * 10 + (get_or bytes i 0 - 48)) (i + 1) (drop (i + 1) bytes)))))
  unfolding digits
  digits_here h = rw (from_here bytes i h)

  pub digits_none : length bytes ≤ i → digits most end value i (drop i bytes) ≡ None
  unfolding digits
  digits_none h = rw (drop_of_length-le bytes h)

-- a number by its first byte
pub no_digit : (most end : ℕ) (bytes : List ℕ) → length bytes ≡ 0 → number most end bytes ≡ None
unfolding number
no_digit most end [] e = refl
no_digit most end (byte ∷ bytes) e = absurd (omega (arith, e))

pub ended_at_once : (most end : ℕ) (bytes : List ℕ) → (length bytes ≡ 0 → ⊥) → get_or bytes 0 0 ≡ end → number most end bytes ≡ None
unfolding number
ended_at_once most end [] some e = absurd (some refl)
ended_at_once most end (byte ∷ bytes) some e = rw (eq-eqb byte end e)

pub some_digits : (most end : ℕ) (bytes : List ℕ) → (length bytes ≡ 0 → ⊥) → (get_or bytes 0 0 ≡ end → ⊥) → number most end bytes ≡ digits most end 0 0 bytes
unfolding number
some_digits most end [] some e = absurd (some refl)
some_digits most end (byte ∷ bytes) some e = rw (ne_eqb byte end e)

-- a number that is read is at most so much, and took no more bytes than there are
pub record Took (most room value used : ℕ) : Type 0 where
  pub least : value ≤ most
  pub within : used ≤ room

-- the two parts of what was read
abbrev value_read : Option (ℕ × ℕ) → ℕ
value_read (Some (value, used)) = value
value_read None = 0

abbrev used_read : Option (ℕ × ℕ) → ℕ
used_read (Some (value, used)) = used
used_read None = 0

digits_took : (most end value used : ℕ) (bytes : List ℕ) (v u : ℕ) → value ≤ most → digits most end value used bytes ≡ Some (v, u)
    → Took most (used + length bytes) v u
unfolding digits
digits_took most end value used [] v u h e = let z : ◌≡◌ {A = ℕ} 0 1 = cc in absurd (omega arith)
digits_took most end value used (byte ∷ bytes) v u h e =
    by_tests (eqb byte end) (ltb byte 48) (ltb 57 byte) (ltb most next) refl e (λ below. digits_took most end next (used + 1) bytes v u below)
  where
    next : ℕ
    next = value * 10 + (byte - 48)

    by_tests : (s t w x : Bool) → ltb most next ≡ x
        → cond s (Some (value, used + 1)) (cond t None (cond w None (cond x None (digits most end next (used + 1) bytes)))) ≡ Some (v, u)
        → (next ≤ most → digits most end next (used + 1) bytes ≡ Some (v, u) → Took most (used + 1 + length bytes) v u)
        → Took most (used + suc (length bytes)) v u
    by_tests true t w x f g on =
        let same-value : value ≡ v = ap value_read g in let same-used : used + 1 ≡ u = ap used_read g in record { least = omega arith; within = omega arith }
    by_tests false true w x f g on = let z : ◌≡◌ {A = ℕ} 0 1 = cc in absurd (omega arith)
    by_tests false false true x f g on = let z : ◌≡◌ {A = ℕ} 0 1 = cc in absurd (omega arith)
    by_tests false false false true f g on = let z : ◌≡◌ {A = ℕ} 0 1 = cc in absurd (omega arith)
    by_tests false false false false f g on = let took = on (ltb-false most next f) g in record { least = took.least; within = omega (arith, took.within) }

pub number_took : (most end : ℕ) (bytes : List ℕ) (v u : ℕ) → number most end bytes ≡ Some (v, u) → Took most (length bytes) v u
unfolding number
number_took most end [] v u e = let z : ◌≡◌ {A = ℕ} 0 1 = cc in absurd (omega arith)
number_took most end (byte ∷ bytes) v u e = by_test (eqb byte end) e
  where
    by_test : (t : Bool) → cond t None (digits most end 0 0 (byte ∷ bytes)) ≡ Some (v, u) → Took most (suc (length bytes)) v u
    by_test true f = let z : ◌≡◌ {A = ℕ} 0 1 = cc in absurd (omega arith)
    by_test false f =
        let took = digits_took most end 0 0 (byte ∷ bytes) v u (omega arith) f in record { least = took.least; within = omega (arith, took.within) }

-- a line that is read: its two numbers, and no more bytes than there are
pub line_took : (bytes : List ℕ) (w u : ℕ) → line_word bytes ≡ Some (w, u) → u ≤ length bytes
unfolding line_word
line_took bytes w u e = by_first (number 65535 32 bytes) refl e
  where
    by_second : (cycle used : ℕ) → used ≤ length bytes → (f : Option (ℕ × ℕ)) → number 15 10 (drop used bytes) ≡ f → word_with cycle used f ≡ Some (w, u)
        → u ≤ length bytes
    by_second cycle used h (Some (pst, more)) p q =
        let same-used : used + more ≡ u = ap used_read q in
        omega (arith, (number_took 15 10 (drop used bytes) pst more p).within, length-drop used bytes)
    by_second cycle used h None p q = let z : ◌≡◌ {A = ℕ} 0 1 = cc in absurd (omega arith)

    by_first : (f : Option (ℕ × ℕ)) → number 65535 32 bytes ≡ f → word_behind bytes f ≡ Some (w, u) → u ≤ length bytes
    by_first (Some (cycle, used)) p q = by_second cycle used (number_took 65535 32 bytes cycle used p).within (number 15 10 (drop used bytes)) refl q
    by_first None p q = let z : ◌≡◌ {A = ℕ} 0 1 = cc in absurd (omega arith)

-- so many lines, of which some are behind: the next one, the first that is none, and none left
module _ (count k at : ℕ) (bytes : List ℕ) where
  module _ (left : k < count) where
    pub lines_next : (w u : ℕ) → line_word (drop at bytes) ≡ Some (w, u)
        → lines_in (count - k) (drop at bytes) ≡ more w u (lines_in (count - (k + 1)) (drop (at + u) bytes))
    unfolding lines_in
    lines_next w u e = rw (one_left count k left, e, drop-drop u at bytes)

    pub lines_stop : line_word (drop at bytes) ≡ None → lines_in (count - k) (drop at bytes) ≡ listed [] 0 false
    unfolding lines_in
    lines_stop e = rw (one_left count k left, e)

  pub lines_end : count ≤ k → lines_in (count - k) (drop at bytes) ≡ listed [] 0 true
  unfolding lines_in
  lines_end h = let none : count - k ≡ 0 = omega arith in rw none

-- lines read one after the other: what is behind and what is left are all of them
pub record Remaining (bytes : List ℕ) (count : ℕ) (before list : List ℕ) (at k : ℕ) : Type 0 where
  pub used : at + (lines_in (count - k) (drop at bytes)).used ≡ (lines_in count bytes).used
  pub all : (lines_in (count - k) (drop at bytes)).all ≡ (lines_in count bytes).all
  pub words : sets list k (lines_in (count - k) (drop at bytes)).words ≡ sets before 0 (lines_in count bytes).words

pub all_remain : (bytes : List ℕ) (count : ℕ) (before : List ℕ) → Remaining bytes count before before 0 0
all_remain bytes count before = record { used = rw (sub-zero count) (zero-add _); all = rw (sub-zero count); words = rw (sub-zero count) }

module _ {bytes before list : List ℕ} {count at k : ℕ} (r : Remaining bytes count before list at k) where
  pub next_remain : k < count → (w u : ℕ) → line_word (drop at bytes) ≡ Some (w, u) → Remaining bytes count before (set list k w) (at + u) (k + 1)
  next_remain left w u e =
      let next = lines_next count k at bytes left w u e in
      record {
        used = rw (add_assoc at u (lines_in (count - (k + 1)) (drop (at + u) bytes)).used) (rw next at r.used);
        all = rw next at r.all;
        words = rw (add-one k) (rw (next, add-one k) at r.words);
      }

  pub stops : k < count → line_word (drop at bytes) ≡ None → LinesMeet bytes count before (record { used = at; all = false }) list
  stops left e =
      let stop = lines_stop count k at bytes left e in
      record { used = sym (add-zero at) ∙ rw stop at r.used; all = rw stop at r.all; words = rw stop at r.words }

  pub ends : count ≤ k → LinesMeet bytes count before (record { used = at; all = true }) list
  ends h =
      let end = lines_end count k at bytes h in
      record { used = sym (add-zero at) ∙ rw end at r.used; all = rw end at r.all; words = rw end at r.words }

-- neither a name with its number nor so many lines take more bytes than there are
pub named_took : (name : List ℕ) (most end : ℕ) (bytes : List ℕ) (v u : ℕ) → named name most end bytes ≡ Some (v, u) → u ≤ length bytes
unfolding named
named_took name most end bytes v u = by_name (same (take (length name) bytes) name) refl
  where
    by_number : length name ≤ length bytes → (f : Option (ℕ × ℕ)) → number most end (drop (length name) bytes) ≡ f → behind (length name) f ≡ Some (v, u)
        → u ≤ length bytes
    by_number h (Some (value, more)) p q =
        let same-used : length name + more ≡ u = ap used_read q in
        omega (arith, (number_took most end (drop (length name) bytes) value more p).within, length-drop (length name) bytes)
    by_number h None p q = let z : ◌≡◌ {A = ℕ} 0 1 = cc in absurd (omega arith)

    by_name : (t : Bool) → same (take (length name) bytes) name ≡ t
        → cond t (behind (length name) (number most end (drop (length name) bytes))) None ≡ Some (v, u) → u ≤ length bytes
    by_name true s q =
        let whole : length (take (length name) bytes) ≡ length name = ap length (same_equal (take (length name) bytes) name s) in
        by_number (omega (arith, length-take (length name) bytes)) (number most end (drop (length name) bytes)) refl q
    by_name false s q = let z : ◌≡◌ {A = ℕ} 0 1 = cc in absurd (omega arith)

pub lines_used : (k : ℕ) (bytes : List ℕ) → (lines_in k bytes).used ≤ length bytes
unfolding lines_in
lines_used zero bytes = omega arith
lines_used (suc k) bytes = by_line (line_word bytes) refl (λ used. lines_used k (drop used bytes))
  where
    by_line : (f : Option (ℕ × ℕ)) → line_word bytes ≡ f → ((used : ℕ) → (lines_in k (drop used bytes)).used ≤ length (drop used bytes))
        → (lines_with (lines_in k) bytes f).used ≤ length bytes
    by_line (Some (word, used)) e rest = omega (arith, line_took bytes word used e, rest used, length-drop used bytes)
    by_line None e rest = omega arith
