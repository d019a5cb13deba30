-- Laws of a trace that can be read: exactly one in which every cycle passes and which ends inside no transfer; else it is refused at the first that does not.
use Rattle.std.proofs.Math.Path.{◌≡◌, refl}
use Rattle.std.proofs.Common.{sym, ◌∙◌, zero-add, eq-eqb, ne_eqb, eqb-true, le-ltb}
use Prim.Native.Nat.{ℕ, zero, suc, ◌+◌, ◌-◌, ◌≤◌, ◌<◌}
use Rattle.std.specs.Prelude.{Bool, List, eqb}
use Rattle.std.proofs.Math.Bool.{true, false, cond}
use Rattle.std.proofs.Math.Numerals.{add-one}
use native.Mathlib.Omega.{arith}
use Rattle.std.proofs.Math.ListN.{length}
use Rattle.std.proofs.lemmas.Bool.{eqb-false}
use Rattle.cycle.specs.Cycle.{pst, reserved, too_soon, nothing, after, carried_into}
use Rattle.cycle.specs.declared.Carried.{Carried}
use Rattle.trace.specs.Items.{items}
use Rattle.trace.specs.TraceReading.{Told, refusal, counted, too_long, earliest, ends_inside, judged_from, reading}
use Rattle.trace.proofs.TraceReadingLaws.{whole_short}

-- neither 8 nor 9 at cycle i
pub record Passes (trace : List ℕ) (i : ℕ) : Type 0 where
  pub unreserved : reserved (pst trace i) ≡ false
  pub in_time : too_soon (carried_into trace i).due (pst trace i) ≡ false

-- every cycle passes, and no nibble is due behind the last
pub record Readable (trace : List ℕ) : Type 0 where
  pub passes : (i : ℕ) → i < length trace → Passes trace i
  pub whole : (carried_into trace (length trace)).due ≡ 0

-- what is judged once the length is
module _ (trace : List ℕ) (short : length trace ≤ 65536) where
  pub judged_short : (t : Told) → judged_from trace 0 nothing t ≡ earliest trace 0 nothing (length trace - 0) (ends_inside t)
  unfolding judged_from too_long
  judged_short t = rw (le-ltb 65536 (length trace) short)

module _ (trace : List ℕ) (otherwise : Carried → Told) where
  -- a cycle that passes leaves the judgement to those behind it
  one_passes : (i k : ℕ) → Passes trace i
      → earliest trace i (carried_into trace i) (suc k) otherwise ≡ earliest trace (suc i) (carried_into trace (suc i)) k otherwise
  unfolding earliest carried_into
  one_passes i k p = rw (p.unreserved, p.in_time, add-one i)

  -- and so do the first i cycles
  pub all_pass : (i k : ℕ) → ((j : ℕ) → j < i → Passes trace j)
      → earliest trace 0 nothing (i + k) otherwise ≡ earliest trace i (carried_into trace i) k otherwise
  unfolding carried_into
  all_pass zero k passes = rw (zero-add k)
  all_pass (suc i) k passes =
      let e : suc i + k ≡ i + suc k = omega arith in
      rw e (all_pass i (suc k) (λ j h. passes j (omega arith)) ∙ one_passes i k (passes i (omega arith)))

  -- what passes is not refused
  passed : (i k n : ℕ) → earliest trace i (carried_into trace i) (suc k) otherwise ≡ counted n → Passes trace i
  unfolding earliest
  passed i k n = by_tests (reserved (pst trace i)) (too_soon (carried_into trace i).due (pst trace i)) refl refl
    where
      by_tests : (r s : Bool) → reserved (pst trace i) ≡ r → too_soon (carried_into trace i).due (pst trace i) ≡ s
          → cond r (refusal 8 i) (cond s (refusal 9 i) (earliest trace (i + 1) (after (carried_into trace i) (pst trace i)) k otherwise)) ≡ counted n
          → Passes trace i
      by_tests true s e f h = let z : ◌≡◌ {A = ℕ} 0 1 = cc in absurd (omega arith)
      by_tests false true e f h = let z : ◌≡◌ {A = ℕ} 0 1 = cc in absurd (omega arith)
      by_tests false false e f h = record { unreserved = e; in_time = f }

  all_passed : (i k n : ℕ) → earliest trace 0 nothing (i + k) otherwise ≡ counted n → (j : ℕ) → j < i → Passes trace j
  all_passed zero k n e j h = absurd (omega arith)
  all_passed (suc i) k n e j h =
      let f : suc i + k ≡ i + suc k = omega arith in
      let earlier = all_passed i (suc k) n (rw f at e) in
      let here = passed i k n (sym (all_pass i (suc k) earlier) ∙ rw f at e) in
      by_place (eqb j i) refl earlier here
    where
      by_place : (t : Bool) → eqb j i ≡ t → ((m : ℕ) → m < i → Passes trace m) → Passes trace i → Passes trace j
      by_place true same earlier here = rw (eqb-true j i same) here
      by_place false other earlier here = earlier j (omega (arith, eqb-false j i other))

module _ (trace : List ℕ) (short : length trace ≤ 65536) where
  -- where every cycle passes, what is under way behind the last decides
  at_end : ((i : ℕ) → i < length trace → Passes trace i) → (t : Told) → judged_from trace 0 nothing t ≡ ends_inside t (carried_into trace (length trace))
  unfolding earliest
  at_end passes t = let e : length trace - 0 ≡ length trace + 0 = omega arith in
      judged_short trace short t ∙ rw e (all_pass trace (ends_inside t) (length trace) 0 passes)

  -- THE LAW, one way: a trace is read where every cycle passes and none is cut
  pub readable_read : Readable trace → reading trace ≡ counted (length (items trace))
  unfolding reading ends_inside
  readable_read r = at_end r.passes _ ∙ rw (eq-eqb _ 0 r.whole)

  -- else it is refused at the first cycle that does not pass, or on 10 where all do
  module _ (i : ℕ) (h : i < length trace) (passes : (j : ℕ) → j < i → Passes trace j) where
    at_first : (t : Told) → judged_from trace 0 nothing t ≡ earliest trace i (carried_into trace i) (suc (length trace - (i + 1))) (ends_inside t)
    at_first t =
        let e : length trace - 0 ≡ i + suc (length trace - (i + 1)) = omega arith in
        judged_short trace short t ∙ rw e (all_pass trace (ends_inside t) i (suc (length trace - (i + 1))) passes)

    pub refused_reserved : reserved (pst trace i) ≡ true → reading trace ≡ refusal 8 i
    unfolding reading earliest
    refused_reserved r = at_first _ ∙ rw r

    pub refused_too_soon : reserved (pst trace i) ≡ false → too_soon (carried_into trace i).due (pst trace i) ≡ true → reading trace ≡ refusal 9 i
    unfolding reading earliest
    refused_too_soon r s = at_first _ ∙ rw (r, s)

  pub refused_cut : ((i : ℕ) → i < length trace → Passes trace i) → ((carried_into trace (length trace)).due ≡ 0 → ⊥) → reading trace ≡ refusal 10 0
  unfolding reading ends_inside
  refused_cut passes due = at_end passes _ ∙ rw (ne_eqb _ 0 due)

  -- what is not refused on 10 is whole
  not_cut : (due m n : ℕ) → cond (eqb due 0) (counted m) (refusal 10 0) ≡ counted n → due ≡ 0
  not_cut due m n = by_test (eqb due 0) refl
    where
      by_test : (t : Bool) → eqb due 0 ≡ t → cond t (counted m) (refusal 10 0) ≡ counted n → due ≡ 0
      by_test true e f = eqb-true due 0 e
      by_test false e f = let z : ◌≡◌ {A = ℕ} 0 1 = cc in absurd (omega arith)

  -- the other way
  pub read_passes : (n : ℕ) → reading trace ≡ counted n → Readable trace
  unfolding reading ends_inside
  read_passes n e =
      let f : length trace - 0 ≡ length trace + 0 = omega arith in
      let all = counted (length (items trace)) in
      let each = all_passed trace (ends_inside all) (length trace) 0 n (rw f at (sym (judged_short trace short all)) ∙ e) in
      record { passes = each; whole = not_cut (carried_into trace (length trace)).due (length (items trace)) n (sym (at_end each all) ∙ e) }

pub read_readable : (trace : List ℕ) (n : ℕ) → reading trace ≡ counted n → Readable trace
read_readable trace n e = read_passes trace (whole_short trace n e) n e
