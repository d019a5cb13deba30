-- Laws of numbers as text: digit by digit, and how many digits there are.
use Rattle.std.specs.Prelude.{ℕ, zero, suc, ◌+◌, ◌-◌, ◌*◌, ◌/◌, ◌%◌, ◌^◌, ◌≤◌, ◌<◌, ◌≡◌, refl, Bool, true, false, cond, [], ◌∷◌, ◌++◌, ltb, length}
use Rattle.std.proofs.Common.{ap, arith, div-one, pow-suc, one-mul, div-lt_iff_lt-mul, add-one, lt-ltb, le-ltb, ltb-true, ltb-false}
use Rattle.std.proofs.Math.Nat.{div-div-eq-div-mul, pow-zero, pow-succ', one-le-pow, div-eq_of_lt}
use Rattle.text.specs.NumberText.{digit_text, digits_text, width_from, width, number_text, decimal_text}

-- one digit less, and then the others
pub shift_step : (base v left : ℕ) → 0 < left → v / base / base ^ (left - 1) ≡ v / base ^ left
shift_step base v zero h = absurd (omega arith)
shift_step base v (suc k) h = let e : suc k - 1 ≡ k = omega arith in rw (e, pow-succ', div-div-eq-div-mul)

pub shift_done : (base v left : ℕ) → left ≤ 0 → v / base ^ left ≡ v
shift_done base v zero h = rw (pow-zero, div-one)
shift_done base v (suc k) h = absurd (omega arith)

-- the highest digit, and then the others
pub digits_on : (base k n : ℕ) → 0 < k → digits_text base k n ≡ (digit_text (n / base ^ (k - 1) % base) ∷ []) ++ digits_text base (k - 1) n
unfolding digits_text
digits_on base zero n h = absurd (omega arith)
digits_on base (suc k) n h = let e : suc k - 1 ≡ k = omega arith in rw e

pub digits_none : (base k n : ℕ) → k ≤ 0 → digits_text base k n ≡ []
unfolding digits_text
digits_none base zero n h = refl
digits_none base (suc k) n h = absurd (omega arith)

-- so many digits are so many bytes
pub digits_length : (base k n : ℕ) → length (digits_text base k n) ≡ k
unfolding digits_text
digits_length base zero n = refl
digits_length base (suc k) n = ap suc (digits_length base k n)

-- what is left of a number above its lowest k digits
pub left_none : (base n k : ℕ) → 0 < base → n / base ^ k ≡ 0 → n < base ^ k
left_none base n k pos h = let above : n < 1 * base ^ k = (div-lt_iff_lt-mul (one-le-pow k base pos)).0 (omega arith) in omega arith

pub left_some : (base n k : ℕ) → (n / base ^ k ≡ 0 → ⊥) → base ^ k ≤ n
left_some base n k h = by_test (ltb n (base ^ k)) refl
  where
    by_test : (t : Bool) → ltb n (base ^ k) ≡ t → base ^ k ≤ n
    by_test true e = absurd (h (div-eq_of_lt (ltb-true n (base ^ k) e)))
    by_test false e = ltb-false n (base ^ k) e

pub left_first : (base n : ℕ) → n / base ≡ n / base ^ 1
left_first base n = rw (pow-suc, pow-zero, one-mul)

pub left_next : (base n k : ℕ) → n / base ^ k / base ≡ n / base ^ (k + 1)
left_next base n k = rw (add-one, pow-suc, div-div-eq-div-mul)

pub width_here : (base n more k : ℕ) → n < base ^ k → width_from base n more k ≡ k
unfolding width_from
width_here base n zero k h = refl
width_here base n (suc more) k h = rw (lt-ltb n (base ^ k) h)

pub width_next : (base n most k : ℕ) → k < most → base ^ k ≤ n → width_from base n (most - k) k ≡ width_from base n (most - (k + 1)) (k + 1)
unfolding width_from
width_next base n most k below h = by_more (most - k) refl
  where
    by_more : (more : ℕ) → most - k ≡ more → width_from base n more k ≡ width_from base n (most - (k + 1)) (k + 1)
    by_more zero e = absurd (omega arith)
    by_more (suc more) e = let f : most - (k + 1) ≡ more = omega arith in rw (le-ltb n (base ^ k) h, f, add-one)

-- so many digits hold the number, where so many at most do
pub width_holds : (base n more k : ℕ) → n < base ^ (k + more) → n < base ^ width_from base n more k
unfolding width_from
width_holds base n zero k h = let e : k + 0 ≡ k = omega arith in rw e at h
width_holds base n (suc more) k h = by_test (ltb n (base ^ k)) refl (λ further. width_holds base n more (suc k) further)
  where
    by_test : (t : Bool) → ltb n (base ^ k) ≡ t → (n < base ^ (suc k + more) → n < base ^ width_from base n more (suc k))
        → n < base ^ cond t k (width_from base n more (suc k))
    by_test true e next = ltb-true n (base ^ k) e
    by_test false e next = let f : k + suc more ≡ suc k + more = omega arith in next (rw f at h)

-- no number has more digits than so many at most
pub width_most : (base n more k : ℕ) → width_from base n more k ≤ k + more
unfolding width_from
width_most base n zero k = omega arith
width_most base n (suc more) k = by_test (ltb n (base ^ k)) (width_most base n more (suc k))
  where
    by_test : (t : Bool) → width_from base n more (suc k) ≤ suc k + more → cond t k (width_from base n more (suc k)) ≤ k + suc more
    by_test true next = omega arith
    by_test false next = omega arith

-- a number without leading zeros has 20 bytes at most
pub number_length : (n : ℕ) → length (number_text n) ≤ 20
number_length n = omega (arith, digits_length 16 (width 16 n) n, width_most 16 n 19 1)

pub decimal_length : (n : ℕ) → length (decimal_text n) ≤ 20
decimal_length n = omega (arith, digits_length 10 (width 10 n) n, width_most 10 n 19 1)
