-- Laws of the masked comparison: two numbers agree under a mask exactly where their bits that the mask leaves are the same; and so lane by lane.
use Rattle.std.specs.Prelude.{ℕ, zero, suc, ◌/◌, ◌%◌, ◌^◌, ◌<◌, max, ◌≡◌, true, false, ◌&&◌, eqb}
use Rattle.std.proofs.Common.{sym, ap, ◌∙◌, shr-shr, eqb-true, eq-eqb, ne_eqb, arith}
use Rattle.std.specs.Int.Bits.{bit_or, or_step, or_add_and}
use Rattle.std.proofs.lemmas.Nat.{or_shr, or_mod, and_mask}
use Rattle.std.proofs.lemmas.Bool.{eqb-false}
use Rattle.std.proofs.Math.Nat.{max-zero, max-le, max-eq_right, div-div-eq-div-mul, pow-succ'}
use Rattle.laws.specs.TestLaws.{by_test}
use Rattle.board.specs.RegisterBits.{bit}
use Rattle.comparators.specs.Masks.{agree}

or_low : (a m : ℕ) → bit_or a m % 2 ≡ max (a % 2) (m % 2)
or_low a m = rw (or_step a m) (omega (arith, max-le {a = a % 2} {b = m % 2} {k = 1} (omega arith) (omega arith)))

-- a digit that is not one is zero
pub no_one : (n : ℕ) → eqb (n % 2) 1 ≡ false → n % 2 ≡ 0
no_one n e = omega (arith, eqb-false (n % 2) 1 e)

pub or_digit : (k a m : ℕ) → bit_or a m / 2 ^ k % 2 ≡ max (a / 2 ^ k % 2) (m / 2 ^ k % 2)
or_digit k a m = ap (λ (x : ℕ). x % 2) (or_shr a m k) ∙ or_low (a / 2 ^ k) (m / 2 ^ k)

-- a bit that the mask leaves is the number's own
pub left_alone : (k m a : ℕ) → bit k m ≡ false → bit_or a m / 2 ^ k % 2 ≡ a / 2 ^ k % 2
left_alone k m a free = or_digit k a m ∙ ap (λ (x : ℕ). max (a / 2 ^ k % 2) x) (no_one (m / 2 ^ k) free) ∙ max-zero (a / 2 ^ k % 2)

pub agree_then_bits : (m a b : ℕ) → agree m a b ≡ true → (k : ℕ) → bit k m ≡ false → bit k a ≡ bit k b
unfolding agree
agree_then_bits m a b e k free =
    ap (λ (x : ℕ). eqb x 1) (sym (left_alone k m a free) ∙ ap (λ (x : ℕ). x / 2 ^ k % 2) (eqb-true _ _ e) ∙ left_alone k m b free)

-- a number's half has its bits, one place lower
pub bit_of_half : (k n : ℕ) → bit k (n / 2) ≡ bit (suc k) n
bit_of_half k n = ap (λ (x : ℕ). eqb (x % 2) 1) (div-div-eq-div-mul n 2 (2 ^ k) ∙ ap (λ (x : ℕ). n / x) (sym (pow-succ' 2 k)))

same_digit : (a b : ℕ) → eqb (a % 2) 1 ≡ eqb (b % 2) 1 → a % 2 ≡ b % 2
same_digit a b e =
    by_test (eqb (a % 2) 1) (λ p. eqb-true _ _ p ∙ sym (eqb-true _ _ (sym e ∙ p))) (λ p. no_one a p ∙ sym (no_one b (sym e ∙ p)))

-- the lowest digits, with the mask's set
same_low : (m a b : ℕ) → (bit 0 m ≡ false → bit 0 a ≡ bit 0 b) → max (a % 2) (m % 2) ≡ max (b % 2) (m % 2)
same_low m a b same =
    by_test (bit 0 m)
    (λ p.
    let one : m % 2 ≡ 1 = omega (arith, eqb-true (m / 2 ^ 0 % 2) 1 p) in
    max-eq_right {n = a % 2} {m = m % 2} (omega arith) ∙ sym (max-eq_right {n = b % 2} {m = m % 2} (omega arith)))
    (λ p. let low : a % 2 ≡ b % 2 = omega (arith, same_digit (a / 2 ^ 0) (b / 2 ^ 0) (same p)) in ap (λ (x : ℕ). max x (m % 2)) low)

same_or : (n m a b : ℕ) → m < 2 ^ n → a < 2 ^ n → b < 2 ^ n → ((k : ℕ) → k < n → bit k m ≡ false → bit k a ≡ bit k b) → bit_or a m ≡ bit_or b m
same_or zero m a b hm ha hb same = let z : a ≡ b = omega arith in rw z
same_or (suc n) m a b hm ha hb same =
    rw (or_step a m, or_step b m, same_low m a b (same 0 (omega arith)), same_or n (m / 2) (a / 2) (b / 2) (omega arith) (omega arith) (omega arith) higher)
  where
    higher : (k : ℕ) → k < n → bit k (m / 2) ≡ false → bit k (a / 2) ≡ bit k (b / 2)
    higher k below free = bit_of_half k a ∙ same (suc k) (omega arith) (sym (bit_of_half k m) ∙ free) ∙ sym (bit_of_half k b)

-- of numbers of any width n
pub bits_then_agree : (n m a b : ℕ) → m < 2 ^ n → a < 2 ^ n → b < 2 ^ n → ((k : ℕ) → k < n → bit k m ≡ false → bit k a ≡ bit k b) → agree m a b ≡ true
unfolding agree
bits_then_agree n m a b hm ha hb same = eq-eqb _ _ (same_or n m a b hm ha hb same)

-- two numbers are the same exactly where their lowest lane is, and what stands above it
lane_joins : (a b : ℕ) → (eqb (a / 2 ^ 8) (b / 2 ^ 8) && eqb (a % 2 ^ 8) (b % 2 ^ 8)) ≡ eqb a b
lane_joins a b =
    by_test (eqb (a / 2 ^ 8) (b / 2 ^ 8))
    (λ p.
    by_test (eqb (a % 2 ^ 8) (b % 2 ^ 8))
    (λ q. rw (p, q) (sym (eq-eqb a b (omega (arith, eqb-true (a / 2 ^ 8) (b / 2 ^ 8) p, eqb-true (a % 2 ^ 8) (b % 2 ^ 8) q)))))
    (λ q. rw (p, q) (sym (ne_eqb a b (λ e. eqb-false _ _ q (ap (λ (n : ℕ). n % 2 ^ 8) e))))))
    (λ p. rw (p) (sym (ne_eqb a b (λ e. eqb-false _ _ p (ap (λ (n : ℕ). n / 2 ^ 8) e)))))

-- two longwords are the same exactly where all four lanes are: D[31:24], D[23:16], D[15:8] and D[7:0]
pub same_by_lanes : (a b : ℕ)
    → (((eqb (a / 2 ^ 24) (b / 2 ^ 24) && eqb (a / 2 ^ 16 % 2 ^ 8) (b / 2 ^ 16 % 2 ^ 8)) && eqb (a / 2 ^ 8 % 2 ^ 8) (b / 2 ^ 8 % 2 ^ 8))
    && eqb (a % 2 ^ 8) (b % 2 ^ 8)) ≡ eqb a b
same_by_lanes a b =
    rw (← shr-shr a 16 8, ← shr-shr b 16 8, lane_joins (a / 2 ^ 16) (b / 2 ^ 16), ← shr-shr a 8 8, ← shr-shr b 8 8, lane_joins (a / 2 ^ 8) (b / 2 ^ 8))
    (lane_joins a b)

-- the comparison of one lane is the masked comparison again, of its bytes
pub lane_is_masked : (k m a b : ℕ)
    → eqb (bit_or a m / 2 ^ k % 2 ^ 8) (bit_or b m / 2 ^ k % 2 ^ 8) ≡ agree (m / 2 ^ k % 2 ^ 8) (a / 2 ^ k % 2 ^ 8) (b / 2 ^ k % 2 ^ 8)
unfolding agree
lane_is_masked k m a b = rw (or_shr a m k, or_shr b m k, or_mod (a / 2 ^ k) (m / 2 ^ k) 8, or_mod (b / 2 ^ k) (m / 2 ^ k) 8)

-- a lane that is masked whole agrees, whatever stands on it
pub masked_lane_agrees : (k m a b : ℕ) → m / 2 ^ k % 2 ^ 8 ≡ 0xFF → eqb (bit_or a m / 2 ^ k % 2 ^ 8) (bit_or b m / 2 ^ k % 2 ^ 8) ≡ true
unfolding agree
masked_lane_agrees k m a b masked = lane_is_masked k m a b ∙ rw (masked, ones (a / 2 ^ k % 2 ^ 8) (omega arith), ones (b / 2 ^ k % 2 ^ 8) (omega arith))
  where
    ones : (n : ℕ) → n < 2 ^ 8 → bit_or n 0xFF ≡ 0xFF
    ones n small = omega (arith, or_add_and n 0xFF, and_mask n 8)
