-- Laws of what a comparator that counts compares: it agrees exactly where the data and DBR have the same bits, on its lanes, where DBMR is 0.
use Rattle.std.specs.Prelude.{ℕ, zero, suc, ◌-◌, ◌/◌, ◌%◌, ◌^◌, ◌<◌, ◌≤◌, max, ◌≡◌, true, false, not, eqb}
use Rattle.std.proofs.Common.{sym, ap, ◌∙◌, eqb-true, eq-eqb, ne_eqb, arith}
use Rattle.std.specs.Int.Bits.{bit_or}
use Rattle.std.proofs.lemmas.Nat.{or_lt}
use Rattle.std.proofs.Math.Nat.{max-eq_left, max-eq_right}
use Rattle.std.proofs.lemmas.Bool.{eqb-false, not-false}
use Rattle.laws.specs.TestLaws.{by_test}
use Rattle.board.specs.declared.Debug.{Debug}
use Rattle.board.specs.RegisterBits.{bit}
use Rattle.comparators.specs.MaskLaws.{no_one, or_digit, left_alone, bit_of_half, agree_then_bits, bits_then_agree}
use Rattle.comparators.specs.Comparators.{data_agrees}

-- a lane is among the others exactly where it is not among these, at any width n
others_bit : (n k lanes : ℕ) → lanes < 2 ^ n → k < n → bit k (2 ^ n - 1 - lanes) ≡ not (bit k lanes)
others_bit zero k lanes small below = absurd (omega arith)
others_bit (suc n) zero lanes small below =
    let digit = (2 ^ suc n - 1 - lanes) / 2 ^ 0 % 2 in
    by_test (bit 0 lanes)
    (λ p. ne_eqb digit 1 (λ (e : digit ≡ 1). omega (arith, eqb-true (lanes / 2 ^ 0 % 2) 1 p, e)) ∙ sym (ap not p))
    (λ p. eq-eqb digit 1 (omega (arith, no_one (lanes / 2 ^ 0) p)) ∙ sym (ap not p))
others_bit (suc n) (suc k) lanes small below =
    sym (bit_of_half k (2 ^ suc n - 1 - lanes)) ∙ ap (bit k) half ∙ others_bit n k (lanes / 2) (omega arith) (omega arith) ∙ ap not (bit_of_half k lanes)
  where
    half : (2 ^ suc n - 1 - lanes) / 2 ≡ 2 ^ n - 1 - lanes / 2
    half = omega arith

pub comparator_then_bits : (lanes : ℕ) (d : Debug) (word : ℕ) → lanes < 2 ^ 32 → data_agrees lanes d word ≡ true
    → (k : ℕ) → k < 32 → bit k lanes ≡ true → bit k d.dbmr ≡ false → bit k word ≡ bit k d.dbr
comparator_then_bits lanes d word small agrees k below on free =
    agree_then_bits (bit_or d.dbmr (0xFFFFFFFF - lanes)) word d.dbr agrees k
    (ap (λ (x : ℕ). eqb x 1) (left_alone k (0xFFFFFFFF - lanes) d.dbmr (others_bit 32 k lanes small below ∙ ap not on)) ∙ free)

-- a bit that neither of two masks sets
neither : (k a m : ℕ) → bit k (bit_or a m) ≡ false → (bit k a ≡ false) × (bit k m ≡ false)
neither k a m off = (
  ne_eqb _ 1 (λ e. eqb-false _ 1 off (or_digit k a m ∙ ap (λ (x : ℕ). max x (m / 2 ^ k % 2)) e ∙ max-eq_left {n = 1} {m = m / 2 ^ k % 2} (digit (m / 2 ^ k)))),
  ne_eqb _ 1 (λ e. eqb-false _ 1 off (or_digit k a m ∙ ap (λ (x : ℕ). max (a / 2 ^ k % 2) x) e ∙ max-eq_right {n = a / 2 ^ k % 2} {m = 1} (digit (a / 2 ^ k)))),
)
  where
    digit : (n : ℕ) → n % 2 ≤ 1
    digit n = omega arith

pub bits_then_comparator : (lanes : ℕ) (d : Debug) (word : ℕ) → lanes < 2 ^ 32 → d.dbmr < 2 ^ 32 → d.dbr < 2 ^ 32 → word < 2 ^ 32
    → ((k : ℕ) → k < 32 → bit k lanes ≡ true → bit k d.dbmr ≡ false → bit k word ≡ bit k d.dbr) → data_agrees lanes d word ≡ true
bits_then_comparator lanes d word small mask pattern given same =
    let others = 0xFFFFFFFF - lanes in
    bits_then_agree 32 (bit_or d.dbmr others) word d.dbr (or_lt 32 d.dbmr others mask (omega arith)) given pattern
    (λ k below free.
    let off = neither k d.dbmr (0xFFFFFFFF - lanes) free in
    same k below (not-false (bit k lanes) (sym (others_bit 32 k lanes small below) ∙ off.1)) off.0)
