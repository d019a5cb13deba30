-- Laws of the lanes that an access carries: it carries all of some lanes exactly where it carries each; and which comparators count at each size and address.
use Rattle.std.specs.Prelude.{ℕ, zero, suc, ◌/◌, ◌%◌, ◌^◌, ◌<◌, min, ◌≡◌, Bool, true, false, ◌&&◌, List, [], ◌∷◌, map, eqb}
use Rattle.std.proofs.Common.{sym, ap, ◌∙◌, eqb-true, eq-eqb, arith}
use Rattle.std.specs.Int.Bits.{bit_and, and_step, and_zero_l}
use Rattle.std.proofs.lemmas.Nat.{and_shr}
use Rattle.std.proofs.Math.Nat.{min-le_left, min-eq_left, min-eq_right}
use Rattle.laws.specs.TestLaws.{by_test, both_hold}
use Rattle.board.specs.RegisterBits.{bit}
use Rattle.comparators.specs.declared.BusAccess.{BusAccess}
use Rattle.comparators.specs.MaskLaws.{no_one, bit_of_half}
use Rattle.comparators.specs.Lanes.{size_field, byte_lanes, carried_lanes, carries_all}
use Rattle.comparators.specs.Comparators.{Ed, lanes_of}
use Rattle.comparators.specs.Comparators.Ed.{EDLW, EDWL, EDWU, EDLL, EDLM, EDUM, EDUU}

-- a bit of what two numbers have in common
pub and_bit : (k a b : ℕ) → bit k (bit_and a b) ≡ (bit k a && bit k b)
and_bit k a b = ap (λ (x : ℕ). eqb (x % 2) 1) (and_shr a b k) ∙ ap (λ (x : ℕ). eqb x 1) (low (a / 2 ^ k) (b / 2 ^ k)) ∙ lowest (a / 2 ^ k) (b / 2 ^ k)
  where
    low : (x y : ℕ) → bit_and x y % 2 ≡ min (x % 2) (y % 2)
    low x y = rw (and_step x y) (omega (arith, min-le_left (x % 2) (y % 2)))

    lowest : (x y : ℕ) → eqb (min (x % 2) (y % 2)) 1 ≡ (eqb (x % 2) 1 && eqb (y % 2) 1)
    lowest x y =
        by_test (eqb (x % 2) 1)
        (λ p. rw (p) (ap (λ (n : ℕ). eqb n 1) (min-eq_right {n = y % 2} {m = x % 2} (omega (arith, eqb-true (x % 2) 1 p)))))
        (λ p. rw (p) (ap (λ (n : ℕ). eqb n 1) (min-eq_left {n = x % 2} {m = y % 2} (omega (arith, no_one x p))) ∙ p))

pub carries_then_bits : (lanes : ℕ) (access : BusAccess) → carries_all lanes access ≡ true → (k : ℕ) → bit k lanes ≡ true → bit k (carried_lanes access) ≡ true
unfolding carries_all
carries_then_bits lanes access all k on =
    (both_hold (bit k lanes) (bit k (carried_lanes access)) (sym (and_bit k lanes (carried_lanes access)) ∙ ap (bit k) (eqb-true _ lanes all) ∙ on)).1

-- of numbers of any width n
same_and : (n a b : ℕ) → a < 2 ^ n → ((k : ℕ) → k < n → bit k a ≡ true → bit k b ≡ true) → bit_and a b ≡ a
same_and zero a b small all = let z : a ≡ 0 = omega arith in rw (z, and_zero_l b)
same_and (suc n) a b small all = rw (and_step a b, same_and n (a / 2) (b / 2) (omega arith) higher, lowest) (omega arith)
  where
    higher : (k : ℕ) → k < n → bit k (a / 2) ≡ true → bit k (b / 2) ≡ true
    higher k below on = bit_of_half k b ∙ all (suc k) (omega arith) (sym (bit_of_half k a) ∙ on)

    lowest : min (a % 2) (b % 2) ≡ a % 2
    lowest =
        by_test (bit 0 a) (λ p. min-eq_left (omega (arith, eqb-true (b / 2 ^ 0 % 2) 1 (all 0 (omega arith) p))))
        (λ p. min-eq_left (omega (arith, no_one (a / 2 ^ 0) p)))

pub bits_then_carries : (lanes : ℕ) (access : BusAccess) → lanes < 2 ^ 32 → ((k : ℕ) → k < 32 → bit k lanes ≡ true → bit k (carried_lanes access) ≡ true)
    → carries_all lanes access ≡ true
unfolding carries_all
bits_then_carries lanes access small all = eq-eqb _ lanes (same_and 32 lanes (carried_lanes access) small all)

-- the comparators that count, in the order of Table 5-14: EDLW, EDWL, EDWU, EDLL, EDLM, EDUM, EDUU
abbrev pub counting : BusAccess → List Bool
counting access = map (λ (c : Ed). carries_all (lanes_of c) access) (EDLW ∷ EDWL ∷ EDWU ∷ EDLL ∷ EDLM ∷ EDUM ∷ EDUU ∷ [])

module _ (access : BusAccess) where
  pub longword_counts : size_field access ≡ 0 → counting access ≡ (true ∷ true ∷ true ∷ true ∷ true ∷ true ∷ true ∷ [])
  unfolding carries_all carried_lanes
  longword_counts long = rw long

  pub upper_word_counts : size_field access ≡ 2 → access.address / 2 % 2 ≡ 0 → counting access ≡ (false ∷ false ∷ true ∷ false ∷ false ∷ true ∷ true ∷ [])
  unfolding carries_all carried_lanes
  upper_word_counts word at = rw (word, at)

  pub lower_word_counts : size_field access ≡ 2 → access.address / 2 % 2 ≡ 1 → counting access ≡ (false ∷ true ∷ false ∷ true ∷ true ∷ false ∷ false ∷ [])
  unfolding carries_all carried_lanes
  lower_word_counts word at = rw (word, at)

  pub byte_counts_at_0 : size_field access ≡ 1 → access.address % 4 ≡ 0 → counting access ≡ (false ∷ false ∷ false ∷ false ∷ false ∷ false ∷ true ∷ [])
  unfolding carries_all carried_lanes byte_lanes
  byte_counts_at_0 byte at = rw (byte, at)

  pub byte_counts_at_1 : size_field access ≡ 1 → access.address % 4 ≡ 1 → counting access ≡ (false ∷ false ∷ false ∷ false ∷ false ∷ true ∷ false ∷ [])
  unfolding carries_all carried_lanes byte_lanes
  byte_counts_at_1 byte at = rw (byte, at)

  pub byte_counts_at_2 : size_field access ≡ 1 → access.address % 4 ≡ 2 → counting access ≡ (false ∷ false ∷ false ∷ false ∷ true ∷ false ∷ false ∷ [])
  unfolding carries_all carried_lanes byte_lanes
  byte_counts_at_2 byte at = rw (byte, at)

  pub byte_counts_at_3 : size_field access ≡ 1 → access.address % 4 ≡ 3 → counting access ≡ (false ∷ false ∷ false ∷ true ∷ false ∷ false ∷ false ∷ [])
  unfolding carries_all carried_lanes byte_lanes
  byte_counts_at_3 byte at = rw (byte, at)
