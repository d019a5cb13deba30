-- Laws of the rate: the counts are doubles exactly, so the quotient is the double nearest to the fraction, rounded once.
use Rattle.std.specs.Prelude.{◌≡◌, refl, Bool, true, false, cond, T, ltb, eqb, pos, Float, None, Some}
use Rattle.std.proofs.Common.{ap, sym, ◌∙◌, mod-lt, mul-suc, mul-one, zero-mul, mul_comm, mul_assoc, mul-pos, add-one, arith, ne_eqb, eqb-true}
use Prim.Native.Nat.{ℕ, zero, suc, ◌+◌, ◌-◌, ◌*◌, ◌/◌, ◌%◌, ◌^◌, ◌≤◌, ◌<◌, compare}
use Rattle.std.proofs.Math.Nat.{div-add-mod}
use Rattle.std.proofs.lemmas.Bool.{eqb-false}
use Rattle.std.specs.Float.{nan, inf, fin, Format, binary64}
use Rattle.std.specs.Float.Ieee.{prec, emax, low, size, nearest, odd, units, round, of_int, div, ne, is_nan, up, down, of_bits, to_bits}
use Rattle.std.specs.Float.Ieee.Exact.{HasValue}
use Rattle.std.specs.Float.Ieee.Back.{round_whole}
use Rattle.std.specs.Float.Ieee.Fits.{core, round_is, round-fits, up_pos, down_pos}
use Rattle.std.specs.Float.Ieee.Scale.{round_same}
use Rattle.std.specs.Float.Ieee.Bits.{of_bits-to_bits}
use Rattle.std.specs.Float.Ieee.Order.{round_mono}
use Rattle.std.specs.Float.Ieee.Positive.{above, above_of_le}
use Rattle.std.specs.Float.Ieee.Compare.{differs_from_itself, nan_differs}
use Rattle.rate.specs.Rate.{quotient, rate_of, rate_bits, hundredths}

-- a value that differs from itself is no number, and no other does
pub differs_is_nan : (x : Float) (b : Bool) → ne x x ≡ b → is_nan x ≡ b
unfolding is_nan
differs_is_nan x true e = ap is_nan (differs_from_itself x (rw e tt))
differs_is_nan nan false e = sym nan_differs ∙ e
differs_is_nan (inf s) false e = refl
differs_is_nan (fin s m k) false e = refl

-- a count of 65,536 or less is a double exactly
pub count_exact : (n : ℕ) → n ≤ 65536 → HasValue (of_int binary64 (pos n)) false n 1
unfolding of_int
count_exact n h = round_whole binary64 false n (omega arith)

-- a quotient of two values, by the fractions that they are
divided : (x y : Float) (a b : ℕ) → HasValue x false a 1 → HasValue y false b 1 → 0 < b → div binary64 x y ≡ round binary64 false a b
unfolding div
divided nan y a b h k p = absurd h
divided (inf s) y a b h k p = absurd h
divided (fin s m e) nan a b h k p = absurd k
divided (fin s m e) (inf t) a b h k p = absurd k
divided (fin s m e) (fin t n d) a b h k p =
    rw (h.0, k.0, ne_eqb n 0 some)
    (round_same binary64 false (m * up e * down d) (n * up d * down e) a b (mul-pos (mul-pos (omega (arith, some)) (up_pos d)) (down_pos e)) p crossed)
  where
    top : m * up e ≡ a * down e
    top = sym (mul-one (m * up e)) ∙ h.1

    bottom : n * up d ≡ b * down d
    bottom = sym (mul-one (n * up d)) ∙ k.1

    some : n ≡ 0 → ⊥
    some z = omega (arith, mul-pos p (down_pos d), rw (z, zero-mul (up d)) at bottom)

    crossed : m * up e * down d * b ≡ a * (n * up d * down e)
    crossed = rw (top, bottom, mul_assoc a (down e) (down d), mul_assoc a (down e * down d) b)
        (ap (λ (z : ℕ). a * z) (mul_comm (down e * down d) b ∙ ap (λ (z : ℕ). b * z) (mul_comm (down e) (down d)) ∙ sym (mul_assoc b (down d) (down e))))

-- THE LAW: the rate is the double nearest to the fraction of the two counts, rounded once
pub rounded_once : (cycles starts : ℕ) → cycles ≤ 65536 → starts ≤ 65536 → 0 < starts → quotient cycles starts ≡ round binary64 false cycles starts
rounded_once cycles starts h k p = divided _ _ cycles starts (count_exact cycles h) (count_exact starts k) p

odd_number : (d : ℕ) (s : Bool) (q k l : ℕ) → is_nan (odd d s q k l) ≡ false
unfolding is_nan odd
odd_number d s zero k l = refl
odd_number d s (suc q) k l = refl

units_number : (f : Format) (s : Bool) (q k : ℕ) → is_nan (units f s q k) ≡ false
unfolding units is_nan
units_number f s q k = by_size (ltb (q * 2 ^ k) (2 ^ (low f + suc (emax f))))
  where
    by_size : (t : Bool) → is_nan (cond t (odd (suc (prec f)) s q k (low f)) (inf s)) ≡ false
    by_size true = odd_number (suc (prec f)) s q k (low f)
    by_size false = refl

-- a value rounded by so many digits
kept_number : (n den k : ℕ) → is_nan (core binary64 false n den k) ≡ false
kept_number n den k = units_number binary64 false (nearest (n / (den * 2 ^ k)) (compare (n % (den * 2 ^ k) * 2) (den * 2 ^ k))) k

rounded_number : (a b : ℕ) → is_nan (round binary64 false a b) ≡ false
rounded_number a b =
    rw (round_is binary64 false a b) (kept_number (a * 2 ^ low binary64) b (size (a * 2 ^ low binary64 / b) - prec binary64))

-- so its bits are its own
pub rate_is_a_number : (cycles starts : ℕ) → cycles ≤ 65536 → starts ≤ 65536 → 0 < starts → is_nan (quotient cycles starts) ≡ false
rate_is_a_number cycles starts h k p = rw (rounded_once cycles starts h k p) (rounded_number cycles starts)

-- a rate of one or more has a bit set: 0 can stand for none
pub rate_bits_not_zero : (cycles starts : ℕ) → cycles ≤ 65536 → starts ≤ cycles → 0 < starts → to_bits binary64 (quotient cycles starts) ≡ 0 → ⊥
unfolding of_bits round
rate_bits_not_zero cycles starts h k p e = rw is_zero at above_zero
  where
    z : Float
    z = round binary64 false cycles starts

    is_zero : z ≡ of_bits binary64 0
    is_zero = sym (of_bits-to_bits binary64 z (round-fits binary64 false cycles starts))
        ∙ ap (of_bits binary64) (rw (rounded_once cycles starts h (omega arith) p) at e)

    above_zero : T (above z)
    above_zero = above_of_le (round binary64 false 1 1) z tt (round_mono binary64 1 1 cycles starts (omega arith) p (omega arith))

-- so the bits tell whether there is a rate: 0 exactly where nothing started
pub no_rate_no_bits : (cycles : ℕ) → rate_bits (rate_of cycles 0) ≡ 0
no_rate_no_bits cycles = refl

pub no_bits_no_rate : (cycles starts : ℕ) → cycles ≤ 65536 → starts ≤ cycles → rate_bits (rate_of cycles starts) ≡ 0 → starts ≡ 0
no_bits_no_rate cycles starts h k = by_starts (eqb starts 0) refl
  where
    by_starts : (b : Bool) → eqb starts 0 ≡ b → rate_bits (cond b None (Some (quotient cycles starts))) ≡ 0 → starts ≡ 0
    by_starts true t e = eqb-true starts 0 t
    by_starts false t e =
        let p : 0 < starts = omega (arith, eqb-false starts 0 t) in
        absurd (rate_bits_not_zero cycles starts h k p (rw (rate_is_a_number cycles starts h (omega arith) p) at e))

-- "half rounded up": from half a hundredth below the fraction on, to half a hundredth above it
pub half_up : (cycles starts : ℕ) → 0 < starts
    → (starts * 2 * hundredths cycles starts ≤ cycles * 200 + starts) × (cycles * 200 + starts < starts * 2 * (hundredths cycles starts + 1))
half_up cycles starts p = rw (ne_eqb starts 0 (λ e. omega (arith, e)))
    (omega (arith, div-add-mod n d), rw (add-one (n / d), mul-suc d (n / d)) (omega (arith, div-add-mod n d, mod-lt n {m = d} (omega arith))))
  where
    n : ℕ
    n = cycles * 200 + starts

    d : ℕ
    d = starts * 2
