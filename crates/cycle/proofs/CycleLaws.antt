-- Laws of one cycle: what it finds under way goes on, a value grows by a nibble at its low end, and fits the nibbles it has.
use Rattle.std.specs.Prelude.{◌≡◌, refl, Bool, true, false, cond, ltb, leb, eqb, ℕ, zero, suc, ◌+◌, ◌*◌, ◌/◌, ◌^◌, ◌≤◌, ◌<◌, List}
use Rattle.std.proofs.Common.{ap, ltb-true, ltb-false, le-leb, ne_eqb, add-one, arith}
use Rattle.std.proofs.lemmas.Bool.{lt-leb}
use Rattle.std.specs.Int.Bits.{bit_and}
use Rattle.std.proofs.Math.Nat.{pow-succ', pow-le-pow_right}
use Rattle.cycle.specs.declared.Carried.{Carried}
use Rattle.cycle.specs.Cycle.{single, pst, ddata, value, after, carried_into}

-- the cycle after cycle i finds what cycle i leaves
pub carried_next : (trace : List ℕ) (i : ℕ) (c : Carried) → c ≡ carried_into trace i → after c (pst trace i) ≡ carried_into trace (i + 1)
unfolding carried_into
carried_next trace i c e = rw (add-one i) (ap (λ (d : Carried). after d (pst trace i)) e)

-- no PST but a marker is too soon
pub never : (due : ℕ) → false ≡ cond (ltb due 2) false false
never due = split (ltb due 2)
  where
    split : (t : Bool) → false ≡ cond t false false
    split true = refl
    split false = refl

-- the bits of 0xBA are the PSTs below 8 that give an item
pub single_bit : (p : ℕ) → p < 8 → eqb (bit_and (0xBA / 2 ^ p) 1) 1 ≡ single p
single_bit zero h = refl
single_bit (suc zero) h = refl
single_bit (suc (suc zero)) h = refl
single_bit (suc (suc (suc zero))) h = refl
single_bit (suc (suc (suc (suc zero)))) h = refl
single_bit (suc (suc (suc (suc (suc zero))))) h = refl
single_bit (suc (suc (suc (suc (suc (suc zero)))))) h = refl
single_bit (suc (suc (suc (suc (suc (suc (suc zero))))))) h = refl
single_bit (suc (suc (suc (suc (suc (suc (suc (suc p)))))))) h = absurd (beyond p h)
  where
    beyond : (n : ℕ) → suc (suc (suc (suc (suc (suc (suc (suc n))))))) < 8 → ⊥
    beyond n h = omega (arith, h)

-- no marker gives an item of its own
pub marker_not_single : (p : ℕ) → 8 ≤ p → single p ≡ false
marker_not_single p h = rw (other 1 (omega arith), other 3 (omega arith), other 4 (omega arith), other 5 (omega arith), other 7 (omega arith))
  where
    other : (n : ℕ) → n < 8 → eqb p n ≡ false
    other n k = ne_eqb p n (λ e. omega (arith, e))

-- a marker is too soon where two nibbles or more are due, and no other PST is
pub two_or_more : (due : ℕ) → leb 2 due ≡ cond (ltb due 2) false true
two_or_more due = split (ltb due 2) refl
  where
    split : (t : Bool) → ltb due 2 ≡ t → leb 2 due ≡ cond t false true
    split true e = lt-leb 2 due (ltb-true due 2 e)
    split false e = le-leb 2 due (ltb-false due 2 e)

pub value_where : (trace : List ℕ) {a b n m : ℕ} → a ≡ b → n ≡ m → value trace a n ≡ value trace b m
value_where trace e f = rw (e, f)

pub value_of_none : (trace : List ℕ) (from n : ℕ) → n ≡ 0 → value trace from n ≡ 0
unfolding value
value_of_none trace from n e = rw e

-- the nibble of the cycle before stands below those that follow it
pub value_before : (trace : List ℕ) (at next rest more : ℕ) → at + 1 ≡ next → rest + 1 ≡ more
    → value trace at more ≡ value trace next rest * 16 + ddata trace at
unfolding value
value_before trace at next rest more e f = rw (← f, ← e, add-one rest) (omega arith)

pub value_below : (trace : List ℕ) (n from : ℕ) → value trace from n < 16 ^ n
unfolding value
value_below trace zero from = omega arith
value_below trace (suc n) from = omega (arith, value_below trace n (from + 1), pow-succ' 16 n)

-- with a nibble to come, a value leaves room for it in 32 bits
pub value_leaves_room : (trace : List ℕ) (n from : ℕ) → n ≤ 7 → value trace from n < 268435456
value_leaves_room trace n from h = omega (arith, value_below trace n from, pow-le-pow_right {n = 16} (omega arith) {i = n} {j = 7} h)
