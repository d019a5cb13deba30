-- Laws of a marker: what it announces comes true, by the numbers of the cycles alone.
use Rattle.std.specs.Prelude.{◌≡◌, refl, true, false, List, [], ◌∷◌}
use Rattle.std.proofs.Common.{ap, ◌∙◌, add-zero, add-suc, eq-eqb}
use Prim.Native.Nat.{ℕ, zero, suc, ◌+◌, ◌-◌, ◌<◌}
use Rattle.std.proofs.Math.Numerals.{add-one}
use native.Mathlib.Omega.{arith}
use Rattle.cycle.specs.declared.Carried.{Carried}
use Rattle.cycle.specs.Cycle.{pst, marker, bytes, nibbles, after, carried_into, value}
use Rattle.cycle.specs.CycleItems.{of_value, value_item}

-- "A marker 8 to B announces 1 to 4 bytes"
pub announced_bytes : (bytes 8 ≡ 1) × (bytes 9 ≡ 2) × (bytes 10 ≡ 3) × (bytes 11 ≡ 4)
announced_bytes = (refl, refl, refl, refl)

value_item_of : (trace : List ℕ) (i m : ℕ) (c : Carried) → c.marker ≡ m → c.due ≡ 1 → value_item trace i c ≡ of_value trace i m ∷ []
value_item_of trace i m c e f = rw (eq-eqb c.due 1 f, e)

module _ (trace : List ℕ) (j : ℕ) (announces : marker (pst trace j) ≡ true) where
  -- k cycles later, with no other marker among them, k nibbles fewer are due of this one
  nibbles_left : (k : ℕ) → ((d : ℕ) → d < k → marker (pst trace (j + 1 + d)) ≡ false)
      → ((carried_into trace (j + 1 + k)).marker ≡ pst trace j) × ((carried_into trace (j + 1 + k)).due ≡ nibbles (pst trace j) - k)
  unfolding carried_into after
  nibbles_left zero alone = rw (add-zero (j + 1), add-one j, announces) (refl, sym_zero)
    where
      sym_zero : nibbles (pst trace j) ≡ nibbles (pst trace j) - 0
      sym_zero = omega arith
  nibbles_left (suc k) alone =
      let before = nibbles_left k (λ d h. alone d (omega arith)) in
      rw (add-suc (j + 1) k, alone k (omega arith)) (before.0, omega (arith, before.1))

  -- "the next 2, 4, 6 or 8 cycles carry its nibbles, least significant first", and its value is an item at the last of them
  pub marker_announces : ((d : ℕ) → d + 1 < nibbles (pst trace j) → marker (pst trace (j + 1 + d)) ≡ false)
      → value_item trace (j + nibbles (pst trace j)) (carried_into trace (j + nibbles (pst trace j)))
      ≡ record { cycle = j + nibbles (pst trace j); code = pst trace j; value = value trace (j + 1) (nibbles (pst trace j)) } ∷ []
  marker_announces alone =
      value_item_of trace (j + n) (pst trace j) (carried_into trace (j + n)) (rw (← last) left.0) (rw (← last) (left.1 ∙ one))
      ∙ ap (λ (from : ℕ). record { cycle = j + n; code = pst trace j; value = value trace from n } ∷ []) first
    where
      n : ℕ
      n = nibbles (pst trace j)

      last : j + 1 + (n - 1) ≡ j + n
      last = omega arith

      one : n - (n - 1) ≡ 1
      one = omega arith

      first : j + n + 1 - n ≡ j + 1
      first = omega arith

      left : ((carried_into trace (j + 1 + (n - 1))).marker ≡ pst trace j) × ((carried_into trace (j + 1 + (n - 1))).due ≡ n - (n - 1))
      left = nibbles_left (n - 1) (λ d h. alone d (omega arith))
