-- Laws of a page's rate: no more starts than cycles, so that both are doubles exactly, and the rate is their fraction rounded once.
use Rattle.std.specs.Prelude.{◌≡◌, refl, ℕ, zero, suc, ◌+◌, ◌≤◌, ◌<◌, Bool, true, false, cond, List, [], ◌∷◌, ◌++◌, eqb, ltb, length, Some}
use Rattle.std.proofs.Common.{ap, sym, true≢false, arith, ne_eqb, ltb-false}
use Rattle.std.specs.Float.{binary64}
use Rattle.std.specs.Float.Ieee.{round}
use Rattle.cycle.specs.declared.Carried.{Carried}
use Rattle.cycle.specs.declared.Item.{Item}
use Rattle.cycle.specs.Cycle.{pst, gives_own, marker, after, carried_into}
use Rattle.cycle.specs.CycleItems.{of_value, of_cycle, value_item, own_item, items_at}
use Rattle.trace.specs.Items.{items_before, items}
use Rattle.cycle.specs.CycleCountLaws.{one_le}
use Rattle.rate.specs.Rate.{rate_of}
use Rattle.rate.specs.RateLaws.{rounded_once}
use Rattle.tally.specs.Tally.{start, starts_of}

starts_append : (xs ys : List Item) → starts_of (xs ++ ys) ≡ starts_of xs + starts_of ys
unfolding starts_of
starts_append [] ys = omega arith
starts_append (x ∷ xs) ys = omega (arith, starts_append xs ys)

marker_no_start : (p : ℕ) → marker p ≡ true → start p ≡ false
marker_no_start p e = rw (
  ne_eqb p 1 (λ f. omega (arith, f, eight)),
  ne_eqb p 4 (λ f. omega (arith, f, eight)),
  ne_eqb p 5
      (λ f. omega (arith, f, eight)),
  ne_eqb p 7 (λ f. omega (arith, f, eight)),
)
  where
    by_eight : (b : Bool) → ltb p 8 ≡ b → cond b false (ltb p 12) ≡ true → 8 ≤ p
    by_eight true t u = absurd (true≢false (sym u))
    by_eight false t u = ltb-false p 8 t

    eight : 8 ≤ p
    eight = by_eight (ltb p 8) refl e

-- a value's item is no start: the latest marker is 0 or 8 to 11
no_start : (trace : List ℕ) (i : ℕ) → start (carried_into trace i).marker ≡ false
unfolding carried_into after
no_start trace zero = refl
no_start trace (suc i) = by_marker (pst trace i) (marker (pst trace i)) refl (no_start trace i)
  where
    by_marker : (p : ℕ) (b : Bool) → marker p ≡ b → start (carried_into trace i).marker ≡ false → start (cond b p (carried_into trace i).marker) ≡ false
    by_marker p true e h = marker_no_start p e
    by_marker p false e h = h

starts_of_one : (b : Bool) (x : Item) → start x.code ≡ false → starts_of (cond b (x ∷ []) []) ≡ 0
unfolding starts_of
starts_of_one true x e = rw e
starts_of_one false x e = refl

starts_at_most_one : (b : Bool) (x : Item) → starts_of (cond b (x ∷ []) []) ≤ 1
unfolding starts_of
starts_at_most_one true x = omega (arith, one_le (start x.code))
starts_at_most_one false x = omega arith

-- no more than one start a cycle
pub starts_before : (trace : List ℕ) (i : ℕ) → starts_of (items_before trace i) ≤ i
unfolding items_before items_at starts_of
starts_before trace zero = omega arith
starts_before trace (suc i) =
    omega (
      arith,
      starts_append (items_before trace i) (value_item trace i c ++ own_item i c.run (pst trace i)),
      starts_append (value_item trace i c) (own_item i c.run (pst trace i)),
      starts_of_one (eqb c.due 1) (of_value trace i c.marker) (no_start trace i),
      starts_at_most_one (gives_own c.run (pst trace i)) (of_cycle i (pst trace i)),
      starts_before trace i,
    )
  where
    c : Carried
    c = carried_into trace i

pub starts_within_cycles : (trace : List ℕ) → starts_of (items trace) ≤ length trace
unfolding items
starts_within_cycles trace = starts_before trace (length trace)

-- THE LAW: the rate of a page is the double nearest to cycles by starts, rounded once
pub page_rate : (trace : List ℕ) → length trace ≤ 65536 → 0 < starts_of (items trace)
    → rate_of (length trace) (starts_of (items trace)) ≡ Some (round binary64 false (length trace) (starts_of (items trace)))
page_rate trace h p =
    rw (ne_eqb (starts_of (items trace)) 0 (λ e. omega (arith, e)))
    (ap Some (rounded_once (length trace) (starts_of (items trace)) h (omega (arith, starts_within_cycles trace)) p))
