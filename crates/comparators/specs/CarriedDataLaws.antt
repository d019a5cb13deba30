-- Laws of the data that an access carries ([1] of 02): other lanes make no difference, of longwords data hold as before, and none hold that did not.
use Rattle.std.specs.Prelude.{ℕ, ◌-◌, ◌^◌, ◌<◌, ◌≡◌, Bool, false, ◌&&◌, ◌||◌}
use Rattle.std.proofs.Math.Path.{sym, ap}
use Rattle.std.proofs.Common.{◌∙◌, eq-eqb, arith}
use Rattle.std.proofs.Math.Bool.{true, not, and-true}
use Rattle.std.specs.Int.Bits.{bit_and, and_le_l}
use Rattle.std.proofs.lemmas.Nat.{and_mask}
use Rattle.laws.specs.TestLaws.{by_test, both_hold, or_grows, same_truth}
use Rattle.board.specs.declared.Debug.{Debug}
use Rattle.board.specs.RegisterBits.{bit}
use Rattle.comparators.specs.declared.BusAccess.{BusAccess}
use Rattle.comparators.specs.declared.Level.{Level}
use Rattle.comparators.specs.Masks.{turned}
use Rattle.comparators.specs.Lanes.{size_field, carried_lanes, carries_all}
use Rattle.comparators.specs.Comparators.{Ed, lanes_of, data_agrees, comparator, some_set, data_enabled, data_holds}
use Rattle.comparators.specs.Comparators.Ed.{EDLW, EDWL, EDWU, EDLL, EDLM, EDUM, EDUU}
use Rattle.comparators.specs.LaneLaws.{and_bit, carries_then_bits}
use Rattle.comparators.specs.ComparatorLaws.{comparator_then_bits, bits_then_comparator}

-- 01 before [1] of 02: "Lanes that the size and address do not carry read as zero."
abbrev pub read_before : BusAccess → ℕ
read_before access = bit_and access.lanes (carried_lanes access)

-- and every comparator counted
abbrev pub comparator_before : Ed → Bool → Debug → BusAccess → Bool
comparator_before c di d access = turned di (data_agrees (lanes_of c) d (read_before access))

abbrev pub data_held_before : Level → Debug → BusAccess → Bool
data_held_before level d access = not (data_enabled level) || some_set level (λ (c : Ed). comparator_before c level.di d access)

some_set_same : (level : Level) (f g : Ed → Bool) → ((c : Ed) → f c ≡ g c) → some_set level f ≡ some_set level g
unfolding some_set
some_set_same level f g same = rw (same EDLW, same EDWL, same EDWU, same EDLL, same EDLM, same EDUM, same EDUU)

some_set_grows : (level : Level) (f g : Ed → Bool) → ((c : Ed) → f c ≡ true → g c ≡ true) → some_set level f ≡ true → some_set level g ≡ true
unfolding some_set
some_set_grows level f g to =
    or_grows _ _ _ _
    (or_grows _ _ _ _
    (or_grows _ _ _ _
    (or_grows _ _ _ _
    (or_grows _ _ _ _ (or_grows _ _ _ _ (set level.edlw EDLW) (set level.edwl EDWL)) (set level.edwu EDWU))
    (set level.edll EDLL))
    (set level.edlm EDLM))
    (set level.edum EDUM))
    (set level.eduu EDUU)
  where
    set : (on : Bool) (c : Ed) → (on && f c) ≡ true → (on && g c) ≡ true
    set true c holds = to c holds
    set false c holds = holds

below_longword : (c : Ed) → lanes_of c < 2 ^ 32
below_longword EDLW = omega arith
below_longword EDWL = omega arith
below_longword EDWU = omega arith
below_longword EDLL = omega arith
below_longword EDLM = omega arith
below_longword EDUM = omega arith
below_longword EDUU = omega arith

-- of a longword access data hold as they did before
pub longword_holds_as_before : (level : Level) (d : Debug) (access : BusAccess) → access.lanes < 2 ^ 32 → size_field access ≡ 0
    → data_holds level d access ≡ data_held_before level d access
unfolding carried_lanes carries_all comparator
longword_holds_as_before level d access given long =
    ap (λ (held : Bool). not (data_enabled level) || held)
    (some_set_same level (λ (c : Ed). comparator (lanes_of c) level.di d access) (λ (c : Ed). comparator_before c level.di d access) same)
  where
    all : carried_lanes access ≡ 2 ^ 32 - 1
    all = rw long

    whole : (n : ℕ) → n < 2 ^ 32 → bit_and n (carried_lanes access) ≡ n
    whole n small = ap (bit_and n) all ∙ and_mask n 32 ∙ (omega arith)

    same : (c : Ed) → comparator (lanes_of c) level.di d access ≡ comparator_before c level.di d access
    same c = rw (whole access.lanes given, eq-eqb _ (lanes_of c) (whole (lanes_of c) (below_longword c)))

-- a comparator sees its lanes alone
module _ (c : Ed) (d : Debug) (mask : d.dbmr < 2 ^ 32) (pattern : d.dbr < 2 ^ 32) where
  abbrev Alike : ℕ → ℕ → Type 0
  Alike a b = (k : ℕ) → k < 32 → bit k (lanes_of c) ≡ true → bit k a ≡ bit k b

  one_way : (a b : ℕ) → b < 2 ^ 32 → Alike b a → data_agrees (lanes_of c) d a ≡ true → data_agrees (lanes_of c) d b ≡ true
  one_way a b small alike agrees =
      bits_then_comparator (lanes_of c) d b (below_longword c) mask pattern small
      (λ k below on free. alike k below on ∙ comparator_then_bits (lanes_of c) d a (below_longword c) agrees k below on free)

  agrees_alike : (a b : ℕ) → a < 2 ^ 32 → b < 2 ^ 32 → Alike a b → data_agrees (lanes_of c) d a ≡ data_agrees (lanes_of c) d b
  agrees_alike a b small-a small_b alike = same_truth _ _ (one_way a b small_b (λ k below on. sym (alike k below on))) (one_way b a small-a alike)

abbrev pub with_data : BusAccess → ℕ → BusAccess
with_data access word = record { address = access.address; attribute = access.attribute; lanes = word }

module _ (level : Level) (d : Debug) (access : BusAccess) (mask : d.dbmr < 2 ^ 32) (pattern : d.dbr < 2 ^ 32) (given : access.lanes < 2 ^ 32) where
  -- "A byte that was never on the bus": what stands on lanes that the access does not carry makes no difference
  pub not_carried_not_read : (word : ℕ) → word < 2 ^ 32
      → ((k : ℕ) → k < 32 → bit k (carried_lanes access) ≡ true → bit k word ≡ bit k access.lanes)
      → data_holds level d (with_data access word) ≡ data_holds level d access
  unfolding carried_lanes carries_all comparator
  not_carried_not_read word small carried =
      ap (λ (held : Bool). not (data_enabled level) || held)
      (some_set_same level
      (λ (c : Ed). comparator (lanes_of c) level.di d (with_data access word))
      (λ (c : Ed). comparator (lanes_of c) level.di d access)
      same)
    where
      agreed : (c : Ed) → carries_all (lanes_of c) access ≡ true → data_agrees (lanes_of c) d word ≡ data_agrees (lanes_of c) d access.lanes
      agreed c all =
          agrees_alike c d mask pattern word access.lanes small given
          (λ k below on. carried k below (carries_then_bits (lanes_of c) access all k on))

      same : (c : Ed) → comparator (lanes_of c) level.di d (with_data access word) ≡ comparator (lanes_of c) level.di d access
      same c = by_test (carries_all (lanes_of c) access) (λ p. rw (agreed c p)) (λ p. rw p)

  -- a comparator that counts does what it did before
  pub counts_as_before : (c : Ed) → carries_all (lanes_of c) access ≡ true → comparator (lanes_of c) level.di d access ≡ comparator_before c level.di d access
  unfolding comparator
  counts_as_before c all =
      rw (all)
      (ap (turned level.di)
      (agrees_alike c d mask pattern access.lanes (read_before access) given (omega (arith, and_le_l access.lanes (carried_lanes access))) read))
    where
      read : (k : ℕ) → k < 32 → bit k (lanes_of c) ≡ true → bit k access.lanes ≡ bit k (read_before access)
      read k below on =
          sym (and_bit k access.lanes (carried_lanes access) ∙ rw (carries_then_bits (lanes_of c) access all k on, and-true (bit k access.lanes)))

  -- data that hold did so before: the request only takes away
  pub holds_then_held : data_holds level d access ≡ true → data_held_before level d access ≡ true
  unfolding comparator
  holds_then_held =
      or_grows (not (data_enabled level)) (not (data_enabled level)) _ _ (λ p. p)
      (some_set_grows level (λ (c : Ed). comparator (lanes_of c) level.di d access) (λ (c : Ed). comparator_before c level.di d access) held)
    where
      held : (c : Ed) → comparator (lanes_of c) level.di d access ≡ true → comparator_before c level.di d access ≡ true
      held c holds = sym (counts_as_before c (both_hold (carries_all (lanes_of c) access) _ holds).0) ∙ holds
