-- Laws of the items from a cycle on: one cycle more, how many they are, and that those before it and these are all of the trace's.
use Rattle.std.specs.Prelude.{◌≡◌, refl, ℕ, zero, suc, ◌+◌, ◌-◌, ◌*◌, ◌≤◌, ◌<◌, List, [], ◌++◌}
use Rattle.std.proofs.Common.{ap, sym, ◌∙◌, append_assoc, append-nil, add-zero, length-append}
use native.Mathlib.Omega.{arith}
use Rattle.std.proofs.Math.ListN.{length}
use Rattle.cycle.specs.declared.Carried.{Carried}
use Rattle.cycle.specs.declared.Item.{Item}
use Rattle.cycle.specs.Cycle.{pst, nothing, after, carried_into}
use Rattle.cycle.proofs.CycleLaws.{carried_next}
use Rattle.cycle.specs.CycleItems.{items_at}
use Rattle.cycle.specs.CycleCountLaws.{count_le}
use Rattle.laws.specs.StoreLaws.{one_left}
use Rattle.trace.specs.Items.{items_before, items, items_from, items_to_end, words}
use Rattle.trace.specs.ItemLaws.{items_more, words_append}

-- the items from cycle i on are those of cycle i, and those from the next cycle on
module _ (trace : List ℕ) (i : ℕ) (c : Carried) where
  pub to_end_next : i < length trace → items_to_end trace i c ≡ items_at trace i c (pst trace i) ++ items_to_end trace (i + 1) (after c (pst trace i))
  unfolding items_from
  to_end_next h = rw (one_left (length trace) i h)

  pub to_end_none : length trace ≤ i → items_to_end trace i c ≡ []
  unfolding items_from
  to_end_none h = rw none_left
    where
      none_left : length trace - i ≡ 0
      none_left = omega arith

  pub count_to_end : i < length trace
      → length (items_to_end trace i c) ≡ length (items_at trace i c (pst trace i)) + length (items_to_end trace (i + 1) (after c (pst trace i)))
  count_to_end h = ap length (to_end_next h) ∙ length-append (items_at trace i c (pst trace i)) (items_to_end trace (i + 1) (after c (pst trace i)))

  pub words_to_end : i < length trace
      → words (items_to_end trace i c) ≡ words (items_at trace i c (pst trace i)) ++ words (items_to_end trace (i + 1) (after c (pst trace i)))
  words_to_end h = ap words (to_end_next h) ∙ words_append (items_at trace i c (pst trace i)) (items_to_end trace (i + 1) (after c (pst trace i)))

-- two items a cycle at most
pub items_from_le : (trace : List ℕ) (i : ℕ) (c : Carried) (n : ℕ) → length (items_from trace i c n) ≤ 2 * n
unfolding items_from
items_from_le trace i c zero = omega arith
items_from_le trace i c (suc n) =
    omega (
      arith,
      length-append (items_at trace i c (pst trace i)) (items_from trace (i + 1) (after c (pst trace i)) n),
      count_le trace i c (pst trace i),
      items_from_le trace (i + 1) (after c (pst trace i)) n,
    )

-- the items before cycle i and those of n cycles from it on are those before the cycle after them
pub items_from_lem : (trace : List ℕ) (n i : ℕ) (c : Carried) → c ≡ carried_into trace i
    → items_before trace i ++ items_from trace i c n ≡ items_before trace (i + n)
unfolding items_from
items_from_lem trace zero i c e = rw (add-zero i) (append-nil (items_before trace i))
items_from_lem trace (suc n) i c e =
    sym (append_assoc (items_before trace i) (items_at trace i c (pst trace i)) (items_from trace (i + 1) (after c (pst trace i)) n))
    ∙ ap (λ (l : List Item). l ++ items_from trace (i + 1) (after c (pst trace i)) n) (sym (items_more trace i c e))
    ∙ items_from_lem trace n (i + 1) (after c (pst trace i)) (carried_next trace i c e)
    ∙ ap (items_before trace) later
  where
    later : i + 1 + n ≡ i + suc n
    later = omega arith

-- the items before a cycle and those from it on are the trace's
pub items_split : (trace : List ℕ) (i : ℕ) → i ≤ length trace → items_before trace i ++ items_to_end trace i (carried_into trace i) ≡ items trace
unfolding items
items_split trace i h = items_from_lem trace (length trace - i) i (carried_into trace i) refl ∙ ap (items_before trace) whole
  where
    whole : i + (length trace - i) ≡ length trace
    whole = omega arith

pub words_split : (trace : List ℕ) (i : ℕ) → i ≤ length trace
    → words (items_before trace i) ++ words (items_to_end trace i (carried_into trace i)) ≡ words (items trace)
words_split trace i h = sym (words_append (items_before trace i) (items_to_end trace i (carried_into trace i))) ∙ ap words (items_split trace i h)

-- from the first cycle on, with nothing under way, they are all of the trace's
pub items_whole : (trace : List ℕ) → items_to_end trace 0 nothing ≡ items trace
unfolding items_before carried_into
items_whole trace = items_split trace 0 (omega arith)
