-- Laws of the items before a cycle: how many there are, and how their words follow each other.
use Rattle.std.specs.Prelude.{◌≡◌, refl, ℕ, zero, suc, ◌+◌, ◌*◌, ◌≤◌, List, [], ◌∷◌, ◌++◌, length}
use Rattle.std.proofs.Common.{sym, add-one, arith, length-append}
use Rattle.cycle.specs.declared.Carried.{Carried}
use Rattle.cycle.specs.declared.Item.{Item}
use Rattle.cycle.specs.Cycle.{pst, carried_into}
use Rattle.cycle.specs.CycleItems.{value_item, own_item, items_at}
use Rattle.cycle.specs.CycleCountLaws.{count_le}
use Rattle.trace.specs.Items.{items_before, words}

-- one cycle more
items_next : (trace : List ℕ) (i : ℕ)
    → length (items_before trace (suc i)) ≡ length (items_before trace i) + length (items_at trace i (carried_into trace i) (pst trace i))
unfolding items_before
items_next trace i = length-append (items_before trace i) (items_at trace i (carried_into trace i) (pst trace i))

pub count_next : (trace : List ℕ) (i n : ℕ) (c : Carried) → n ≡ length (items_before trace i) → c ≡ carried_into trace i
    → n + length (items_at trace i c (pst trace i)) ≡ length (items_before trace (i + 1))
count_next trace i n c e f = rw (add-one i) (rw (e, f) (sym (items_next trace i)))

pub items_before_le : (trace : List ℕ) (i : ℕ) → length (items_before trace i) ≤ 2 * i
unfolding items_before
items_before_le trace zero = omega arith
items_before_le trace (suc i) = omega (arith, items_next trace i, items_before_le trace i, count_le trace i (carried_into trace i) (pst trace i))

pub words_append : (xs ys : List Item) → words (xs ++ ys) ≡ words xs ++ words ys
words_append [] ys = refl
words_append (x ∷ xs) ys = rw (words_append xs ys)

-- two words an item
pub length_words : (xs : List Item) → length (words xs) ≡ 2 * length xs
length_words [] = refl
length_words (x ∷ xs) = omega (arith, length_words xs)

-- the words of a cycle: those of a value's item, then those of its own
pub words_at : (trace : List ℕ) (i : ℕ) (c : Carried) (p : ℕ) → words (items_at trace i c p) ≡ words (value_item trace i c) ++ words (own_item i c.run p)
unfolding items_at
words_at trace i c p = words_append (value_item trace i c) (own_item i c.run p)

-- the items of the cycles before cycle i, and those of cycle i
pub items_more : (trace : List ℕ) (i : ℕ) (c : Carried) → c ≡ carried_into trace i
    → items_before trace (i + 1) ≡ items_before trace i ++ items_at trace i c (pst trace i)
unfolding items_before
items_more trace i c e = rw (add-one i, e)
