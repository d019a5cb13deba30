-- Laws of the counts: the sixteen of them add up to the items of the listing.
use Rattle.std.specs.Prelude.{◌≡◌, refl, ℕ, zero, suc, ◌+◌, ◌≤◌, ◌<◌, Bool, true, false, cond, List, [], ◌∷◌, ◌++◌, eqb, length}
use Rattle.std.proofs.Common.{ap, ◌∙◌, zero-add, arith, ne_eqb, eqb-true}
use Rattle.std.proofs.lemmas.Bool.{eqb-false}
use Rattle.cycle.specs.declared.Carried.{Carried}
use Rattle.cycle.specs.declared.Item.{Item}
use Rattle.cycle.specs.Cycle.{pst, gives_own, carried_into}
use Rattle.cycle.specs.CycleItems.{of_value, of_cycle, value_item, own_item, items_at}
use Rattle.trace.specs.Items.{items_before, items}
use Rattle.index.specs.Index.{Bytes}
use Rattle.index.specs.RangeLaws.{marker_at_most}
use Rattle.tally.specs.Tally.{one, count_of, each, per_code}

-- every item's code is one of the sixteen
abbrev pub Coded : List Item → Type 0
Coded [] = Unit
Coded (x ∷ xs) = (x.code < 16) × Coded xs

coded_append : (xs ys : List Item) → Coded xs → Coded ys → Coded (xs ++ ys)
coded_append [] ys a b = b
coded_append (x ∷ xs) ys a b = (a.0, coded_append xs ys a.1 b)

coded_one : (b : Bool) (x : Item) → x.code < 16 → Coded (cond b (x ∷ []) [])
coded_one true x h = (h, tt)
coded_one false x h = tt

coded_before : (trace : List ℕ) → Bytes trace → (i : ℕ) → Coded (items_before trace i)
unfolding items_before items_at
coded_before trace h zero = tt
coded_before trace h (suc i) =
    coded_append (items_before trace i) (value_item trace i c ++ own_item i c.run (pst trace i)) (coded_before trace h i)
    (coded_append (value_item trace i c) (own_item i c.run (pst trace i))
    (coded_one (eqb c.due 1) (of_value trace i c.marker) (omega (arith, marker_at_most trace i)))
    (coded_one (gives_own c.run (pst trace i)) (of_cycle i (pst trace i)) (omega (arith, h i))))
  where
    c : Carried
    c = carried_into trace i

pub coded_items : (trace : List ℕ) → Bytes trace → Coded (items trace)
unfolding items
coded_items trace h = coded_before trace h (length trace)

abbrev pub sum : List ℕ → ℕ
sum [] = 0
sum (n ∷ ns) = n + sum ns

none_summed : (code n : ℕ) → sum (each (count_of []) code n) ≡ 0
unfolding each count_of
none_summed code zero = refl
none_summed code (suc n) = zero-add (sum (each (count_of []) (suc code) n)) ∙ none_summed (suc code) n

-- an item adds nothing to the counts of later codes
none_added : (x : Item) (xs : List Item) (n code : ℕ) → x.code < code → sum (each (count_of (x ∷ xs)) code n) ≡ sum (each (count_of xs) code n)
unfolding each count_of
none_added x xs zero code h = refl
none_added x xs (suc n) code h = rw (ne_eqb x.code code (λ e. omega (arith, e)), zero-add (count_of xs code), none_added x xs n (suc code) (omega arith))

-- and one where its code is among those summed
one_summed : (x : Item) (xs : List Item) (n code : ℕ) → code ≤ x.code → x.code < code + n
    → sum (each (count_of (x ∷ xs)) code n) ≡ suc (sum (each (count_of xs) code n))
unfolding each count_of
one_summed x xs zero code h k = absurd (omega arith)
one_summed x xs (suc n) code h k = by_code (eqb x.code code) refl (one_summed x xs n (suc code))
  where
    by_code : (b : Bool) → eqb x.code code ≡ b
        → (suc code ≤ x.code → x.code < suc code + n → sum (each (count_of (x ∷ xs)) (suc code) n) ≡ suc (sum (each (count_of xs) (suc code) n)))
        → one b + count_of xs code + sum (each (count_of (x ∷ xs)) (suc code) n) ≡ suc (count_of xs code + sum (each (count_of xs) (suc code) n))
    by_code true e on = omega (arith, none_added x xs n (suc code) (omega (arith, eqb-true x.code code e)))
    by_code false e on = omega (arith, on (omega (arith, eqb-false x.code code e)) (omega arith))

summed : (xs : List Item) → Coded xs → sum (per_code (count_of xs)) ≡ length xs
summed [] c = none_summed 0 16
summed (x ∷ xs) c = one_summed x xs 16 0 (omega arith) c.0 ∙ ap suc (summed xs c.1)

-- THE LAW: "The sixteen code counts add up to the items of the listing."
pub counts_add_up : (trace : List ℕ) → Bytes trace → sum (per_code (count_of (items trace))) ≡ length (items trace)
counts_add_up trace h = summed (items trace) (coded_items trace h)
