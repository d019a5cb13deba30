-- Laws of the first and the last: the least and the greatest cycle among the items of a code.
use Rattle.std.specs.Prelude.{◌≡◌, refl, ◌⊎◌, ℕ, zero, suc, ◌+◌, ◌-◌, ◌≤◌, ◌<◌, Bool, true, false, cond, List, [], ◌∷◌, ◌++◌, eqb, length}
use Rattle.std.proofs.Common.{ap, sym, ◌∙◌, inl, inr, arith, eq-eqb, eqb-true}
use Rattle.std.proofs.lemmas.Bool.{eqb-false}
use Rattle.cycle.specs.declared.Carried.{Carried}
use Rattle.cycle.specs.declared.Item.{Item}
use Rattle.cycle.specs.Cycle.{pst, gives_own, after, carried_into}
use Rattle.cycle.specs.CycleItems.{of_value, of_cycle, value_item, own_item, items_at}
use Rattle.trace.specs.Items.{items_before, items_from, items}
use Rattle.index.specs.Entry.{entry_at}
use Rattle.index.proofs.EntryLaws.{items_on}
use Rattle.tally.specs.Tally.{one, count_of, first_of, last_of}

-- an item is one of these
abbrev pub Among : Item → List Item → Type 0
Among x [] = ⊥
Among x (y ∷ ys) = (x ≡ y) ⊎ Among x ys

among_either : (x : Item) (xs ys : List Item) → Among x (xs ++ ys) → Among x xs ⊎ Among x ys
among_either x [] ys a = inr a
among_either x (y ∷ xs) ys (inl e) = inl (inl e)
among_either x (y ∷ xs) ys (inr a) = on (among_either x xs ys a)
  where
    on : Among x xs ⊎ Among x ys → Among x (y ∷ xs) ⊎ Among x ys
    on (inl a) = inl (inr a)
    on (inr a) = inr a

-- ---- the items of a trace come in the order of their cycles

abbrev Ascending : List Item → Type 0
Ascending [] = Unit
Ascending (x ∷ xs) = ((y : Item) → Among y xs → x.cycle ≤ y.cycle) × Ascending xs

ascending_append : (xs ys : List Item) → Ascending xs → Ascending ys → ((x y : Item) → Among x xs → Among y ys → x.cycle ≤ y.cycle) → Ascending (xs ++ ys)
ascending_append [] ys a b h = b
ascending_append (x ∷ xs) ys a b h = (λ y m. from y (among_either y xs ys m), ascending_append xs ys a.1 b (λ z y m n. h z y (inr m) n))
  where
    from : (y : Item) → Among y xs ⊎ Among y ys → x.cycle ≤ y.cycle
    from y (inl m) = a.0 y m
    from y (inr m) = h x y (inl refl) m

-- an item of a cycle has its number
only_of : (i : ℕ) (b : Bool) (x y : Item) → x.cycle ≡ i → Among y (cond b (x ∷ []) []) → y.cycle ≡ i
only_of i true x y e (inl f) = ap (λ (z : Item). z.cycle) f ∙ e
only_of i true x y e (inr a) = absurd a
only_of i false x y e a = absurd a

pub of_its_cycle : (trace : List ℕ) (i : ℕ) (c : Carried) (p : ℕ) (x : Item) → Among x (items_at trace i c p) → x.cycle ≡ i
unfolding items_at
of_its_cycle trace i c p x a = by_part (among_either x (value_item trace i c) (own_item i c.run p) a)
  where
    by_part : Among x (value_item trace i c) ⊎ Among x (own_item i c.run p) → x.cycle ≡ i
    by_part (inl m) = only_of i (eqb c.due 1) (of_value trace i c.marker) x refl m
    by_part (inr m) = only_of i (gives_own c.run p) (of_cycle i p) x refl m

ascending_one : (b : Bool) (x : Item) → Ascending (cond b (x ∷ []) [])
ascending_one true x = (λ y a. absurd a, tt)
ascending_one false x = tt

same_cycle : (a b i : ℕ) → a ≡ i → b ≡ i → a ≤ b
same_cycle a b i e f = omega arith

ascending_at : (trace : List ℕ) (i : ℕ) (c : Carried) (p : ℕ) → Ascending (items_at trace i c p)
unfolding items_at
ascending_at trace i c p =
    ascending_append (value_item trace i c) (own_item i c.run p) (ascending_one (eqb c.due 1) (of_value trace i c.marker))
    (ascending_one (gives_own c.run p) (of_cycle i p))
    (λ x y m n. same_cycle x.cycle y.cycle i (only_of i (eqb c.due 1) (of_value trace i c.marker) x refl m)
    (only_of i (gives_own c.run p) (of_cycle i p) y refl n))

-- the items before a cycle are of cycles before it
pub of_earlier_cycles : (trace : List ℕ) (i : ℕ) (x : Item) → Among x (items_before trace i) → x.cycle < i
unfolding items_before
of_earlier_cycles trace zero x a = absurd a
of_earlier_cycles trace (suc i) x a =
    by_part (among_either x (items_before trace i) (items_at trace i (carried_into trace i) (pst trace i)) a) (of_earlier_cycles trace i x)
  where
    by_part : Among x (items_before trace i) ⊎ Among x (items_at trace i (carried_into trace i) (pst trace i))
        → (Among x (items_before trace i) → x.cycle < i) → x.cycle < suc i
    by_part (inl m) earlier = omega (arith, earlier m)
    by_part (inr m) earlier = omega (arith, of_its_cycle trace i (carried_into trace i) (pst trace i) x m)

-- and those of a cycle and the ones after it are of no earlier cycle
pub of_later_cycles : (trace : List ℕ) (n i : ℕ) (c : Carried) (x : Item) → Among x (items_from trace i c n) → i ≤ x.cycle
unfolding items_from
of_later_cycles trace zero i c x a = absurd a
of_later_cycles trace (suc n) i c x a =
    by_part (among_either x (items_at trace i c (pst trace i)) (items_from trace (i + 1) (after c (pst trace i)) n) a)
    (of_later_cycles trace n (i + 1) (after c (pst trace i)) x)
  where
    by_part : Among x (items_at trace i c (pst trace i)) ⊎ Among x (items_from trace (i + 1) (after c (pst trace i)) n)
        → (Among x (items_from trace (i + 1) (after c (pst trace i)) n) → i + 1 ≤ x.cycle) → i ≤ x.cycle
    by_part (inl m) later = omega (arith, of_its_cycle trace i c (pst trace i) x m)
    by_part (inr m) later = omega (arith, later m)

-- "the lines of the full listing whose cycle is FROM or later": the items before an entry are of earlier cycles, those from it on of its own or later ones
pub entry_parts_cycles : (trace : List ℕ) (i : ℕ) (x : Item)
    → (Among x (items_before trace i) → x.cycle < i) × (Among x (items_on trace (entry_at trace i)) → i ≤ x.cycle)
entry_parts_cycles trace i x = (of_earlier_cycles trace i x, of_later_cycles trace (length trace - i) i (carried_into trace i) x)

ascending_before : (trace : List ℕ) (i : ℕ) → Ascending (items_before trace i)
unfolding items_before
ascending_before trace zero = tt
ascending_before trace (suc i) =
    ascending_append (items_before trace i) (items_at trace i (carried_into trace i) (pst trace i)) (ascending_before trace i)
    (ascending_at trace i (carried_into trace i) (pst trace i))
    (λ x y m n. omega (arith, of_earlier_cycles trace i x m, of_its_cycle trace i (carried_into trace i) (pst trace i) y n))

-- ---- the first and the last of a code

-- some item of a code at a cycle
pub record Occurs (xs : List Item) (code cycle : ℕ) : Type 0 where
  pub item : Item
  pub among : Among item xs
  pub of_code : item.code ≡ code
  pub at_cycle : item.cycle ≡ cycle

later : {xs : List Item} {code cycle : ℕ} (x : Item) → Occurs xs code cycle → Occurs (x ∷ xs) code cycle
later x o = record { item = o.item; among = inr o.among; of_code = o.of_code; at_cycle = o.at_cycle }

occurs_counted : (xs : List Item) (code : ℕ) (x : Item) → Among x xs → x.code ≡ code → 0 < count_of xs code
unfolding count_of
occurs_counted [] code x a e = absurd a
occurs_counted (y ∷ ys) code x (inl f) e = rw (eq-eqb y.code code (sym (ap (λ (z : Item). z.code) f) ∙ e)) (omega arith)
occurs_counted (y ∷ ys) code x (inr a) e = omega (arith, occurs_counted ys code x a e)

pub first_occurs : (xs : List Item) (code : ℕ) → 0 < count_of xs code → Occurs xs code (first_of xs code)
unfolding count_of first_of
first_occurs [] code h = absurd (omega arith)
first_occurs (x ∷ xs) code h = by_code (eqb x.code code) refl h (first_occurs xs code)
  where
    by_code : (b : Bool) → eqb x.code code ≡ b → 0 < one b + count_of xs code → (0 < count_of xs code → Occurs xs code (first_of xs code))
        → Occurs (x ∷ xs) code (cond b x.cycle (first_of xs code))
    by_code true e h on = record { item = x; among = inl refl; of_code = eqb-true x.code code e; at_cycle = refl }
    by_code false e h on = later x (on (omega (arith, h)))

pub last_occurs : (xs : List Item) (code : ℕ) → 0 < count_of xs code → Occurs xs code (last_of xs code)
unfolding count_of last_of
last_occurs [] code h = absurd (omega arith)
last_occurs (x ∷ xs) code h = by_rest (eqb (count_of xs code) 0) (eqb x.code code) refl refl h (last_occurs xs code)
  where
    by_rest : (n b : Bool) → eqb (count_of xs code) 0 ≡ n → eqb x.code code ≡ b → 0 < one b + count_of xs code
        → (0 < count_of xs code → Occurs xs code (last_of xs code))
        → Occurs (x ∷ xs) code (cond n (cond b x.cycle 0) (last_of xs code))
    by_rest true true z e h on = record { item = x; among = inl refl; of_code = eqb-true x.code code e; at_cycle = refl }
    by_rest true false z e h on = absurd (omega (arith, h, eqb-true (count_of xs code) 0 z))
    by_rest false b z e h on = later x (on (omega (arith, eqb-false (count_of xs code) 0 z)))

least : (xs : List Item) (code : ℕ) → Ascending xs → (x : Item) → Among x xs → x.code ≡ code → first_of xs code ≤ x.cycle
unfolding first_of
least [] code s x a e = absurd a
least (y ∷ ys) code s x a e = by_code (eqb y.code code) refl a (λ m. least ys code s.1 x m e)
  where
    by_code : (b : Bool) → eqb y.code code ≡ b → (x ≡ y) ⊎ Among x ys → (Among x ys → first_of ys code ≤ x.cycle)
        → cond b y.cycle (first_of ys code) ≤ x.cycle
    by_code true t (inl f) on = omega (arith, ap (λ (z : Item). z.cycle) f)
    by_code true t (inr m) on = s.0 x m
    by_code false t (inl f) on = absurd (eqb-false y.code code t (sym (ap (λ (z : Item). z.code) f) ∙ e))
    by_code false t (inr m) on = on m

greatest : (xs : List Item) (code : ℕ) → Ascending xs → (x : Item) → Among x xs → x.code ≡ code → x.cycle ≤ last_of xs code
unfolding last_of
greatest [] code s x a e = absurd a
greatest (y ∷ ys) code s x a e = by_rest (eqb (count_of ys code) 0) refl a (λ m. greatest ys code s.1 x m e)
  where
    own : x ≡ y → eqb y.code code ≡ true
    own f = eq-eqb y.code code (sym (ap (λ (z : Item). z.code) f) ∙ e)

    by_rest : (n : Bool) → eqb (count_of ys code) 0 ≡ n → (x ≡ y) ⊎ Among x ys → (Among x ys → x.cycle ≤ last_of ys code)
        → x.cycle ≤ cond n (cond (eqb y.code code) y.cycle 0) (last_of ys code)
    by_rest true z (inl f) on = rw (own f) (omega (arith, ap (λ (w : Item). w.cycle) f))
    by_rest true z (inr m) on = absurd (omega (arith, occurs_counted ys code x m e, eqb-true (count_of ys code) 0 z))
    by_rest false z (inl f) on =
        let o = last_occurs ys code (omega (arith, eqb-false (count_of ys code) 0 z)) in
        omega (arith, ap (λ (w : Item). w.cycle) f, s.0 o.item o.among, o.at_cycle)
    by_rest false z (inr m) on = on m

-- THE LAW: among the items of a code that occurs, the first is of the least cycle and the last of the greatest
pub record FirstAndLast (xs : List Item) (code first last : ℕ) : Type 0 where
  pub first_is_one : Occurs xs code first
  pub last_is_one : Occurs xs code last
  pub first_least : (x : Item) → Among x xs → x.code ≡ code → first ≤ x.cycle
  pub last_greatest : (x : Item) → Among x xs → x.code ≡ code → x.cycle ≤ last

pub first_and_last : (trace : List ℕ) (code : ℕ) → 0 < count_of (items trace) code
    → FirstAndLast (items trace) code (first_of (items trace) code) (last_of (items trace) code)
unfolding items
first_and_last trace code h =
    record {
      first_is_one = first_occurs (items trace) code h;
      last_is_one = last_occurs (items trace) code h;
      first_least = least (items trace) code (ascending_before trace (length trace));
      last_greatest = greatest (items trace) code (ascending_before trace (length trace));
    }
