-- Laws of items noted one after the other: one item more, one cycle more, and the numbers stay small.
use Rattle.std.specs.Prelude.{◌≡◌, refl, ℕ, ◌+◌, ◌*◌, ◌≤◌, ◌<◌, Bool, true, false, cond, List, [], ◌∷◌, ◌++◌, eqb, length, get_or, set, replicate}
use Rattle.std.proofs.Common.{ap, sym, ◌∙◌, append_assoc, append-nil, add-zero, arith, length-append, eq-eqb, ne_eqb, eqb-true}
use Rattle.cycle.specs.declared.Carried.{Carried}
use Rattle.cycle.specs.declared.Item.{Item}
use Rattle.summary.specs.declared.noting.Noted.{Noted}
use Rattle.cycle.specs.Cycle.{pst, carried_into}
use Rattle.cycle.specs.CycleItems.{of_value, value_item, own_item, items_at}
use Rattle.cycle.specs.CycleCountLaws.{at_most_one}
use Rattle.trace.specs.Items.{items_before}
use Rattle.trace.specs.ItemLaws.{items_more, items_before_le}
use Rattle.tally.specs.Tally.{one, count_of, first_of, last_of, starts_of, each, per_code}
use Rattle.tally.proofs.TallyLaws.{of_code, row_set, count_snoc, first_snoc, last_snoc, no_first, count_le_length}
use Rattle.tally.proofs.StartsLaws.{starts_are_four}
use Rattle.summary.specs.TallyMirror.{Notes, Tallied, with_item}

first_or_none : (xs : List Item) (code : ℕ) (b : Bool) → eqb (count_of xs code) 0 ≡ b → cond b 0 (first_of xs code) ≡ first_of xs code
first_or_none xs code true e = sym (no_first xs code (eqb-true (count_of xs code) 0 e))
first_or_none xs code false e = refl

-- noting an item makes the tally of the items before that of this too
pub noted : (xs : List Item) (x : Item) (n : Noted) → x.code < 16 → Tallied xs n → Tallied (xs ++ (x ∷ [])) (with_item n x.code x.cycle)
noted xs x n h t =
    record {
      count = rw (t.count, of_code (count_of xs) k h)
          (ap (set (per_code (count_of xs)) k) (sym (count_snoc xs x k ∙ one_more))
          ∙ row_set (count_of xs) (count_of ys) k h (λ other d. count_snoc xs x other ∙ none_more other d));
      first = rw (t.count, t.first, of_code (count_of xs) k h, of_code (first_of xs) k h)
          (ap (set (per_code (first_of xs)) k) (sym (first_snoc xs x k ∙ its_first))
          ∙ row_set (first_of xs) (first_of ys) k h (λ other d. first_snoc xs x other ∙ same_first other d));
      last = rw t.last (ap (set (per_code (last_of xs)) k) (sym (last_snoc xs x k ∙ its_last))
          ∙ row_set (last_of xs) (last_of ys) k h (λ other d. last_snoc xs x other ∙ same_last other d));
    }
  where
    k : ℕ
    k = x.code

    ys : List Item
    ys = xs ++ (x ∷ [])

    own : eqb k k ≡ true
    own = eq-eqb k k refl

    foreign : (other : ℕ) → (other ≡ k → ⊥) → eqb k other ≡ false
    foreign other d = ne_eqb k other (λ e. d (sym e))

    one_more : count_of xs k + one (eqb k k) ≡ count_of xs k + 1
    one_more = rw own

    none_more : (other : ℕ) → (other ≡ k → ⊥) → count_of xs other + one (eqb k other) ≡ count_of xs other
    none_more other d = rw (foreign other d) (add-zero (count_of xs other))

    its_first : cond (eqb (count_of xs k) 0) (cond (eqb k k) x.cycle 0) (first_of xs k) ≡ cond (eqb (count_of xs k) 0) x.cycle (first_of xs k)
    its_first = rw own

    same_first : (other : ℕ) → (other ≡ k → ⊥) → cond (eqb (count_of xs other) 0) (cond (eqb k other) x.cycle 0) (first_of xs other) ≡ first_of xs other
    same_first other d = rw (foreign other d) (first_or_none xs other (eqb (count_of xs other) 0) refl)

    its_last : cond (eqb k k) x.cycle (last_of xs k) ≡ x.cycle
    its_last = rw own

    same_last : (other : ℕ) → (other ≡ k → ⊥) → cond (eqb k other) x.cycle (last_of xs other) ≡ last_of xs other
    same_last other d = rw (foreign other d)

-- what the three stores of an item's numbers come to
pub note_one : (x : Item) {t t' : Noted} → x.code < 16 → t' ≡ with_item t x.code x.cycle → Notes (x ∷ []) t t'
note_one x {t} h e before told = rw e (noted before x t h told)

pub note_none : {t : Noted} → Notes [] t t
note_none before t = rw (append-nil before) t

pub nothing_noted : Tallied [] (record { counts = replicate 16 0; firsts = replicate 16 0; lasts = replicate 16 0 })
unfolding each count_of first_of last_of
nothing_noted = record { count = refl; first = refl; last = refl }

-- a cycle's value, then its own item: the items of one cycle more
pub cycle_noted : (trace : List ℕ) (i : ℕ) (c : Carried) {n : Noted} → c ≡ carried_into trace i
    → Tallied ((items_before trace i ++ value_item trace i c) ++ own_item i c.run (pst trace i)) n
    → Tallied (items_before trace (i + 1)) n
unfolding items_at
cycle_noted trace i c e t = rw (items_more trace i c e, ← append_assoc (items_before trace i) (value_item trace i c) (own_item i c.run (pst trace i))) t

pub items_with_value : (trace : List ℕ) (i : ℕ) (c : Carried) → length (items_before trace i ++ value_item trace i c) ≤ 2 * i + 1
items_with_value trace i c =
    omega (
      arith,
      length-append (items_before trace i) (value_item trace i c),
      items_before_le trace i,
      at_most_one (eqb c.due 1) (of_value trace i c.marker),
    )

-- a tally of so few items has room for one more
pub room_for_one : (xs : List Item) {n : Noted} (code : ℕ) → code < 16 → length xs ≤ 131072 → Tallied xs n → get_or n.counts code 0 < 4294967295
room_for_one xs code h k t = rw (t.count, of_code (count_of xs) code h) (omega (arith, count_le_length xs code))

-- the starts are the numbers of four codes
pub starts_tallied : (xs : List Item) {counts : List ℕ} → counts ≡ per_code (count_of xs)
    → get_or counts 1 0 + get_or counts 4 0 + get_or counts 5 0 + get_or counts 7 0 ≡ starts_of xs
starts_tallied xs e =
    rw (e, starts_are_four xs)
    (omega (
      arith,
      of_code (count_of xs) 1 (omega arith),
      of_code (count_of xs) 4 (omega arith),
      of_code (count_of xs) 5 (omega arith),
      of_code (count_of xs) 7
          (omega arith),
    ))
