-- Laws of how many items a cycle gives: a value's, and its own.
use Rattle.std.specs.Prelude.{◌≡◌, refl, ℕ, ◌+◌, ◌≤◌, Bool, true, false, cond, List, [], ◌∷◌, eqb, length}
use Rattle.std.proofs.Common.{arith, length-append}
use Rattle.cycle.specs.declared.Carried.{Carried}
use Rattle.cycle.specs.declared.Item.{Item}
use Rattle.cycle.specs.Cycle.{gives_own}
use Rattle.cycle.specs.CycleItems.{items_at}

-- one where the test holds
abbrev pub one : Bool → ℕ
one b = cond b 1 0

pub one_le : (b : Bool) → one b ≤ 1
one_le true = omega arith
one_le false = omega arith

pub at_most_one : (b : Bool) (x : Item) → length (cond b (x ∷ []) []) ≤ 1
at_most_one true x = omega arith
at_most_one false x = omega arith

one_length : (b : Bool) (x : Item) → length (cond b (x ∷ []) []) ≡ one b
one_length true x = refl
one_length false x = refl

-- two tests tell the number, whatever the nibbles are
pub items_counted : (trace : List ℕ) (i : ℕ) (c : Carried) (p : ℕ) → length (items_at trace i c p) ≡ one (eqb c.due 1) + one (gives_own c.run p)
unfolding items_at
items_counted trace i c p = simp (length-append, one_length) (omega arith)

-- two items a cycle at most
pub count_le : (trace : List ℕ) (i : ℕ) (c : Carried) (p : ℕ) → length (items_at trace i c p) ≤ 2
count_le trace i c p = omega (arith, items_counted trace i c p, one_le (eqb c.due 1), one_le (gives_own c.run p))
