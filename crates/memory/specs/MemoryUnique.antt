-- The lowest address of an access that is not there: no second one fits.
use Rattle.std.specs.Prelude.{ℕ, ◌<◌, ◌≡◌, List, ltb}
use Rattle.std.proofs.Common.{arith, ltb-true, ltb-false}
use Rattle.laws.specs.TestLaws.{by_test}
use Rattle.memory.specs.declared.Size.{Size}
use Rattle.memory.specs.MemoryLaws.{LowestMissing}

below_none : {m : List ℕ} {s : Size} {a x y : ℕ} → LowestMissing m s a x → LowestMissing m s a y → x < y → ⊥
below_none {x = x} f g less = omega (arith, g.lower x f.from less, f.beyond)

pub lowest_missing_unique : {m : List ℕ} {s : Size} {a x y : ℕ} → LowestMissing m s a x → LowestMissing m s a y → x ≡ y
lowest_missing_unique {x = x} {y = y} f g =
    by_test (ltb x y) (λ t. absurd (below_none f g (ltb-true x y t)))
    (λ t. by_test (ltb y x) (λ u. absurd (below_none g f (ltb-true y x u))) (λ u. omega (arith, ltb-false x y t, ltb-false y x u)))
