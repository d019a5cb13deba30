-- Laws of tests: what holds in both cases, two tests that both hold or both fail, a test that holds where another does, and being below.
use Rattle.std.specs.Prelude.{ℕ, suc, ◌≡◌, refl, Bool, true, false, cond, ◌&&◌, ◌||◌, ltb}
use Rattle.std.proofs.Common.{sym, arith, lt-ltb, ltb-true}
use Rattle.std.proofs.Math.Bool.{or-true}

-- by cases of a test
pub by_test : {A : Type 0} (t : Bool) → (t ≡ true → A) → (t ≡ false → A) → A
by_test true f g = f refl
by_test false f g = g refl

-- what holds of both choices, each where its test led there, holds of the choice
pub either : {A : Type 0} (P : A → Type 0) (t : Bool) (x y : A) → (t ≡ true → P x) → (t ≡ false → P y) → P (cond t x y)
either P true x y f g = f refl
either P false x y f g = g refl

pub both_hold : (x y : Bool) → (x && y) ≡ true → (x ≡ true) × (y ≡ true)
both_hold true y h = (refl, h)
both_hold false y h = (h, cc)

pub neither : (x y : Bool) → (x || y) ≡ false → (x ≡ false) × (y ≡ false)
neither true y e = (cc, cc)
neither false y e = (refl, e)

pub and_holds : (x y : Bool) → x ≡ true → y ≡ true → (x && y) ≡ true
and_holds x y p q = rw (p, q)

pub or_grows : (a b x y : Bool) → (a ≡ true → b ≡ true) → (x ≡ true → y ≡ true) → (a || x) ≡ true → (b || y) ≡ true
or_grows true b x y to from holds = rw (to refl)
or_grows false b x y to from holds = rw (from holds, or-true b)

pub same_truth : (x y : Bool) → (x ≡ true → y ≡ true) → (y ≡ true → x ≡ true) → x ≡ y
same_truth true y to from = sym (to refl)
same_truth false true to from = from refl
same_truth false false to from = refl

-- what is no i is below the next number where it is below i
pub below_next : (j i : ℕ) → (j ≡ i → ⊥) → ltb j i ≡ ltb j (suc i)
below_next j i other = same_truth (ltb j i) (ltb j (suc i)) on back
  where
    on : ltb j i ≡ true → ltb j (suc i) ≡ true
    on t = lt-ltb j (suc i) (omega (arith, ltb-true j i t))

    back : ltb j (suc i) ≡ true → ltb j i ≡ true
    back t = lt-ltb j i (omega (arith, ltb-true j (suc i) t))
