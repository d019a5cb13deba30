-- Laws of the bytes lent: those that there are, put one by one, and where they have room.
use Rattle.std.specs.Prelude.{ℕ, zero, suc, ◌+◌, ◌-◌, ◌≤◌, ◌<◌, min, ◌≡◌, refl, true, false, List, [], ◌∷◌, ◌++◌, leb, length, set, take, drop, replicate}
use Rattle.std.proofs.Common.{ap, sym, ◌∙◌, add-one, arith, leb-true, leb-false, le-leb, drop_of_length-le, take_all}
use Rattle.std.proofs.lemmas.Bool.{lt-leb}
use Rattle.std.proofs.lemmas.List.Edits.{sets}
use Rattle.laws.specs.TestLaws.{by_test}
use Rattle.numbers.specs.Numbers.{byte_at}
use Rattle.lent.specs.Lent.{listed, zeros, fits}

-- the bytes lent, of those that there are, and the rest
pub lent_part : (lent n : ℕ) (m : List ℕ) → n ≡ min lent (length m) → (take n m ≡ take lent m) × (drop n m ≡ drop lent m)
lent_part lent n m e = by_test (leb lent (length m)) within beyond
  where
    within : leb lent (length m) ≡ true → (take n m ≡ take lent m) × (drop n m ≡ drop lent m)
    within h = let all : n ≡ lent = omega (arith, e, leb-true lent (length m) h) in (rw all, rw all)

    beyond : leb lent (length m) ≡ false → (take n m ≡ take lent m) × (drop n m ≡ drop lent m)
    beyond h =
        let more = leb-false lent (length m) h in
        let end : length m ≤ n = omega (arith, e, more) in
        let past : length m ≤ lent = omega (arith, more) in
        (take_all n m end ∙ sym (take_all lent m past), drop_of_length-le m end ∙ sym (drop_of_length-le m past))

-- one more of them is put
pub put_next : (f : ℕ → ℕ) (i : ℕ) (m : List ℕ) (to : ℕ) → set (sets m to (listed f i)) (to + i) (f i) ≡ sets m to (listed f (i + 1))
put_next f i m to = rw (add-one i) (put_suc f i m to)
  where
    put_suc : (f : ℕ → ℕ) (i : ℕ) (m : List ℕ) (to : ℕ) → set (sets m to (listed f i)) (to + i) (f i) ≡ sets m to (listed f (suc i))
    put_suc f zero m to = let here : to + 0 ≡ to = omega arith in rw here
    put_suc f (suc i) m to = let on : to + suc i ≡ suc to + i = omega arith in rw on (put_suc (λ k. f (suc k)) i (set m to (f 0)) (suc to))

pub byte_small : (line : List ℕ) (at : ℕ) → byte_at line at < 256
byte_small line at = omega arith

-- so many bytes from an address on are lent where the rest has room
pub fits_by : (address count lent : ℕ) → address ≤ lent → leb count (lent - address) ≡ fits address count lent
fits_by address count lent h =
    by_test
    (leb count (lent - address))
    (λ e. e ∙ sym (le-leb (address + count) lent (omega (arith, h, leb-true count (lent - address) e))))
    (λ e. e ∙ sym (lt-leb (address + count) lent (omega (arith, h, leb-false count (lent - address) e))))

sets_none : (k : ℕ) (vs : List ℕ) → sets [] k vs ≡ []
sets_none k [] = refl
sets_none k (v ∷ vs) = sets_none (suc k) vs

sets_behind : (x : ℕ) (m : List ℕ) (k : ℕ) (vs : List ℕ) → sets (x ∷ m) (suc k) vs ≡ x ∷ sets m k vs
sets_behind x m k [] = refl
sets_behind x m k (v ∷ vs) = sets_behind x (set m k v) (suc k) vs

-- so many places at the front filled with zeros, of those that there are
pub cleared : (k n : ℕ) (m : List ℕ) → k ≡ min n (length m) → replicate k 0 ++ drop k m ≡ sets m 0 (zeros n)
cleared zero zero m h = refl
cleared zero (suc n) [] h = sym (sets_none 1 (zeros n))
cleared zero (suc n) (x ∷ m) h = absurd (omega arith)
cleared (suc k) zero m h = absurd (omega arith)
cleared (suc k) (suc n) [] h = absurd (omega arith)
cleared (suc k) (suc n) (x ∷ m) h = ap (λ (l : List ℕ). 0 ∷ l) (cleared k n m (omega arith)) ∙ sym (sets_behind 0 m 0 (zeros n))
