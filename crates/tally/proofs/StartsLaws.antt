-- Laws of the instruction starts: they are four of the counts.
use Rattle.std.specs.Prelude.{◌≡◌, refl, ℕ, zero, suc, ◌+◌, ◌≤◌, ◌<◌, false, List, [], ◌∷◌, eqb}
use Rattle.std.proofs.Common.{arith, ne_eqb}
use Rattle.cycle.specs.declared.Item.{Item}
use Rattle.tally.specs.Tally.{one, count_of, start, starts_of}

start_is_one : (code : ℕ) → one (start code) ≡ one (eqb code 1) + one (eqb code 4) + one (eqb code 5) + one (eqb code 7)
start_is_one zero = refl
start_is_one (suc zero) = refl
start_is_one (suc (suc zero)) = refl
start_is_one (suc (suc (suc zero))) = refl
start_is_one (suc (suc (suc (suc zero)))) = refl
start_is_one (suc (suc (suc (suc (suc zero))))) = refl
start_is_one (suc (suc (suc (suc (suc (suc zero)))))) = refl
start_is_one (suc (suc (suc (suc (suc (suc (suc zero))))))) = refl
start_is_one (suc (suc (suc (suc (suc (suc (suc (suc code)))))))) = beyond (suc (suc (suc (suc (suc (suc (suc (suc code)))))))) (omega arith)
  where
    beyond : (p : ℕ) → 8 ≤ p → one (start p) ≡ one (eqb p 1) + one (eqb p 4) + one (eqb p 5) + one (eqb p 7)
    beyond p h = rw (other 1 (omega arith), other 4 (omega arith), other 5 (omega arith), other 7 (omega arith))
      where
        other : (n : ℕ) → n < 8 → eqb p n ≡ false
        other n k = ne_eqb p n (λ e. omega (arith, e))

-- "instruction starts (codes 1, 4, 5, 7)" are the items of these four codes
pub starts_are_four : (xs : List Item) → starts_of xs ≡ count_of xs 1 + count_of xs 4 + count_of xs 5 + count_of xs 7
unfolding starts_of count_of
starts_are_four [] = refl
starts_are_four (x ∷ xs) = omega (arith, start_is_one x.code, starts_are_four xs)
