-- Laws of the ranges of what a cycle finds under way.
use Rattle.std.specs.Prelude.{ℕ, zero, suc, ◌-◌, ◌≤◌, ◌<◌, ◌≡◌, Bool, true, false, cond, List, ltb}
use Rattle.std.proofs.Common.{arith, ltb-true}
use Rattle.laws.specs.TestLaws.{either}
use Rattle.cycle.specs.Cycle.{pst, marker, nibbles, after, carried_into}
use Rattle.index.specs.Index.{Bytes}

-- a marker is 11 at most
marker_le : (p : ℕ) → marker p ≡ true → p ≤ 11
marker_le p =
    either (λ (b : Bool). b ≡ true → p ≤ 11) (ltb p 8) false (ltb p 12) (λ t e. let z : ◌≡◌ {A = ℕ} 0 1 = cc in absurd (omega arith))
    (λ t e. omega (arith, ltb-true p 12 e))

pub marker_at_most : (trace : List ℕ) (i : ℕ) → (carried_into trace i).marker ≤ 11
unfolding carried_into after
marker_at_most trace zero = omega arith
marker_at_most trace (suc i) =
    either (λ (m : ℕ). m ≤ 11) (marker (pst trace i)) (pst trace i) (carried_into trace i).marker (λ t. marker_le (pst trace i) t) (λ t. marker_at_most trace i)

-- a transfer has 8 nibbles at most
pub due_at_most : (trace : List ℕ) (i : ℕ) → (carried_into trace i).due ≤ 8
unfolding carried_into after
due_at_most trace zero = omega arith
due_at_most trace (suc i) =
    either (λ (d : ℕ). d ≤ 8) (marker (pst trace i)) (nibbles (pst trace i)) ((carried_into trace i).due - 1) (λ t. omega arith)
    (λ t. omega (arith, due_at_most trace i))

-- a run has a PST for its code: of a trace of bytes it is below 16
pub run_below : (trace : List ℕ) → Bytes trace → (i : ℕ) → (carried_into trace i).run < 16
unfolding carried_into after
run_below trace bytes zero = omega arith
run_below trace bytes (suc i) =
    either Small (marker p) (carried_into trace i).run (cond (ltb p 12) 0 p) (λ t. run_below trace bytes i)
    (λ t. either Small (ltb p 12) 0 p (λ u. omega arith) (λ u. omega (arith, bytes i)))
  where
    p : ℕ
    p = pst trace i

    Small : ℕ → Type 0
    Small run = run < 16
