-- Building: no second answer and no second buffer fits.
use Rattle.std.specs.Prelude.{ℕ, ◌≡◌, List, Err, Ok, Result}
use Rattle.grounds.specs.declared.Ground.{Ground}
use Rattle.std.proofs.Common.{ap, sym, ◌∙◌}
use Rattle.grounds.specs.GroundLaws.{same_number_same_ground, number_is_not_zero}
use Rattle.requests.specs.declared.Request.{Request}
use Rattle.building.specs.Building.{BuiltOnPaper, told_built, BuildingMeets}

-- an answer is known by what it says on paper
pub told_built_unique : (r s : Result ℕ Ground) → told_built r ≡ told_built s → r ≡ s
told_built_unique (Ok m) (Ok n) e = ap Ok (ap (λ (p : BuiltOnPaper). p.count) e)
told_built_unique (Ok m) (Err h) e = absurd (number_is_not_zero h (sym (ap (λ (p : BuiltOnPaper). p.refusal.number) e)))
told_built_unique (Err g) (Ok n) e = absurd (number_is_not_zero g (ap (λ (p : BuiltOnPaper). p.refusal.number) e))
told_built_unique (Err g) (Err h) e = ap Err (same_number_same_ground g h (ap (λ (p : BuiltOnPaper). p.refusal.number) e))

-- no second answer and no second buffer fits
pub building_unique : {request : Request} {before : List ℕ} {r s : Result ℕ Ground} {after after' : List ℕ} → BuildingMeets request before r after
    → BuildingMeets request before s after'
    → (r ≡ s) × (after ≡ after')
building_unique {request} {before} {r} {s} f g = (told_built_unique r s (f.answer ∙ sym g.answer), f.buffer ∙ sym g.buffer)
