-- No second answer fits a mending, and no second buffer.
use Rattle.std.specs.Prelude.{◌≡◌, ℕ, List, Err, Ok, Result}
use Rattle.grounds.specs.declared.Ground.{Ground}
use Rattle.std.proofs.Common.{ap, sym, ◌∙◌, arith}
use Rattle.grounds.specs.GroundLaws.{same_number_same_ground}
use Rattle.mending.specs.MendingAnswer.{told_mending, MendingMeets}

-- two answers of one number and the same values are one
pub told_mending_unique : (r s : Result ℕ Ground) → told_mending r ≡ told_mending s → r ≡ s
told_mending_unique (Ok n) (Ok m) e = cc
told_mending_unique (Ok n) (Err g) e = let z : ◌≡◌ {A = ℕ} 0 1 = cc in absurd (omega arith)
told_mending_unique (Err g) (Ok m) e = let z : ◌≡◌ {A = ℕ} 0 1 = cc in absurd (omega arith)
told_mending_unique (Err g) (Err h) e = ap Err (same_number_same_ground g h (cc))

pub mending_unique : {trace bytes words b b' w w' : List ℕ} {r r' : Result ℕ Ground}
    → MendingMeets trace bytes words r b w → MendingMeets trace bytes words r' b' w' → (r ≡ r') × (b ≡ b') × (w ≡ w')
mending_unique {r} {r'} m m' = (told_mending_unique r r' (m.answer ∙ sym m'.answer), m.cycles ∙ sym m'.cycles, m.list ∙ sym m'.list)
