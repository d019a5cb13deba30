-- No second answer fits a judgement: an answer is known by its number and values.
use Rattle.std.specs.Prelude.{◌≡◌, ℕ, Err, Ok, Result}
use Rattle.trace.specs.declared.Refused.{Refused}
use Rattle.std.proofs.Common.{arith}
use Rattle.grounds.specs.GroundLaws.{same_number_same_ground}
use Rattle.trace.specs.TraceReading.{told_listing}

-- two answers of one number and the same values are one
pub told_listing_unique : (r s : Result ℕ Refused) → told_listing r ≡ told_listing s → r ≡ s
told_listing_unique (Ok n) (Ok m) e = cc
told_listing_unique (Ok n) (Err r) e = let z : ◌≡◌ {A = ℕ} 0 1 = cc in absurd (omega arith)
told_listing_unique (Err r) (Ok m) e = let z : ◌≡◌ {A = ℕ} 0 1 = cc in absurd (omega arith)
told_listing_unique (Err r) (Err s) e =
    let same : r.why ≡ s.why = same_number_same_ground r.why s.why (cc) in
    let cycle : r.cycle ≡ s.cycle = cc in
    rw (same, cycle)
