-- No second answer fits an unmending, and no second trace.
use Rattle.std.specs.Prelude.{◌≡◌, ℕ, Bool, List}
use Rattle.std.proofs.Common.{sym, ◌∙◌}
use Rattle.unmending.specs.Unmending.{UnmendingMeets}

pub unmending_unique : {trace words after after' : List ℕ} {r r' : Bool}
    → UnmendingMeets trace words r after → UnmendingMeets trace words r' after' → (r ≡ r') × (after ≡ after')
unmending_unique m m' = (m.answer ∙ sym m'.answer, m.cycles ∙ sym m'.cycles)
