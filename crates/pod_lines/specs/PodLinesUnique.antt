-- No second answer fits a line of `pod`, nor the taking of its numbers.
use Rattle.std.specs.Prelude.{ℕ, ◌≡◌, List, Result}
use Rattle.std.proofs.Common.{sym, ◌∙◌}
use Rattle.pod_lines.specs.declared.PodLine.{PodLine}
use Rattle.pod_lines.specs.declared.NotTaken.{NotTaken}
use Rattle.pod_lines.specs.Taking.{TakingMeets}
use Rattle.pod_lines.specs.PodLines.{Meaning, PodMeets}

pub taking_unique : {words : List (List ℕ)} {before : List ℕ} {r s : Result ℕ NotTaken} {after after' : List ℕ} → TakingMeets words before r after
    → TakingMeets words before s after' → (r ≡ s) × (after ≡ after')
taking_unique f g = (f.answer ∙ sym g.answer, f.buffer ∙ sym g.buffer)

pub pod_unique : {meaning : Meaning} {before : List ℕ} {r s : PodLine} {after after' : List ℕ} → PodMeets meaning before r after
    → PodMeets meaning before s after' → (r ≡ s) × (after ≡ after')
pod_unique f g = (f.answer ∙ sym g.answer, f.buffer ∙ sym g.buffer)
