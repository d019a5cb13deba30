-- Laws of `pod`: what each meaning asks of an answer.
use Rattle.std.specs.Prelude.{ℕ, ◌≡◌, refl, List, Result}
use Rattle.std.proofs.Common.{ap, sym, ◌∙◌}
use Rattle.requests.specs.declared.Request.{Request}
use Rattle.pod_lines.specs.declared.NotTaken.{NotTaken}
use Rattle.pod_lines.specs.Taking.{TakingMeets}
use Rattle.pod_lines.specs.declared.PodLine.{PodLine}
use Rattle.pod_lines.specs.declared.PodLine.TheVariants.{Nothing, Build, Unclear}
use Rattle.pod_lines.specs.PodLines.{Meaning, nothing, builds, reads, unclear, read_answer, PodMeets}

pub as_meant : {meaning meaning' : Meaning} {before after : List ℕ} {r : PodLine} → meaning ≡ meaning' → PodMeets meaning' before r after
    → PodMeets meaning before r after
as_meant e p = rw e p

pub says_nothing : (before : List ℕ) → PodMeets nothing before Nothing before
says_nothing before = record { answer = refl; buffer = refl }

pub says_unclear : (before : List ℕ) → PodMeets unclear before Unclear before
says_unclear before = record { answer = refl; buffer = refl }

pub says_build : (request : Request) (before : List ℕ) → PodMeets (builds request) before (Build request) before
says_build request before = record { answer = refl; buffer = refl }

pub says_read : (request : Request) {replies : List (List ℕ)} {before after : List ℕ} {t t' : Result ℕ NotTaken} → TakingMeets replies before t after → t ≡ t'
    → PodMeets (reads request replies) before (read_answer request t') after
says_read request p e = record { answer = ap (read_answer request) (sym e ∙ p.answer); buffer = p.buffer }
