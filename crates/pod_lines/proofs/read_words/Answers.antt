use Rattle.pod_lines.specs.PodLineLaws.{as_meant, says_unclear, says_build}
use Rattle.pod_lines.specs.PodLines.{pod_words}
use Rattle.pod_lines.proofs.read_words.Goals as goal

pub returns-in_default : goal.returns-in_default
unfolding pod_words
returns-in_default c = as_meant (rw c.in_default.ensures.steps.0) (says_unclear _)

pub returns-in-Some-read_request : goal.returns-in-Some-read_request
unfolding pod_words
returns-in-Some-read_request c = let first = c.in-Some.ensures.steps.first in
    as_meant (rw (first, c.in-Some.ensures.steps.line, ← c.is_same.ensures, c.if-is_same.true, ← c.read_request.ensures, c.in-Some-read_request.is)) (says_build _ _)

pub returns-in-None : goal.returns-in-None
unfolding pod_words
returns-in-None c = let first = c.in-Some.ensures.steps.first in
    as_meant (rw (first, c.in-Some.ensures.steps.line, ← c.is_same.ensures, c.if-is_same.true, ← c.read_request.ensures, c.in-None.is)) (says_unclear _)

pub returns-then-is_same-2 : goal.returns-then-is_same-2
unfolding pod_words
returns-then-is_same-2 c = let first = c.in-Some.ensures.steps.first in
    as_meant (rw (first, ← c.is_same.ensures, c.if-is_same.false, ← c.is_same-else-is_same.ensures, c.if-is_same-2.true)) c.read_read.ensures

pub returns-else-is_same-2 : goal.returns-else-is_same-2
unfolding pod_words
returns-else-is_same-2 c = let first = c.in-Some.ensures.steps.first in
    as_meant (rw (first, ← c.is_same.ensures, c.if-is_same.false, ← c.is_same-else-is_same.ensures, c.if-is_same-2.false)) (says_unclear _)
