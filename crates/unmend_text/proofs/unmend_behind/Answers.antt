use Rattle.unmend_text.specs.UnmendTextLaws.{behind_part, behind_meets}
use Rattle.unmend_text.proofs.unmend_behind.Goals as goal

pub returns : goal.returns
returns c = let a = c.args in
    behind_meets a.input.now a.from (rw (behind_part a.input.now a.from) at c.unmend_trace.ensures)
