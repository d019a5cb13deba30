use mathlib.Core.Path.{sym, ◌∙◌}
use Rattle.steps.specs.WalkStepLaws.{step_refused, step_read_lem}
use Rattle.steps.proofs.step_at.Goals as goal

pub returns-in-Err : goal.returns-in-Err
returns-in-Err c = sym (step_refused _ _ _ _ c.in-Err.is)

pub returns-in-Ok : goal.returns-in-Ok
returns-in-Ok c = c.find_item.ensures ∙ sym (step_read_lem _ _ c.in-Ok.field-0 c.in-Ok.is)
