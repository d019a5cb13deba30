use mathlib.Core.Path.{sym, ◌∙◌}
use Rattle.yarkovesh.proofs.yarkovesh_unmend.Goals as goal

pub returns-then-unmend_trace : goal.returns-then-unmend_trace
returns-then-unmend_trace c = let m = c.unmend_trace.ensures in record { answer = rw (sym m.answer ∙ c.if-unmend_trace.true); cycles = m.cycles }

pub returns : goal.returns
returns c = let m = c.unmend_trace.ensures in record { answer = rw (sym m.answer ∙ c.if-unmend_trace.false); cycles = m.cycles }
