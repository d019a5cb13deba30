use mathlib.Core.Path.{ap, ◌∙◌}
use Rattle.yarkovesh.specs.Exported.{listing_number}
use Rattle.yarkovesh.proofs.yarkovesh_mend.Goals as goal

pub returns : goal.returns
returns c = let m = c.mend_trace-mended.ensures in record { answer = c.mending_number.ensures ∙ ap listing_number m.answer; cycles = m.cycles; list = m.list }
