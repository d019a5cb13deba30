use mathlib.Core.Path.{ap, ◌∙◌}
use Rattle.yarkovesh.specs.Exported.{listing_number}
use Rattle.yarkovesh.proofs.yarkovesh_list.Goals as goal

pub returns : goal.returns
returns c = let list-trace = c.list_trace-listed.ensures in record { answer = c.listing_number.ensures ∙ ap listing_number list-trace.answer; words = list-trace.words }
