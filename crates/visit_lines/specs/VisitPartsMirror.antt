-- The parts in which what a visit came to is written out: results until half of the text is used.
use Rattle.std.specs.Prelude.{ℕ, List, [], ◌∷◌, ◌++◌}
use Rattle.console.specs.LineWriting.{line_end}
use Rattle.console.specs.GatheringMirror.{parts}
use Rattle.visit.specs.declared.Visit.{Visit}
use Rattle.visit.specs.declared.Next.{Next}
use Rattle.visit.specs.declared.Next.TheVariants.{Send, EndsAsRead, EndsNotRead}
use Rattle.visit.specs.Visit.{next_of}
use Rattle.visit_text.specs.VisitText.{not_read_text}
use Rattle.visit_lines.specs.VisitLines.{result_lines, read_line}

abbrev pub read_parts : ℕ → Visit → List ℕ → List (List ℕ)
read_parts room v notes = parts room (result_lines v.ends 0 v notes ++ read_line v ∷ [])

abbrev pub end_parts_by : ℕ → Next → Visit → List ℕ → List (List ℕ)
end_parts_by room (Send word) v notes = []
end_parts_by room EndsAsRead v notes = read_parts room v notes
end_parts_by room (EndsNotRead packet reason) v notes = (not_read_text packet reason ++ line_end) ∷ []

abbrev pub end_parts : ℕ → Visit → List ℕ → List (List ℕ)
end_parts room v notes = end_parts_by room (next_of v) v notes
