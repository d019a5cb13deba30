-- The desk's language, `gateway`: the lines that it writes, a packet's as it is sent, and when the visit is over what was read, or that nothing was.
use Rattle.std.specs.Prelude.{ℕ, zero, suc, List, [], ◌∷◌, ◌++◌, None, Option, Some}
use Rattle.readings.specs.declared.Outcome.{Outcome}
use Rattle.console.specs.LineWriting.{line_end}
use Rattle.visit.specs.declared.Visit.{Visit}
use Rattle.visit.specs.declared.Next.{Next}
use Rattle.visit.specs.declared.Next.TheVariants.{Send, EndsAsRead, EndsNotRead}
use Rattle.visit.specs.Visit.{next_of}
use Rattle.visit.specs.HandedOver.{handed_over}
use Rattle.visit_text.specs.VisitText.{packet_text, result_text, read_text, not_read_text}

-- "It writes `packet X` lines": the packet that is sent now; a visit that is over sends none
abbrev pub packet_line_by : Next → List (List ℕ)
packet_line_by (Send word) = (packet_text word ++ line_end) ∷ []
packet_line_by EndsAsRead = []
packet_line_by (EndsNotRead packet reason) = []

abbrev pub packet_line : Visit → List (List ℕ)
packet_line v = packet_line_by (next_of v)

-- a line for a result that is handed over
abbrev pub result_line : ℕ → ℕ → Option Outcome → List (List ℕ)
result_line address j (Some outcome) = result_text address j outcome ∷ []
result_line address j None = []

-- those of so many results from the j-th on
abbrev pub result_lines : ℕ → ℕ → Visit → List ℕ → List (List ℕ)
result_lines zero j v notes = []
result_lines (suc left) j v notes = result_line v.address j (handed_over v notes j) ++ result_lines left (suc j) v notes

-- "`read packets 214`"
abbrev pub read_line : Visit → List ℕ
read_line v = read_text v.packets ++ line_end

-- "What it read goes to standard error when the visit is over": all results in turn; "or, alone, with nothing before it: `not-read packet N REASON`"
abbrev pub end_lines_by : Next → Visit → List ℕ → List (List ℕ)
end_lines_by (Send word) v notes = []
end_lines_by EndsAsRead v notes = result_lines v.ends 0 v notes ++ read_line v ∷ []
end_lines_by (EndsNotRead packet reason) v notes = (not_read_text packet reason ++ line_end) ∷ []

abbrev pub end_lines : Visit → List ℕ → List (List ℕ)
end_lines v notes = end_lines_by (next_of v) v notes
