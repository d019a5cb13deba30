-- What `gateway` says of a stand-in that it reads (docs/gateway.md): a line for each outcome in turn, and the number of packets.
use Rattle.std.specs.Prelude.{ℕ, suc, List, [], ◌∷◌, ◌++◌}
use Rattle.readings.specs.declared.Outcome.{Outcome}
use Rattle.board.specs.State.{State}
use Rattle.text.specs.Text.{ascii}
use Rattle.visit_text.specs.VisitText.{table_text, value_text, result_text}
use Rattle.visit_lines.specs.VisitLines.{end_lines}
use Rattle.joined.specs.VisitReads.{visited}

-- the lines of outcomes, the first of them result j
abbrev pub outcome_lines : ℕ → ℕ → List Outcome → List (List ℕ)
outcome_lines address j [] = []
outcome_lines address j (outcome ∷ more) = result_text address j outcome ∷ outcome_lines address (suc j) more

-- a longword's line: its own address, and what was read there
abbrev pub word_line : ℕ → Outcome → List ℕ
word_line place outcome = table_text place ++ ascii " " ++ value_text outcome ++ ascii "\n"

-- what is said when the visit is over
abbrev pub said_of : ℕ → ℕ → List ℕ → State → List (List ℕ)
said_of address longwords before s = end_lines (visited address longwords before s).visit (visited address longwords before s).notes
