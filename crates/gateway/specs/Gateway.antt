-- The desk's language, `gateway`: what it is asked, and all that it writes by what is asked and what comes in.
use Rattle.std.specs.Prelude.{ℕ, ◌+◌, ◌≡◌, cond, List, [], ◌∷◌, ◌++◌, eqb, ltb, length, replicate, Err, Ok, Result, None, Option, Some}
use Rattle.grounds.specs.declared.Ground.{Ground}
use Rattle.refusal_text.specs.RefusalText.{unclear_text}
use Rattle.console.specs.LineWriting.{line_end}
use Rattle.console.specs.InputLines.{lines_served}
use Rattle.numbers.specs.Numbers.{numeral}
use Rattle.asked.specs.VisitRequests.{registers_asked}
use Rattle.visit.specs.declared.Visit.{Visit}
use Rattle.visit.specs.Visit.{start_of}
use Rattle.visit_lines.specs.VisitLines.{packet_line, end_lines}
use Rattle.reply_lines.specs.ReplyLines.{table_of}
use Rattle.gateway.specs.Visiting.{Standing, standing, course, packet_lines}

-- ---- what is asked
-- "Arguments: none, or ADDRESS LONGWORDS": by how many words there are, the program's name among them, and the two behind it
abbrev pub asked_by : ℕ → List ℕ → List ℕ → Option (ℕ × ℕ)
asked_by count address longwords = cond (ltb count 2) (Some (0, 0)) (cond (eqb count 3) (table_of (numeral address) (numeral longwords)) None)

-- the promise: of some words it is what they ask
pub record AskedMeets (asked : Option (ℕ × ℕ)) : Type 0 where
  pub count : ℕ
  pub address : List ℕ
  pub longwords : List ℕ
  pub asks : asked ≡ asked_by count address longwords

-- ---- what is written
abbrev pub unclear_line : List ℕ
unclear_line = unclear_text ++ line_end

-- a place for each result of the largest table
abbrev pub no_notes : List ℕ
no_notes = replicate (registers_asked + 65536) 0

-- where the visit stands at the end, all bytes that came being these
abbrev pub ending : Visit → List ℕ → List ℕ → Standing
ending v notes brought = course (lines_served [] brought) (standing v notes)

-- "It writes `packet X` lines to standard output", the first before anything has come in
abbrev pub sent_of : Visit → List ℕ → List ℕ → List (List ℕ)
sent_of v notes brought = packet_line v ++ packet_lines (lines_served [] brought) (standing v notes)

abbrev pub sent_by : Result Visit Ground → List ℕ → List (List ℕ)
sent_by (Ok v) brought = sent_of v no_notes brought
sent_by (Err why) brought = []

abbrev pub sent_lines : Option (ℕ × ℕ) → List ℕ → List (List ℕ)
sent_lines (Some (address, longwords)) brought = sent_by (start_of address longwords (length no_notes)) brought
sent_lines None brought = []

-- "What it read goes to standard error when the visit is over"; what cannot be asked is `unclear`
abbrev pub told_by : Result Visit Ground → List ℕ → List (List ℕ)
told_by (Ok v) brought = end_lines (ending v no_notes brought).visit (ending v no_notes brought).notes
told_by (Err why) brought = unclear_line ∷ []

abbrev pub told_lines : Option (ℕ × ℕ) → List ℕ → List (List ℕ)
told_lines (Some (address, longwords)) brought = told_by (start_of address longwords (length no_notes)) brought
told_lines None brought = unclear_line ∷ []
