-- How `gateway` puts together what it writes: a packet's line at a time in one buffer, and in another what the visit came to, in parts.
use Rattle.std.specs.Prelude.{ℕ, ◌≡◌, List, [], ◌∷◌, length, Err, None, Ok, Option, Result, Some}
use Rattle.grounds.specs.declared.Ground.{Ground}
use Rattle.readings.specs.declared.Outcome.{Outcome}
use Rattle.text.specs.Text.{Puts}
use Rattle.console.specs.LineWriting.{laid}
use Rattle.console.specs.GatheringMirror.{place_in}
use Rattle.visit.specs.declared.Visit.{Visit}
use Rattle.visit.specs.Visit.{start_of}
use Rattle.visit_text.specs.VisitText.{result_text}
use Rattle.visit_lines.specs.VisitPartsMirror.{end_parts}
use Rattle.gateway.specs.Gateway.{unclear_line, no_notes, ending, sent_of, sent_lines}

-- one more result's line, behind what is gathered
abbrev pub ResultMeets : ℕ → ℕ → Option Outcome → List ℕ → ℕ → List ℕ → ℕ → Type 0
ResultMeets address j (Some outcome) before at after end = Puts before (place_in (length before) at) (result_text address j outcome) after end
ResultMeets address j None before at after end = (after ≡ before) × (end ≡ at)

-- the parts of what is told
abbrev pub told_parts_by : ℕ → Result Visit Ground → List ℕ → List (List ℕ)
told_parts_by room (Ok v) brought = end_parts room (ending v no_notes brought).visit (ending v no_notes brought).notes
told_parts_by room (Err why) brought = unclear_line ∷ []

abbrev pub told_parts : ℕ → Option (ℕ × ℕ) → List ℕ → List (List ℕ)
told_parts room (Some (address, longwords)) brought = told_parts_by room (start_of address longwords (length no_notes)) brought
told_parts room None brought = unclear_line ∷ []

-- the promise of a visit, of some bytes, which reads have brought: its packets, each put over the one before it, and in the text what it came to, part by part
pub record HeldMeets (v : Visit) (notes packet text packetAfter textAfter : List ℕ) : Type 0 where
  pub brought : List ℕ
  pub sent : packetAfter ≡ laid packet (sent_of v notes brought)
  pub told : textAfter ≡ laid text (end_parts (length text) (ending v notes brought).visit (ending v notes brought).notes)

-- .. and of the program
pub record GatewayMeets (asked : Option (ℕ × ℕ)) (packet text packetAfter textAfter : List ℕ) : Type 0 where
  pub brought : List ℕ
  pub sent : packetAfter ≡ laid packet (sent_lines asked brought)
  pub told : textAfter ≡ laid text (told_parts (length text) asked brought)
