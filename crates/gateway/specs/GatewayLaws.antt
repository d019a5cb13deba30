-- Laws of what `gateway` writes: a packet that was put stands, and the parts in which it tells what it read are its lines.
use Rattle.std.specs.Prelude.{ℕ, suc, ◌≤◌, ◌<◌, ◌≡◌, refl, List, [], ◌∷◌, ◌++◌, length, set, Err, None, Ok, Option, Result, Some}
use Rattle.grounds.specs.declared.Ground.{Ground}
use Rattle.readings.specs.declared.Outcome.{Outcome}
use Rattle.std.proofs.Common.{arith, ap, sym, ◌∙◌, set-set}
use Rattle.std.proofs.lemmas.List.Edits.{sets}
use Rattle.std.proofs.lemmas.List.{set_comm}
use Rattle.console.specs.LineWriting.{line_end, laid}
use Rattle.console.specs.LineWritingLaws.{laid_on}
use Rattle.console.specs.InputLines.{lines_served}
use Rattle.console.specs.GatheringLaws.{joined, EachWithin, Gathering, gathers_line}
use Rattle.visit.specs.declared.Visit.{Visit}
use Rattle.visit.specs.declared.Next.{Next}
use Rattle.visit.specs.declared.Next.TheVariants.{Send, EndsAsRead, EndsNotRead}
use Rattle.visit.specs.Visit.{next_of, start_of}
use Rattle.visit_text.specs.VisitText.{packet_text}
use Rattle.visit_lines.specs.VisitLines.{packet_line_by, packet_line, result_line}
use Rattle.visit_lines.specs.VisitPartsMirror.{end_parts}
use Rattle.visit_lines.specs.VisitLineLaws.{end_joined, end_within}
use Rattle.gateway.specs.Visiting.{Standing, standing, packet_lines, Shows, VisitMeets}
use Rattle.gateway.specs.Gateway.{no_notes, ending, told_by, told_lines}
use Rattle.gateway.specs.GatewayMirror.{ResultMeets, told_parts_by, told_parts, HeldMeets}

-- a text put again leaves the buffer as it is
set_before : (buffer : List ℕ) (i j byte : ℕ) (text : List ℕ) → i < j → set (sets buffer j text) i byte ≡ sets (set buffer i byte) j text
set_before buffer i j byte [] less = refl
set_before buffer i j byte (b ∷ text) less =
    set_before (set buffer j b) i (suc j) byte text (omega arith) ∙ rw (set_comm buffer j i b byte (λ e. omega (arith, e)))

put_again : (buffer : List ℕ) (at : ℕ) (text : List ℕ) → sets (sets buffer at text) at text ≡ sets buffer at text
put_again buffer at [] = refl
put_again buffer at (byte ∷ text) =
    rw (set_before (set buffer at byte) at (suc at) byte text (omega arith), set-set buffer at byte byte) (put_again (set buffer at byte) (suc at) text)

-- a packet that was put stands
pub put_shows : (v : Visit) (buffer : List ℕ) {packet : List ℕ} → packet ≡ laid buffer (packet_line v) → Shows v packet
put_shows v buffer e = rw e (by_next (next_of v))
  where
    by_next : (next : Next) → laid buffer (packet_line_by next) ≡ laid (laid buffer (packet_line_by next)) (packet_line_by next)
    by_next (Send word) = sym (put_again buffer 0 (packet_text word ++ line_end))
    by_next EndsAsRead = refl
    by_next (EndsNotRead packet reason) = refl

-- the packets, line by line, and then what the visit came to
pub held_visit : {v over : Visit} {notes left buffer first packet text after : List ℕ} → first ≡ laid buffer (packet_line v)
    → VisitMeets [] v notes first over left packet → after ≡ laid text (end_parts (length text) over left) → HeldMeets v notes buffer text packet after
held_visit {v} {over} {notes} {left} {buffer} {first} {packet} {text} start m last =
    record {
      brought = m.brought;
      sent = m.said ∙ rw start (sym (laid_on buffer (packet_line v) (packet_lines (lines_served [] m.brought) (standing v notes))));
      told = last ∙ ap (λ (s : Standing). laid text (end_parts (length text) s.visit s.notes)) m.leaves;
    }

-- the parts in which it is told, one behind the other, are the lines, one behind the other; and none of them is cut
pub told_joined : (room : ℕ) (asked : Option (ℕ × ℕ)) (brought : List ℕ) → joined (told_parts room asked brought) ≡ joined (told_lines asked brought)
told_joined room (Some (address, longwords)) brought = by_start (start_of address longwords (length no_notes))
  where
    by_start : (started : Result Visit Ground) → joined (told_parts_by room started brought) ≡ joined (told_by started brought)
    by_start (Ok v) = end_joined room (ending v no_notes brought).visit (ending v no_notes brought).notes
    by_start (Err why) = refl
told_joined room None brought = refl

pub told_within : (room : ℕ) (asked : Option (ℕ × ℕ)) (brought : List ℕ) → 128 ≤ room → EachWithin room (told_parts room asked brought)
told_within room (Some (address, longwords)) brought h = by_start (start_of address longwords (length no_notes))
  where
    by_start : (started : Result Visit Ground) → EachWithin room (told_parts_by room started brought)
    by_start (Ok v) = end_within room (ending v no_notes brought).visit (ending v no_notes brought).notes h
    by_start (Err why) = (omega arith, tt)
told_within room None brought h = (omega arith, tt)

-- a result's line is gathered, or none
pub gathers_result : {before text after : List ℕ} {all more : List (List ℕ)} {at end : ℕ} (address j : ℕ) (handed : Option Outcome)
    → Gathering before all text at (result_line address j handed ++ more) → ResultMeets address j handed text at after end
    → Gathering before all after end more
gathers_result address j (Some outcome) g p = gathers_line g p
gathers_result address j None g p = rw (p.0, p.1) g
