-- Laws of the lines of `gateway`: the parts written out are its lines, and none of them is cut.
use Rattle.std.specs.Prelude.{ℕ, zero, suc, ◌+◌, ◌-◌, ◌/◌, ◌≤◌, ◌<◌, ◌≡◌, refl, List, [], ◌∷◌, ◌++◌, ltb, length, get_or, None, Option, Some}
use Rattle.std.proofs.Common.{arith, add-one, length-append}
use Rattle.laws.specs.TestLaws.{either}
use Rattle.control.specs.Control.{control_numbers}
use Rattle.asked.specs.VisitRequests.{address_at}
use Rattle.readings.specs.declared.Outcome.{Outcome}
use Rattle.readings.specs.declared.Outcome.TheVariants.{Value, Complete, BusError, Illegal}
use Rattle.text.specs.Text.{ascii}
use Rattle.text.specs.NumberText.{hex_text}
use Rattle.text.proofs.NumberTextLaws.{digits_length, decimal_length}
use Rattle.console.specs.LineWriting.{line_end}
use Rattle.console.specs.GatheringLaws.{joined, parts_joined, EachWithin, parts_within}
use Rattle.visit.specs.declared.Reason.{Reason}
use Rattle.visit.specs.declared.Reason.TheVariants.{Late, NotReady, NoReply, WordTooLarge, ImpossibleReply}
use Rattle.visit_text.specs.VisitText.{register_text, control_text, table_text, subject_text, value_text, result_text, reason_text, not_read_text}
use Rattle.visit.specs.declared.Visit.{Visit}
use Rattle.visit.specs.declared.Next.{Next}
use Rattle.visit.specs.declared.Next.TheVariants.{Send, EndsAsRead, EndsNotRead}
use Rattle.visit.specs.Visit.{next_of}
use Rattle.visit.specs.HandedOver.{handed_over}
use Rattle.visit_lines.specs.VisitLines.{packet_line_by, packet_line, result_line, result_lines, read_line, end_lines_by, end_lines}
use Rattle.visit_lines.specs.VisitPartsMirror.{end_parts_by, end_parts}

-- what is written out when a visit is over, one part behind the other, is its lines, one behind the other
pub end_joined : (room : ℕ) (v : Visit) (notes : List ℕ) → joined (end_parts room v notes) ≡ joined (end_lines v notes)
end_joined room v notes = by_next (next_of v)
  where
    by_next : (next : Next) → joined (end_parts_by room next v notes) ≡ joined (end_lines_by next v notes)
    by_next (Send word) = refl
    by_next EndsAsRead = parts_joined room [] (result_lines v.ends 0 v notes ++ read_line v ∷ [])
    by_next (EndsNotRead packet reason) = refl

-- ---- how long a line is
register_length : (j : ℕ) → length (register_text j) ≤ 11
register_length j =
    either (λ (l : List ℕ). length l ≤ 11) (ltb j 8) (ascii "register d" ++ hex_text 1 j) (ascii "register a" ++ hex_text 1 (j - 8))
    (λ t. simp length-append (omega (arith, digits_length 16 1 j))) (λ t. simp length-append (omega (arith, digits_length 16 1 (j - 8))))

control_length : (number : ℕ) → length (control_text number) ≤ 11
control_length number = simp length-append (omega (arith, digits_length 16 3 number))

table_length : (place : ℕ) → length (table_text place) ≤ 14
table_length place = simp length-append (omega (arith, digits_length 16 8 place))

subject_length : (address j : ℕ) → length (subject_text address j) ≤ 14
subject_length address j =
    either Short (ltb j 16) _ _ (λ t. omega (arith, register_length j))
    (λ t.
    either Short (ltb j 26) _ _ (λ u. omega (arith, control_length (get_or control_numbers (j - 16) 0)))
    (λ u. either Short (ltb j 27) _ _ (λ v. omega arith) (λ v. table_length (address_at address (j - 27)))))
  where
    Short : List ℕ → Type 0
    Short l = length l ≤ 14

value_length : (outcome : Outcome) → length (value_text outcome) ≤ 9
value_length (Value value) = omega (arith, digits_length 16 8 value)
value_length Complete = omega arith
value_length BusError = omega arith
value_length Illegal = omega arith

result_length : (address j : ℕ) (outcome : Outcome) → length (result_text address j outcome) ≤ 64
result_length address j outcome = simp length-append (omega (arith, subject_length address j, value_length outcome))

read_length : (v : Visit) → length (read_line v) ≤ 64
read_length v = simp length-append (omega (arith, decimal_length v.packets))

reason_length : (reason : Reason) → length (reason_text reason) ≤ 9
reason_length Late = omega arith
reason_length NotReady = omega arith
reason_length NoReply = omega arith
reason_length WordTooLarge = omega arith
reason_length ImpossibleReply = omega arith

not_read_length : (packet : ℕ) (reason : Reason) → length (not_read_text packet reason ++ line_end) ≤ 64
not_read_length packet reason = simp length-append (omega (arith, decimal_length packet, reason_length reason))

results_within : (most : ℕ) → 64 ≤ most → (left j : ℕ) (v : Visit) (notes : List ℕ) → EachWithin most (result_lines left j v notes ++ read_line v ∷ [])
results_within most h zero j v notes = (omega (arith, read_length v), tt)
results_within most h (suc left) j v notes = by_handed (handed_over v notes j) (results_within most h left (suc j) v notes)
  where
    by_handed : (handed : Option Outcome) → EachWithin most (result_lines left (suc j) v notes ++ read_line v ∷ [])
        → EachWithin most ((result_line v.address j handed ++ result_lines left (suc j) v notes) ++ read_line v ∷ [])
    by_handed (Some outcome) more = (omega (arith, result_length v.address j outcome), more)
    by_handed None more = more

-- and each part has room in a text of 128 bytes or more; the program lends 65,536
pub end_within : (room : ℕ) (v : Visit) (notes : List ℕ) → 128 ≤ room → EachWithin room (end_parts room v notes)
end_within room v notes h = by_next (next_of v)
  where
    by_next : (next : Next) → EachWithin room (end_parts_by room next v notes)
    by_next (Send word) = tt
    by_next EndsAsRead =
        parts_within room [] (result_lines v.ends 0 v notes ++ read_line v ∷ []) (omega arith) (results_within (room / 2) (omega arith) v.ends 0 v notes)
    by_next (EndsNotRead packet reason) = (omega (arith, not_read_length packet reason), tt)

-- so has a packet's line
pub packet_within : (room : ℕ) (v : Visit) → 128 ≤ room → EachWithin room (packet_line v)
packet_within room v h = by_next (next_of v)
  where
    by_next : (next : Next) → EachWithin room (packet_line_by next)
    by_next (Send word) = (simp length-append (omega (arith, digits_length 16 5 word)), tt)
    by_next EndsAsRead = tt
    by_next (EndsNotRead packet reason) = tt

-- ---- the results from one of them on
pub results_on : (v : Visit) (notes : List ℕ) (j : ℕ) → j < v.ends
    → result_lines (v.ends - j) j v notes ≡ result_line v.address j (handed_over v notes j) ++ result_lines (v.ends - (j + 1)) (j + 1) v notes
results_on v notes j less =
    let on : v.ends - j ≡ suc (v.ends - (j + 1)) = omega arith in
    rw (on, ← add-one j)
