-- Laws of the parts that the lister writes out: they are the lister's lines, none left out, none twice, and none of them is cut.
use Rattle.std.specs.Prelude.{ℕ, ◌/◌, ◌%◌, ◌≤◌, ◌≡◌, refl, List, [], ◌∷◌, ◌++◌, length}
use Rattle.std.proofs.Common.{ap, arith, length-append}
use Rattle.cycle.specs.declared.Item.{Item}
use Rattle.trace.specs.Items.{items, words}
use Rattle.trace.specs.TraceReading.{Told, refusal, counted, reading}
use Rattle.text.proofs.NumberTextLaws.{decimal_length}
use Rattle.trace_list.specs.ListerLines.{item_line, item_lines, refused_line, head_line, lines_by, whole_lines}
use Rattle.console.specs.GatheringLaws.{joined, parts_joined, EachWithin, parts_within}
use Rattle.trace_list.specs.ListerPartsMirror.{parts_by, whole_parts}

pub told_joined : (room cycles : ℕ) (xs : List Item) (told : Told) → joined (parts_by room cycles xs told) ≡ joined (lines_by cycles xs told)
told_joined room cycles xs (refusal number cycle) = refl
told_joined room cycles xs (counted n) = ap (λ (l : List ℕ). head_line cycles n ++ l) (parts_joined room [] (item_lines (words xs)))

-- THE LAW of a whole trace: what is written out is its lines
pub whole_joined : (room : ℕ) (trace : List ℕ) → joined (whole_parts room trace) ≡ joined (whole_lines trace)
whole_joined room trace = told_joined room (length trace) (items trace) (reading trace)

-- how long a line is
refused_length : (number cycle : ℕ) → length (refused_line number cycle) ≤ 64
refused_length number cycle = simp length-append (omega (arith, decimal_length number, decimal_length cycle))

head_length : (cycles count : ℕ) → length (head_line cycles count) ≤ 64
head_length cycles count = simp length-append (omega (arith, decimal_length cycles, decimal_length count))

item_length : (word value : ℕ) → length (item_line word value) ≤ 64
item_length word value =
    let code = decimal_length (word % 16) in
    simp length-append (omega (arith, decimal_length (word / 16), code, decimal_length value))

items_within : (most : ℕ) → 64 ≤ most → (ws : List ℕ) → EachWithin most (item_lines ws)
items_within most h [] = tt
items_within most h (word ∷ []) = tt
items_within most h (word ∷ value ∷ more) = (omega (arith, item_length word value), items_within most h more)

-- and each part has room in a text of 128 bytes or more; the lister lends 16,384
pub told_within : (room cycles : ℕ) (xs : List Item) (told : Told) → 128 ≤ room → EachWithin room (parts_by room cycles xs told)
told_within room cycles xs (refusal number cycle) h = (omega (arith, refused_length number cycle), tt)
told_within room cycles xs (counted n) h = (
  omega (arith, head_length cycles n),
  parts_within room [] (item_lines (words xs)) (omega arith) (items_within (room / 2) (omega arith) (words xs)),
)

pub whole_within : (room : ℕ) (trace : List ℕ) → 128 ≤ room → EachWithin room (whole_parts room trace)
whole_within room trace h = told_within room (length trace) (items trace) (reading trace) h
