-- What the lister says (the desk's language, `trace_list`): "a head, then the cycle, code and value of each item", a line each; or what it is refused for.
use Rattle.std.specs.Prelude.{ℕ, cond, List, [], ◌∷◌, ◌++◌, ltb, length}
use Rattle.cycle.specs.declared.Item.{Item}
use Rattle.cycle.specs.Cycle.{carried_into}
use Rattle.trace.specs.Items.{items, items_to_end, words}
use Rattle.trace.specs.TraceReading.{Told, refusal, counted, reading}
use Rattle.refusal_text.specs.RefusalText.{refused_by, unclear_text}
use Rattle.text.specs.ListingText.{head_text, words_of_item}
use Rattle.trace_list.specs.declared.asked.Asked.{Asked}
use Rattle.trace_list.specs.declared.asked.Asked.TheVariants.{Whole, From, Unclear}
use Rattle.console.specs.LineWriting.{line_end}

abbrev pub item_line : ℕ → ℕ → List ℕ
item_line word value = words_of_item word value ++ line_end

-- an item for each two words
abbrev pub item_lines : List ℕ → List (List ℕ)
item_lines [] = []
item_lines (word ∷ []) = []
item_lines (word ∷ value ∷ more) = item_line word value ∷ item_lines more

-- `refused N at C`
abbrev pub refused_line : ℕ → ℕ → List ℕ
refused_line number cycle = refused_by number cycle ++ line_end

abbrev pub head_line : ℕ → ℕ → List ℕ
head_line cycles count = head_text cycles count ++ line_end

abbrev pub unclear_line : List ℕ
unclear_line = unclear_text ++ line_end

-- of a trace of so many cycles and of some of its items, as they are judged
abbrev pub lines_by : ℕ → List Item → Told → List (List ℕ)
lines_by cycles xs (refusal number cycle) = refused_line number cycle ∷ []
lines_by cycles xs (counted n) = head_line cycles n ∷ item_lines (words xs)

-- the whole trace
abbrev pub whole_lines : List ℕ → List (List ℕ)
whole_lines trace = lines_by (length trace) (items trace) (reading trace)

-- "the lines of the full listing whose cycle is FROM or later, headed by `trace cycles=N items=M` with the M of these"
abbrev pub items_of : List ℕ → ℕ → List Item
items_of trace from = items_to_end trace from (carried_into trace from)

-- "FROM is a multiple of 256 below the number of cycles, or `unclear`": a trace that cannot be read is refused before
abbrev pub rest_by : List ℕ → ℕ → Told → List (List ℕ)
rest_by trace from (refusal number cycle) = refused_line number cycle ∷ []
rest_by trace from (counted n) =
    cond (ltb from (length trace)) (lines_by (length trace) (items_of trace from) (counted (length (items_of trace from)))) (unclear_line ∷ [])

abbrev pub rest_lines : List ℕ → ℕ → List (List ℕ)
rest_lines trace from = rest_by trace from (reading trace)

-- what is asked, of a trace
abbrev pub shown_lines : List ℕ → Asked → List (List ℕ)
shown_lines trace Whole = whole_lines trace
shown_lines trace (From from) = rest_lines trace from
shown_lines trace Unclear = unclear_line ∷ []
