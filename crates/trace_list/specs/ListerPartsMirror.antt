-- The parts in which the lister's lines are written out: the head by itself, then items until half of the text is used.
use Rattle.std.specs.Prelude.{ℕ, ◌*◌, ◌/◌, ◌≡◌, cond, List, [], ◌∷◌, ltb, length, get_or, take, replicate, Err, None, Ok, Option, Result}
use Rattle.trace.specs.declared.Refused.{Refused}
use Rattle.cycle.specs.declared.Item.{Item}
use Rattle.trace.specs.Items.{items, items_to_end, words}
use Rattle.trace.specs.TraceReading.{Told, refusal, counted, told_listing, reading}
use Rattle.listing.specs.Listing.{listing_from}
use Rattle.index.specs.declared.Entry.{Entry}
use Rattle.index.specs.Entry.{of_word}
use Rattle.index.specs.Index.{Bytes}
use Rattle.summary.specs.Page.{page_verdict, index_after}
use Rattle.console.specs.LineWriting.{laid}
use Rattle.console.specs.GatheringMirror.{parts}
use Rattle.trace_list.specs.declared.asked.Asked.{Asked}
use Rattle.trace_list.specs.declared.asked.Asked.TheVariants.{Whole, From, Unclear}
use Rattle.trace_list.specs.ListerLines.{item_lines, refused_line, head_line, unclear_line}

-- a start that was not refused
abbrev pub GoodStart : Result ℕ Refused → Type 0
GoodStart (Ok n) = Unit
GoodStart (Err r) = ⊥

-- the item that is handed out, if one is
abbrev pub item_in : Result (Option Item) Refused → Option Item
item_in (Ok item) = item
item_in (Err r) = None

-- a trace's, of some of its items
abbrev pub parts_by : ℕ → ℕ → List Item → Told → List (List ℕ)
parts_by room cycles xs (refusal number cycle) = refused_line number cycle ∷ []
parts_by room cycles xs (counted n) = head_line cycles n ∷ parts room (item_lines (words xs))

-- a whole trace's
abbrev pub whole_parts : ℕ → List ℕ → List (List ℕ)
whole_parts room trace = parts_by room (length trace) (items trace) (reading trace)

-- those from an entry of the index on, with room for so many words
abbrev pub entry_parts : ℕ → List ℕ → Entry → ℕ → List (List ℕ)
entry_parts room trace e space =
    parts_by room (length trace) (items_to_end trace e.cycle e.carried) (listing_from trace e.cycle e.carried space)

-- those from a cycle on, by the word that an index has for it
abbrev pub from_parts : ℕ → List ℕ → ℕ → List ℕ → ℕ → List (List ℕ)
from_parts room trace from index space =
    cond (ltb from (length trace))
    (cond (ltb (from / 256) (length index)) (entry_parts room trace (of_word from (get_or index (from / 256) 0)) space) (unclear_line ∷ []))
    (unclear_line ∷ [])

-- those from a cycle on, by the page's index: the whole trace is judged before
abbrev pub rest_parts_by : ℕ → List ℕ → ℕ → List ℕ → ℕ → Told → List (List ℕ)
rest_parts_by room trace from index space (refusal number cycle) = refused_line number cycle ∷ []
rest_parts_by room trace from index space (counted n) = from_parts room trace from index space

-- an index for 256 entries
abbrev pub no_index : List ℕ
no_index = replicate 256 0

abbrev pub rest_parts : ℕ → List ℕ → ℕ → ℕ → List (List ℕ)
rest_parts room trace from space =
    rest_parts_by room trace from (index_after trace no_index (page_verdict trace (length no_index))) space (page_verdict trace (length no_index))

-- what is shown of a trace: the lister lends 262,144 words, four a cycle
abbrev pub shown_parts : ℕ → List ℕ → Asked → List (List ℕ)
shown_parts room trace Whole = whole_parts room trace
shown_parts room trace (From from) = rest_parts room trace from 262144
shown_parts room trace Unclear = unclear_line ∷ []

-- the promise of the lister: of some trace, the bytes that reads have brought, the text is left as what is asked says
pub record ShownMeets (asked : Asked) (before after : List ℕ) : Type 0 where
  pub trace : List ℕ
  pub bytes : Bytes trace
  pub shown : after ≡ laid before (shown_parts (length before) trace asked)

-- those of a listing and of so many of the words that it left
abbrev pub listed_parts_by : ℕ → ℕ → List ℕ → Told → List (List ℕ)
listed_parts_by room cycles left (refusal number cycle) = refused_line number cycle ∷ []
listed_parts_by room cycles left (counted n) = head_line cycles n ∷ cond (ltb (length left / 2) n) [] (parts room (item_lines (take (2 * n) left)))

abbrev pub listed_parts : ℕ → ℕ → List ℕ → Result ℕ Refused → List (List ℕ)
listed_parts room cycles left listed = listed_parts_by room cycles left (told_listing listed)
