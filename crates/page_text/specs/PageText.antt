-- The page as text (the desk's language, `page`): its head, its rate, a line for each code that occurs and one for each entry of the index; or a refusal.
use Rattle.std.specs.Prelude.{ℕ, zero, suc, ◌*◌, ◌/◌, cond, List, [], ◌∷◌, ◌++◌, eqb, take, get_or, None, Option, Some, Err, Ok, Result, Float}
use Rattle.trace.specs.declared.Refused.{Refused}
use Prim.Native.String.{String}
use Rattle.cycle.specs.declared.Carried.{Carried}
use Rattle.trace.specs.TraceReading.{Told, refusal, counted}
use Rattle.rate.specs.Rate.{rate_bits, hundredths}
use Rattle.index.specs.declared.Entry.{Entry}
use Rattle.index.specs.Entry.{of_word}
use Rattle.index.specs.Index.{entry_count, index_words}
use Rattle.summary.specs.declared.page.Page.{Page}
use Rattle.summary.specs.Page.{page_of, page_verdict}
use Rattle.text.specs.Text.{ascii}
use Rattle.text.specs.NumberText.{digits_text, hex_text, decimal_text}
use Rattle.refusal_text.specs.RefusalText.{refused_by, refused_at}

abbrev pub line : List ℕ → List ℕ
line text = text ++ ascii "\n"

-- a word and a number
abbrev pub named : String → ℕ → List ℕ
named name number = ascii name ++ decimal_text number

-- "`page cycles=9 items=5 starts=3`"
abbrev pub head_line : ℕ → ℕ → ℕ → List ℕ
head_line cycles items starts = line (named "page cycles=" cycles ++ named " items=" items ++ named " starts=" starts)

-- "to two places"
abbrev pub places_text : ℕ → List ℕ
places_text hundredths = decimal_text (hundredths / 100) ++ ascii "." ++ digits_text 10 2 hundredths

-- "`rate` is the double as 16 hexadecimal digits, and before it cycles over starts ..; where nothing started the line is `rate none`"
abbrev pub rate_line : Option Float → ℕ → ℕ → List ℕ
rate_line None cycles starts = line (ascii "rate none")
rate_line (Some average) cycles starts =
    line (ascii "rate " ++ places_text (hundredths cycles starts) ++ ascii " bits " ++ hex_text 16 (rate_bits (Some average)))

-- "A `code` line for each code that occurs": none for the others
abbrev pub code_line : ℕ → ℕ → ℕ → ℕ → List ℕ
code_line code count first last =
    cond (eqb count 0) [] (line (named "code " code ++ named " count " count ++ named " first " first ++ named " last " last))

-- "ascending": the lines of so many codes, from a code on
abbrev pub codes_from : List ℕ → List ℕ → List ℕ → ℕ → ℕ → List ℕ
codes_from counts firsts lasts code zero = []
codes_from counts firsts lasts code (suc more) =
    code_line code (get_or counts code 0) (get_or firsts code 0) (get_or lasts code 0) ++ codes_from counts firsts lasts (suc code) more

abbrev pub code_lines : Page → List ℕ
code_lines page = codes_from page.counts page.firsts page.lasts 0 16

-- "`transfer M due D` (the marker's code, and nibbles still due with this cycle's) or `transfer none`"
abbrev pub transfer_text : Carried → List ℕ
transfer_text carried = cond (eqb carried.due 0) (ascii " transfer none") (named " transfer " carried.marker ++ named " due " carried.due)

-- "`run R` or `run none`"
abbrev pub run_text : Carried → List ℕ
run_text carried = cond (eqb carried.run 0) (ascii " run none") (named " run " carried.run)

-- "`items N` before it"
unfoldable pub entry_line : Entry → List ℕ
entry_line entry = line (named "index " entry.cycle ++ named " items " entry.items ++ transfer_text entry.carried ++ run_text entry.carried)

-- "cycles 0, 256, 512 ..": a line for each word, from an entry on
abbrev pub index_from : ℕ → List ℕ → List ℕ
index_from k [] = []
index_from k (word ∷ words) = entry_line (of_word (256 * k) word) ++ index_from (suc k) words

-- ".. below the number of cycles", as far as the words go
abbrev pub index_lines : ℕ → List ℕ → List ℕ
index_lines cycles index = index_from 0 (take (entry_count cycles) index)

abbrev pub page_lines : Page → ℕ → List ℕ → List ℕ
page_lines page items index =
    head_line page.cycles items page.starts
    ++ rate_line page.rate page.cycles page.starts
    ++ code_lines page
    ++ index_lines page.cycles index

-- the lines, "or prints `refused N at C`"
abbrev pub lines_by : Page → List ℕ → Result ℕ Refused → List ℕ
lines_by page index (Ok items) = page_lines page items index
lines_by page index (Err r) = line (refused_at r.why r.cycle)

-- what is printed of a page and its index
abbrev pub page_text : Page → List ℕ → List ℕ
page_text page index = lines_by page index page.judged

-- the same of a trace, by how it is judged
abbrev pub told_text : List ℕ → Told → List ℕ
told_text trace (counted items) = page_lines (page_of trace items) items (index_words trace)
told_text trace (refusal number cycle) = line (refused_by number cycle)

-- all that is printed of a trace, where the index has room for so many words
abbrev pub printed : List ℕ → ℕ → List ℕ
printed trace room = told_text trace (page_verdict trace room)
