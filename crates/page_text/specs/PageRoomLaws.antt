-- Laws of room: the buffers that the program `page` has are never too short. Twenty digits hold every number of 64 bits.
use Rattle.std.specs.Prelude.{ℕ, zero, suc, ◌+◌, ◌*◌, ◌/◌, ◌≤◌, Bool, true, false, cond, ◌≡◌, refl, List, [], ◌∷◌, ◌++◌, eqb, ltb, length, take, get_or, None}
use Rattle.std.specs.Prelude.{Option, Some, Float}
use Prim.Native.String.{String}
use Rattle.std.proofs.Common.{arith, le_refl, le_of_eq, length-append, length-take, le-ltb, ltb-false}
use Rattle.cycle.specs.declared.Carried.{Carried}
use Rattle.trace.specs.TraceReading.{Told, refusal, counted, too_long, too_short, judged_from, reading}
use Rattle.trace.proofs.TraceReadingLaws.{whole_short}
use Rattle.index.specs.declared.Entry.{Entry}
use Rattle.index.specs.Entry.{of_word}
use Rattle.index.specs.Index.{entry_count, index_words}
use Rattle.index.proofs.IndexLaws.{length_index}
use Rattle.rate.specs.Rate.{rate_bits, hundredths}
use Rattle.summary.specs.declared.page.Page.{Page}
use Rattle.summary.specs.Page.{page_of, page_verdict}
use Rattle.summary.specs.PageLaws.{page_read_so}
use Rattle.text.specs.Text.{ascii, Puts}
use Rattle.text.specs.TextLaws.{told_whole}
use Rattle.text.specs.NumberText.{digits_text, decimal_text}
use Rattle.text.proofs.NumberTextLaws.{digits_length, decimal_length}
use Rattle.page_text.specs.PageText.{
  named,
  line,
  head_line,
  places_text,
  rate_line,
  code_line,
  codes_from,
  transfer_text,
  run_text,
  entry_line,
  index_from,
  page_lines,
  told_text,
  printed,
}

record Most (text : List ℕ) (most : ℕ) : Type 0 where
  at_most : length text ≤ most

decimal_most : (n : ℕ) → Most (decimal_text n) 20
decimal_most n = record { at_most = decimal_length n }

infixl 30 ◌and◌
◌and◌ : {t u : List ℕ} {i j : ℕ} → Most t i → Most u j → Most (t ++ u) (i + j)
◌and◌ {t} {u} p q = record { at_most = omega (arith, length-append t u, p.at_most, q.at_most) }

more : {t : List ℕ} {i : ℕ} (j : ℕ) → i ≤ j → Most t i → Most t j
more j h p = record { at_most = omega (arith, p.at_most) }

letters : (name : String) → Most (ascii name) (length (ascii name))
letters name = record { at_most = le_refl (length (ascii name)) }

digits_most : (base k n : ℕ) → Most (digits_text base k n) k
digits_most base k n = record { at_most = le_of_eq (digits_length base k n) }

named_most : (name : String) (n : ℕ) → Most (named name n) (length (ascii name) + 20)
named_most name n = letters name and decimal_most n

head_most : (cycles items starts : ℕ) → Most (head_line cycles items starts) 88
head_most cycles items starts =
    let most = named_most "page cycles=" cycles and named_most " items=" items and named_most " starts=" starts and letters "\n" in most

places_most : (h : ℕ) → Most (places_text h) 23
places_most h = let most = decimal_most (h / 100) and letters "." and digits_most 10 2 h in most

rate_most : (rate : Option Float) (cycles starts : ℕ) → Most (rate_line rate cycles starts) 51
rate_most None cycles starts = let most = letters "rate none\n" in more 51 (omega arith) most
rate_most (Some average) cycles starts =
    let most =
    letters "rate "
    and places_most (hundredths cycles starts)
    and letters " bits "
    and digits_most 16 16 (rate_bits (Some average))
    and letters "\n" in
    most

code_most : (code count first last : ℕ) → Most (code_line code count first last) 106
code_most code count first last = by_test (eqb count 0)
  where
    by_test : (t : Bool) → Most (cond t [] (line (named "code " code ++ named " count " count ++ named " first " first ++ named " last " last))) 106
    by_test true = record { at_most = omega arith }
    by_test false =
        let most = named_most "code " code and named_most " count " count and named_most " first " first and named_most " last " last and letters "\n" in
        most

codes_most : (counts firsts lasts : List ℕ) (code n : ℕ) → Most (codes_from counts firsts lasts code n) (n * 106)
codes_most counts firsts lasts code zero = record { at_most = omega arith }
codes_most counts firsts lasts code (suc n) =
    let most = code_most code (get_or counts code 0) (get_or firsts code 0) (get_or lasts code 0) and codes_most counts firsts lasts (suc code) n in
    more (suc n * 106) (omega arith) most

transfer_most : (carried : Carried) → Most (transfer_text carried) 55
transfer_most carried = by_test (eqb carried.due 0)
  where
    by_test : (t : Bool) → Most (cond t (ascii " transfer none") (named " transfer " carried.marker ++ named " due " carried.due)) 55
    by_test true = more 55 (omega arith) (letters " transfer none")
    by_test false = let most = named_most " transfer " carried.marker and named_most " due " carried.due in most

run_most : (carried : Carried) → Most (run_text carried) 25
run_most carried = by_test (eqb carried.run 0)
  where
    by_test : (t : Bool) → Most (cond t (ascii " run none") (named " run " carried.run)) 25
    by_test true = more 25 (omega arith) (letters " run none")
    by_test false = named_most " run " carried.run

entry_most : (entry : Entry) → Most (entry_line entry) 134
unfolding entry_line
entry_most entry =
    let most =
    named_most "index " entry.cycle
    and named_most " items " entry.items
    and transfer_most entry.carried
    and run_most entry.carried
    and letters "\n" in
    most

index_most : (k : ℕ) (words : List ℕ) → Most (index_from k words) (length words * 134)
index_most k [] = record { at_most = omega arith }
index_most k (word ∷ words) =
    let most = entry_most (of_word (256 * k) word) and index_most (suc k) words in more (suc (length words) * 134) (omega arith) most

lines_most : (page : Page) (items : ℕ) (index : List ℕ) → length index ≤ 256 → Most (page_lines page items index) 40960
lines_most page items index h =
    let n = entry_count page.cycles in
    let most =
    head_most page.cycles items page.starts
    and rate_most page.rate page.cycles page.starts
    and codes_most page.counts page.firsts page.lasts 0 16
    and index_most 0 (take n index) in
    more 40960 (omega (arith, length-take n index)) most

-- a text of 40,960 bytes holds all that is printed of a trace
pub text_enough : (trace : List ℕ) (room : ℕ) → length (printed trace room) ≤ 40960
text_enough trace room = by_verdict (page_verdict trace room) refl
  where
    by_verdict : (told : Told) → page_verdict trace room ≡ told → length (told_text trace told) ≤ 40960
    by_verdict (counted items) e =
        let short = whole_short trace items (page_read_so trace room items e) in
        (lines_most (page_of trace items) items (index_words trace) (omega (arith, length_index trace))).at_most
    by_verdict (refusal number cycle) e =
        let most = letters "refused " and decimal_most number and letters " at " and decimal_most cycle and letters "\n" in
        (more 40960 (omega arith) most).at_most

-- so all of it stands in such a text, up to the end that is answered
pub printed_whole : {buffer after : List ℕ} {end : ℕ} (trace : List ℕ) (room : ℕ) → length buffer ≡ 40960 → Puts buffer 0 (printed trace room) after end
    → take end after ≡ printed trace room
printed_whole trace room e puts = told_whole puts (omega (arith, e, text_enough trace room))

-- an index of 256 words has room for the entries of every trace that can be read: 11 is never the answer
pub index_enough : (trace : List ℕ) → page_verdict trace 256 ≡ reading trace
unfolding page_verdict reading judged_from too_long too_short
index_enough trace = by_length (ltb 65536 (length trace)) refl
  where
    by_length : (long : Bool) → ltb 65536 (length trace) ≡ long → page_verdict trace 256 ≡ reading trace
    by_length true e = rw e
    by_length false e =
        let short = ltb-false 65536 (length trace) e in
        let room : entry_count (length trace) ≤ 256 = omega arith in
        rw (le-ltb 256 (entry_count (length trace)) room)
