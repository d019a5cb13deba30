-- Laws of a listing from a cycle on: what is shown of an entry, and that the index's own entry shows the rest of the trace.
use Rattle.std.specs.Prelude.{ℕ, ◌-◌, ◌*◌, ◌/◌, ◌%◌, ◌≤◌, ◌<◌, ◌≡◌, refl, Bool, true, false, cond, List, ◌++◌, ltb, length, get_or, take, drop, Err, Ok, Result}
use Rattle.trace.specs.declared.Refused.{Refused}
use Rattle.std.proofs.Common.{ap, sym, ◌∙◌, arith, length-append, take_at, lt-ltb, le-ltb, ltb-true, ltb-false}
use Rattle.std.proofs.Math.ListN.{get_or-append}
use Rattle.cycle.specs.declared.Item.{Item}
use Rattle.cycle.specs.Cycle.{nothing, carried_into}
use Rattle.grounds.specs.declared.Ground.{Ground}
use Rattle.grounds.specs.declared.Ground.TheVariants.{BufferTooShort}
use Rattle.grounds.specs.Grounds.{number}
use Rattle.trace.specs.Items.{items, items_to_end, words}
use Rattle.trace.specs.ItemLaws.{length_words}
use Rattle.trace.specs.TraceReading.{Told, refusal, counted, told_listing, too_short, reading}
use Rattle.trace.proofs.TraceReadingLaws.{refused_so, passed_so, same_count, room_so, read_short, reading_whole}
use Rattle.trace.proofs.TraceStartLaws.{read_on}
use Rattle.trace.specs.ItemsFromLaws.{items_from_le}
use Rattle.listing.specs.Listing.{listing_from, words_over}
use Rattle.listing.specs.ListingLaws.{read_from}
use Rattle.index.specs.declared.Entry.{Entry}
use Rattle.index.specs.Entry.{EntryMeets, entry_at, of_word}
use Rattle.index.specs.Index.{entry_count, index_words, Bytes}
use Rattle.index.proofs.IndexLaws.{length_index, index_read_back}
use Rattle.summary.specs.declared.page.Page.{Page}
use Rattle.summary.specs.Page.{page_verdict, index_after, PageMeets}
use Rattle.text.specs.Text.{written}
use Rattle.console.specs.LineWriting.{laid}
use Rattle.trace_list.specs.declared.asked.Asked.{Asked}
use Rattle.trace_list.specs.declared.asked.Asked.TheVariants.{Whole, From, Unclear}
use Rattle.trace_list.specs.Asked.{AskedMeets}
use Rattle.trace_list.specs.AskedLaws.{asked_multiple}
use Rattle.trace_list.specs.ListerLines.{refused_line, unclear_line, lines_by, items_of, rest_by, rest_lines, shown_lines}
use Rattle.console.specs.GatheringLaws.{joined}
use Rattle.trace_list.specs.ListerPartsLaws.{told_joined, whole_joined}
use Rattle.trace_list.specs.ListerPartsMirror.{parts_by, entry_parts, from_parts, no_index, rest_parts_by, rest_parts, listed_parts_by, listed_parts}
use Rattle.trace_list.specs.ListerPartsMirror.{shown_parts, ShownMeets}

-- a listing that counts has the items that it counts, and room for their words
from_counts : (trace : List ℕ) (e : Entry) (space n : ℕ) → listing_from trace e.cycle e.carried space ≡ counted n
    → (length (items_to_end trace e.cycle e.carried) ≡ n) × (2 * n ≤ space)
unfolding listing_from too_short
from_counts trace e space n q = by_room (ltb space (2 * k)) refl (passed_so trace e.cycle e.carried _ n q).0
  where
    k : ℕ
    k = length (items_to_end trace e.cycle e.carried)

    by_room : (t : Bool) → ltb space (2 * k) ≡ t → cond t (refusal (number BufferTooShort) 0) (counted k) ≡ counted n → (k ≡ n) × (2 * n ≤ space)
    by_room true p f = let z : ◌≡◌ {A = ℕ} 0 1 = cc in absurd (omega arith)
    by_room false p f =
        let same : n ≡ k = same_count k n f in
        let enough : 2 * k ≤ space = ltb-false space (2 * k) p in
        (sym same, omega arith)

-- what is shown of a listing from an entry
pub entry_shown : (room : ℕ) (trace : List ℕ) (e : Entry) (before after : List ℕ) (r : Result ℕ Refused) → EntryMeets trace e before r after
    → listed_parts room (length trace) after r ≡ entry_parts room trace e (length before)
entry_shown room trace e before after r m =
    ap (listed_parts_by room (length trace) after) m.answer ∙ by_told (listing_from trace e.cycle e.carried (length before)) refl
  where
    xs : List Item
    xs = items_to_end trace e.cycle e.carried

    by_told : (told : Told) → listing_from trace e.cycle e.carried (length before) ≡ told
        → listed_parts_by room (length trace) after told ≡ parts_by room (length trace) xs told
    by_told (refusal number cycle) q = refl
    by_told (counted n) q =
        let counts = from_counts trace e (length before) n q in
        let size : length (words xs) ≡ 2 * n = length_words xs ∙ ap (λ (k : ℕ). 2 * k) counts.0 in
        let left : after ≡ words xs ++ drop (length (words xs)) before = m.words ∙ ap (words_over xs before) q in
        let front : take (2 * n) after ≡ words xs = rw left (take_at (words xs) (drop (length (words xs)) before) (2 * n) size) in
        let long = ap length left ∙ length-append (words xs) (drop (length (words xs)) before) in
        rw (le-ltb (length after / 2) n (omega arith), front)

-- by the word of an index, or unclear
module _ (before trace index : List ℕ) (from space : ℕ) where
  pub from_beyond : {after : List ℕ} → length trace ≤ from → after ≡ written before 0 unclear_line
      → after ≡ laid before (from_parts (length before) trace from index space)
  from_beyond h f = f ∙ rw (le-ltb from (length trace) h)

  module _ (within : from < length trace) where
    pub from_unlisted : {after : List ℕ} → length index ≤ from / 256 → after ≡ written before 0 unclear_line
        → after ≡ laid before (from_parts (length before) trace from index space)
    from_unlisted h f = f ∙ rw (lt-ltb from (length trace) within, le-ltb (from / 256) (length index) h)

    pub from_entry : {after words₀ left : List ℕ} {r : Result ℕ Refused} → from / 256 < length index → length words₀ ≡ space
        → EntryMeets trace (of_word from (get_or index (from / 256) 0)) words₀ r left
        → after ≡ laid before (listed_parts (length before) (length trace) left r)
        → after ≡ laid before (from_parts (length before) trace from index space)
    from_entry {words₀ = words₀} {left = left} {r = r} h size m f =
        let shown = entry_shown (length before) trace (of_word from (get_or index (from / 256) 0)) words₀ left r m in
        f ∙ ap (laid before) shown ∙ rw (lt-ltb from (length trace) within, lt-ltb (from / 256) (length index) h, size)

-- the whole trace is judged first
module _ (before trace : List ℕ) (from space : ℕ) {page : Page} {index : List ℕ} (met : PageMeets trace no_index page index) where
  by_page : (told : Told) → told_listing page.judged ≡ told
      → laid before (rest_parts_by (length before) trace from (index_after trace no_index (page_verdict trace (length no_index))) space told)
      ≡ laid before (rest_parts (length before) trace from space)
  by_page told e =
      ap (λ (t : Told). laid before (rest_parts_by (length before) trace from (index_after trace no_index (page_verdict trace (length no_index))) space t))
      (sym e ∙ met.answer)

  pub rest_refused : {after : List ℕ} (why : Ground) (cycle : ℕ) → page.judged ≡ Err (record { why = why; cycle = cycle })
      → after ≡ written before 0 (refused_line (number why) cycle) → after ≡ laid before (rest_parts (length before) trace from space)
  rest_refused why cycle e f = f ∙ by_page (refusal (number why) cycle) (ap told_listing e)

  pub rest_listed : {after : List ℕ} (n : ℕ) → page.judged ≡ Ok n → after ≡ laid before (from_parts (length before) trace from index space)
      → after ≡ laid before (rest_parts (length before) trace from space)
  rest_listed n e f =
      f ∙ ap (λ (l : List ℕ). laid before (from_parts (length before) trace from l space)) met.words ∙ by_page (counted n) (ap told_listing e)

-- a trace that is read has a page, and a listing from each of its cycles on that has room
page_judged : (trace : List ℕ) (room n : ℕ) → reading trace ≡ counted n → entry_count (length trace) ≤ room → page_verdict trace room ≡ counted n
unfolding page_verdict reading
page_judged trace room n e h =
    let g = passed_so trace 0 nothing _ n e in g.1 _ ∙ room_so (entry_count (length trace)) room (counted (length (items trace))) h ∙ g.0

page_refused : (trace : List ℕ) (room k j : ℕ) → reading trace ≡ refusal k j → page_verdict trace room ≡ refusal k j
unfolding page_verdict reading
page_refused trace room k j e = refused_so trace 0 nothing (length (items trace)) k j e _

module _ (trace : List ℕ) (from space n : ℕ) (within : from < length trace) (reads : reading trace ≡ counted n)
    (enough : 262144 ≤ space) where
  short : length trace ≤ 65536
  short = read_short trace 0 nothing n (reading_whole trace ∙ reads)

  rest_counts : listing_from trace from (carried_into trace from) space ≡ counted (length (items_of trace from))
  rest_counts =
      let some = read_on trace from n (omega arith) reads in
      let few = items_from_le trace from (carried_into trace from) (length trace - from) in
      (read_from trace from (carried_into trace from) space _ some).1
      ∙ room_so (2 * length (items_of trace from)) space (counted (length (items_of trace from))) (omega (arith, few, short))

  own_entry : Bytes trace → from % 256 ≡ 0 → (more : List ℕ) → of_word from (get_or (index_words trace ++ more) (from / 256) 0) ≡ entry_at trace from
  own_entry bytes multiple more =
      let k = from / 256 in
      let here : 256 * k ≡ from = omega arith in
      let word : get_or (index_words trace ++ more) k 0 ≡ get_or (index_words trace) k 0 =
      get_or-append (index_words trace) more 0 k (omega (arith, length_index trace)) in
      ap (of_word from) word ∙ rw here at (index_read_back trace bytes k (omega arith))

-- THE LAW: with FROM, a multiple of 256, and room for four words a cycle, what is written out is the lines of the rest
pub rest_joined : (room : ℕ) (trace : List ℕ) (from space : ℕ) → Bytes trace → from % 256 ≡ 0 → 262144 ≤ space
    → joined (rest_parts room trace from space) ≡ joined (rest_lines trace from)
rest_joined room trace from space bytes multiple enough = by_reading (reading trace) refl
  where
    by_from : (n : ℕ) → reading trace ≡ counted n → (more : List ℕ) → (t : Bool) → ltb from (length trace) ≡ t
        → joined (from_parts room trace from (index_words trace ++ more) space) ≡ joined (rest_by trace from (counted n))
    by_from n e more true b =
        let within : from < length trace = ltb-true from (length trace) b in
        let there : from / 256 < length (index_words trace ++ more) = simp length-append (omega (arith, length_index trace)) in
        let shown : joined (entry_parts room trace (entry_at trace from) space)
        ≡ joined (lines_by (length trace) (items_of trace from) (counted (length (items_of trace from)))) =
        ap (λ (t : Told). joined (parts_by room (length trace) (items_of trace from) t)) (rest_counts trace from space n within e enough)
        ∙ told_joined room (length trace) (items_of trace from) (counted (length (items_of trace from))) in
        let own = own_entry trace from space n within e enough bytes multiple more in
        rw (b, lt-ltb (from / 256) (length (index_words trace ++ more)) there)
        (ap (λ (entry : Entry). joined (entry_parts room trace entry space)) own ∙ shown)
    by_from n e more false b = rw b

    by_reading : (told : Told) → reading trace ≡ told → joined (rest_parts room trace from space) ≡ joined (rest_by trace from told)
    by_reading (refusal k j) e = rw (page_refused trace (length no_index) k j e)
    by_reading (counted n) e =
        let short = read_short trace 0 nothing n (reading_whole trace ∙ e) in
        rw (page_judged trace (length no_index) n e (omega arith)) (by_from n e (drop (length (index_words trace)) no_index) (ltb from (length trace)) refl)

-- whatever is asked: the parts that are put into the text are the lines of what is asked, one behind the other
pub shown_joined : {asked : Asked} {before after : List ℕ} → AskedMeets asked → (s : ShownMeets asked before after)
    → joined (shown_parts (length before) s.trace asked) ≡ joined (shown_lines s.trace asked)
shown_joined {asked} {before} a s = by_asked asked (asked_multiple a)
  where
    by_asked : (asked : Asked) → ((cycle : ℕ) → asked ≡ From cycle → cycle % 256 ≡ 0)
        → joined (shown_parts (length before) s.trace asked) ≡ joined (shown_lines s.trace asked)
    by_asked Whole m = whole_joined (length before) s.trace
    by_asked (From from) m = rest_joined (length before) s.trace from 262144 s.bytes (m from refl) (omega arith)
    by_asked Unclear m = refl
