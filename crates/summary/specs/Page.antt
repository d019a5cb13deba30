-- The page (02, [2]): what it says of a trace, the refusals, and what the index buffer holds.
use Rattle.std.specs.Prelude.{◌≡◌, ℕ, List, ◌++◌, length, drop, replicate, None, Err, Ok, Result}
use Rattle.trace.specs.declared.Refused.{Refused}
use Rattle.grounds.specs.declared.Ground.{Ground}
use Rattle.trace.specs.Items.{items}
use Rattle.trace.specs.TraceReading.{Told, refusal, counted, told_listing, too_short, judged}
use Rattle.rate.specs.Rate.{rate_of}
use Rattle.summary.specs.declared.page.Page.{Page}
use Rattle.tally.specs.Tally.{count_of, first_of, last_of, starts_of, per_code}
use Rattle.index.specs.Index.{entry_count, index_words}

-- "the number of cycles, of instruction starts .., of items of each code, the first and last cycle of each that occurs, and the average"
abbrev pub page_of : List ℕ → ℕ → Page
page_of trace n =
    record {
      judged = Ok n;
      cycles = length trace;
      starts = starts_of (items trace);
      rate = rate_of (length trace) (starts_of (items trace));
      counts = per_code (count_of (items trace));
      firsts = per_code (first_of (items trace));
      lasts = per_code (last_of (items trace));
    }

-- nothing is said of a trace that is refused
abbrev pub blank : Ground → ℕ → Page
blank why cycle =
    record {
      judged = Err (record { why = why; cycle = cycle });
      cycles = 0;
      starts = 0;
      rate = None;
      counts = replicate 16 0;
      firsts = replicate 16 0;
      lasts = replicate 16 0;
    }

-- the page, by how its trace was judged
abbrev pub page_by : List ℕ → Result ℕ Refused → Page
page_by trace (Ok n) = page_of trace n
page_by trace (Err r) = blank r.why r.cycle

-- "Refusals: the reader's own, then 11 for the index buffer.", a word an entry; else the items are counted
unfoldable pub page_verdict : List ℕ → ℕ → Told
page_verdict trace room = judged trace (too_short (entry_count (length trace)) room (counted (length (items trace))))

-- a refusal leaves the buffer as given; else the index stands at its front, and what is beyond it stays
abbrev pub index_after : List ℕ → List ℕ → Told → List ℕ
index_after trace before (refusal number cycle) = before
index_after trace before (counted n) = index_words trace ++ drop (length (index_words trace)) before

-- what a page promises, for every trace and every buffer
pub record PageMeets (trace before : List ℕ) (r : Page) (after : List ℕ) : Type 0 where
  -- the judgement's number and values are the paper's
  pub answer : told_listing r.judged ≡ page_verdict trace (length before)
  -- all else that is answered
  pub page : r ≡ page_by trace r.judged
  -- every word of the buffer
  pub words : after ≡ index_after trace before (page_verdict trace (length before))
