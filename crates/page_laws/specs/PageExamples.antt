-- P9's page and index ("[2]" of the desk's language), computed from the definitions; a page where nothing started.
use Rattle.std.specs.Prelude.{◌≡◌, refl, [], ◌∷◌, length, get_or, None}
use Rattle.rate.specs.Rate.{rate_of, hundredths}
use Rattle.cycle.specs.Cycle.{gives_own, after, carried_into, value}
use Rattle.cycle.specs.CycleItems.{items_at}
use Rattle.trace.specs.Items.{items_before, items}
use Rattle.trace.specs.TraceReading.{refusal, counted, too_long, earliest, ends_inside, too_short, judged_from}
use Rattle.cycle.specs.CycleExamples.{p9}
use Rattle.tally.specs.Tally.{count_of, first_of, last_of, starts_of, each, per_code}
use Rattle.index.specs.Index.{first_entries, index_words}
use Rattle.summary.specs.Page.{page_of, page_verdict}

pub record Shown : Type 0 where
  -- "page cycles=9 items=5 starts=3"
  pub p9_items : page_verdict p9 1 ≡ counted 5
  pub p9_starts : starts_of (items p9) ≡ 3
  -- "rate 3.00"; its bits stand with the rate
  pub p9_hundredths : hundredths (length p9) (starts_of (items p9)) ≡ 300
  -- "code 1 count 2 first 0 last 6", "code 5 count 1 first 1 last 1", "code 9 count 1 first 6 last 6", "code 15 count 1 first 7 last 7"
  pub p9_counts : per_code (count_of (items p9)) ≡ 0 ∷ 2 ∷ 0 ∷ 0 ∷ 0 ∷ 1 ∷ 0 ∷ 0 ∷ 0 ∷ 1 ∷ 0 ∷ 0 ∷ 0 ∷ 0 ∷ 0 ∷ 1 ∷ []
  pub p9_firsts : per_code (first_of (items p9)) ≡ 0 ∷ 0 ∷ 0 ∷ 0 ∷ 0 ∷ 1 ∷ 0 ∷ 0 ∷ 0 ∷ 6 ∷ 0 ∷ 0 ∷ 0 ∷ 0 ∷ 0 ∷ 7 ∷ []
  pub p9_lasts : per_code (last_of (items p9)) ≡ 0 ∷ 6 ∷ 0 ∷ 0 ∷ 0 ∷ 1 ∷ 0 ∷ 0 ∷ 0 ∷ 6 ∷ 0 ∷ 0 ∷ 0 ∷ 0 ∷ 0 ∷ 7 ∷ []
  -- and each stands in its own place of the page
  pub p9_page_cycles : (page_of p9 5).cycles ≡ 9
  pub p9_page_counts : get_or (page_of p9 5).counts 1 0 ≡ 2
  pub p9_page_firsts : get_or (page_of p9 5).firsts 1 0 ≡ 0
  pub p9_page_lasts : get_or (page_of p9 5).lasts 1 0 ≡ 6
  -- "index 0 items 0 transfer none run none"
  pub p9_index : index_words p9 ≡ 0 ∷ []
  -- no room for the one entry
  pub p9_short : page_verdict p9 0 ≡ refusal 11 0
  -- no cycles: no entry, and no buffer is needed
  pub empty : page_verdict [] 0 ≡ counted 0
  pub empty_index : index_words [] ≡ []
  -- a run of stops: nothing started
  pub nothing_started : rate_of 2 (starts_of (items (0xE0 ∷ 0xE0 ∷ []))) ≡ None
  -- the reader's own comes before the buffer's
  pub reserved_first : page_verdict (0x20 ∷ []) 0 ≡ refusal 8 0

pub shown : Shown
unfolding gives_own after carried_into value items_at items_before items too_long earliest ends_inside too_short judged_from
    count_of first_of last_of starts_of each first_entries index_words page_verdict
shown =
    record {
      p9_items = refl;
      p9_starts = refl;
      p9_hundredths = refl;
      p9_counts = refl;
      p9_firsts = refl;
      p9_lasts = refl;
      p9_page_cycles = refl;
      p9_page_counts = refl;
      p9_page_firsts = refl;
      p9_page_lasts = refl;
      p9_index = refl;
      p9_short = refl;
      empty = refl;
      empty_index = refl;
      nothing_started = refl;
      reserved_first = refl;
    }
