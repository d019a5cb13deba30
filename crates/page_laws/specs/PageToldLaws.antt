-- What holds of a page as it is handed over: its counts add up, its starts are four of them, its firsts and lasts are the least and the greatest.
use Rattle.std.specs.Prelude.{◌≡◌, refl, ℕ, ◌+◌, ◌<◌, false, List, length, get_or, Some, Ok}
use Rattle.std.proofs.Common.{ap, sym, ◌∙◌}
use Rattle.std.specs.Float.{binary64}
use Rattle.std.specs.Float.Ieee.{round}
use Rattle.trace.specs.Items.{items}
use Rattle.trace.specs.TraceReading.{counted, told_listing, reading}
use Rattle.trace.proofs.TraceReadingLaws.{read_count, whole_short}
use Rattle.trace.specs.TraceReadingUnique.{told_listing_unique}
use Rattle.index.specs.Index.{Bytes}
use Rattle.summary.specs.declared.page.Page.{Page}
use Rattle.tally.specs.Tally.{count_of, first_of, last_of}
use Rattle.tally.proofs.TallyLaws.{of_code}
use Rattle.summary.specs.NotingLaws.{starts_tallied}
use Rattle.page_laws.specs.PageRateLaws.{page_rate}
use Rattle.summary.specs.PageLaws.{page_read_so}
use Rattle.page_laws.specs.OrderLaws.{FirstAndLast, first_and_last}
use Rattle.page_laws.specs.SumLaws.{sum, counts_add_up}
use Rattle.summary.specs.Page.{page_of, page_by, PageMeets}

module _ (trace given index : List ℕ) (page : Page) (met : PageMeets trace given page index) (n : ℕ) (accepted : told_listing page.judged ≡ counted n) where
  page_of_lem : page ≡ page_of trace n
  page_of_lem = met.page ∙ ap (page_by trace) (told_listing_unique page.judged (Ok n) accepted)

  reads : reading trace ≡ counted n
  reads = page_read_so trace (length given) n (sym met.answer ∙ accepted)

  -- "The sixteen code counts add up to the items of the listing."
  pub page_counts_add_up : Bytes trace → sum page.counts ≡ n
  page_counts_add_up bytes =
      ap (λ (p : Page). sum p.counts) page_of_lem ∙ counts_add_up trace bytes ∙ sym (read_count trace n reads)

  -- "instruction starts (codes 1, 4, 5, 7)"
  pub page_starts_are_four : page.starts ≡ get_or page.counts 1 0 + get_or page.counts 4 0 + get_or page.counts 5 0 + get_or page.counts 7 0
  page_starts_are_four = rw page_of_lem (sym (starts_tallied (items trace) refl))

  -- "the first and last cycle of each that occurs"
  pub page_first_and_last : (code : ℕ) → code < 16 → 0 < get_or page.counts code 0
      → FirstAndLast (items trace) code (get_or page.firsts code 0) (get_or page.lasts code 0)
  page_first_and_last code h =
      rw (page_of_lem, of_code (count_of (items trace)) code h, of_code (first_of (items trace)) code h, of_code (last_of (items trace)) code h)
      (first_and_last trace code)

  -- "one division of the two counts in double precision, rounded once": the double nearest to the fraction of the numbers handed over
  pub page_rounded_once : 0 < page.starts → page.rate ≡ Some (round binary64 false page.cycles page.starts)
  page_rounded_once = rw page_of_lem (page_rate trace (whole_short trace n reads))
