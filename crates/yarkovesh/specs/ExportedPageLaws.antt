-- Laws of what programs in other languages are answered of a page: from the page's own promise.
use Rattle.std.specs.Prelude.{◌≡◌, ℕ, List, Err, Ok}
use Rattle.std.proofs.Common.{ap, sym, ◌∙◌}
use Rattle.grounds.specs.declared.Ground.{Ground}
use Rattle.trace.specs.TraceReading.{told_listing as told}
use Rattle.rate.specs.Rate.{rate_bits}
use Rattle.summary.specs.declared.page.Page.{Page}
use Rattle.summary.specs.Page.{page_by, PageMeets}
use Rattle.yarkovesh.specs.Exported.{listing_number}
use Rattle.yarkovesh.specs.ExportedPage.{Numbers, rows, numbers_after, PageNumbersMeet}

module _ {trace before after : List ℕ} {page : Page} (given : Numbers) (met : PageMeets trace before page after) where
  pub refused_keeps_numbers : {why : Ground} {cycle : ℕ} → page.judged ≡ Err (record { why = why; cycle = cycle })
      → PageNumbersMeet trace before (listing_number (told page.judged)) after given given
  refused_keeps_numbers e =
      record {
        answer = ap listing_number met.answer;
        index = met.words;
        numbers = sym (ap (numbers_after trace given) (sym met.answer ∙ ap told e));
      }

  pub read_gives_numbers : {n : ℕ} → page.judged ≡ Ok n
      → PageNumbersMeet trace before (listing_number (told page.judged)) after given
      (rows page.counts page.firsts page.lasts page.starts (rate_bits page.rate))
  read_gives_numbers e =
      record {
        answer = ap listing_number met.answer;
        index = met.words;
        numbers =
            ap (λ (p : Page). rows p.counts p.firsts p.lasts p.starts (rate_bits p.rate)) (met.page ∙ ap (page_by trace) e)
            ∙ sym (ap (numbers_after trace given) (sym met.answer ∙ ap told e));
      }
