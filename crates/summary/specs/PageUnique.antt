-- No second page fits a trace and a buffer, and no second buffer.
use Rattle.std.specs.Prelude.{◌≡◌, ℕ, List}
use Rattle.std.proofs.Common.{ap, sym, ◌∙◌}
use Rattle.trace.specs.TraceReadingUnique.{told_listing_unique}
use Rattle.summary.specs.declared.page.Page.{Page}
use Rattle.summary.specs.Page.{page_by, PageMeets}

pub page_unique : {trace before after after' : List ℕ} {r r' : Page} → PageMeets trace before r after → PageMeets trace before r' after' → (r ≡ r')
    × (after ≡ after')
page_unique {trace} {r = r} {r' = r'} m m' =
    (m.page ∙ ap (page_by trace) (told_listing_unique r.judged r'.judged (m.answer ∙ sym m'.answer)) ∙ sym m'.page, m.words ∙ sym m'.words)
