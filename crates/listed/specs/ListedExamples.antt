-- P9 (01, "What the desk checks by eye"), as the morning's page has it.
use Rattle.std.specs.Prelude.{◌≡◌, refl}
use Rattle.cycle.specs.Cycle.{gives_own, after, carried_into, value}
use Rattle.cycle.specs.CycleItems.{items_at}
use Rattle.cycle.specs.CycleExamples.{p9}
use Rattle.trace.specs.Items.{items_before, items}
use Rattle.trace.specs.TraceReading.{too_long, earliest, ends_inside, too_short, judged_from}
use Rattle.listing.specs.Listing.{listing}
use Rattle.text.specs.Text.{ascii}
use Rattle.text.specs.NumberText.{digit_text, digits_text, width_from}
use Rattle.listed.specs.Listed.{listed_text}

pub p9_listed : listed_text p9 36 ≡ ascii "trace cycles=9 items=5, 0 1 0, 1 5 0, 6 9 4660, 6 1 0, 7 15 0"
unfolding gives_own after carried_into value items_at items_before items too_long earliest ends_inside too_short judged_from listing digit_text digits_text
    width_from
    listed_text
p9_listed = refl
