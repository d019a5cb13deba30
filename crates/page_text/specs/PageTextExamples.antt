-- P9's page as the desk's language shows it, computed from the trace; a trace that is refused.
use Rattle.std.specs.Prelude.{◌≡◌, refl, [], ◌∷◌, ◌++◌}
use Rattle.std.specs.Float.Ieee.{of_int, div, is_nan, round, to_bits}
use Rattle.cycle.specs.Cycle.{gives_own, after, carried_into, value}
use Rattle.cycle.specs.CycleItems.{items_at}
use Rattle.cycle.specs.CycleExamples.{p9}
use Rattle.trace.specs.Items.{items_before, items}
use Rattle.trace.specs.TraceReading.{too_long, earliest, ends_inside, too_short, judged_from}
use Rattle.tally.specs.Tally.{count_of, first_of, last_of, starts_of, each}
use Rattle.index.specs.Index.{first_entries, index_words}
use Rattle.summary.specs.Page.{page_verdict}
use Rattle.text.specs.Text.{ascii}
use Rattle.text.specs.NumberText.{digit_text, digits_text, width_from}
use Rattle.page_text.specs.PageText.{line, entry_line, printed}

pub p9_printed : printed p9 256
    ≡ line (ascii "page cycles=9 items=5 starts=3")
    ++ line (ascii "rate 3.00 bits 4008000000000000")
    ++ line (ascii "code 1 count 2 first 0 last 6")
    ++ line (ascii "code 5 count 1 first 1 last 1")
    ++ line (ascii "code 9 count 1 first 6 last 6")
    ++ line (ascii "code 15 count 1 first 7 last 7")
    ++ line (ascii "index 0 items 0 transfer none run none")
unfolding gives_own after carried_into value items_at items_before items too_long earliest ends_inside too_short judged_from
    count_of first_of last_of starts_of each first_entries index_words page_verdict digit_text digits_text width_from entry_line
    to_bits div of_int is_nan round
p9_printed = refl

-- "where nothing started the line is `rate none`", "No cycles: no `index` line."
pub empty_printed : printed [] 256 ≡ line (ascii "page cycles=0 items=0 starts=0") ++ line (ascii "rate none")
unfolding items items_before too_long earliest ends_inside too_short judged_from count_of first_of last_of starts_of each first_entries index_words page_verdict
    digit_text digits_text width_from
empty_printed = refl

pub refused_printed : printed (0x00 ∷ 0x20 ∷ []) 256 ≡ line (ascii "refused 8 at 1")
unfolding after carried_into too_long earliest ends_inside too_short judged_from page_verdict digit_text digits_text width_from
refused_printed = refl
