-- What programs in other languages are answered of a page (02, [2]): one number, and what is left in the lent places.
use Rattle.std.specs.Prelude.{ℕ, ◌≡◌, List, length}
use Rattle.rate.specs.Rate.{rate_of, rate_bits}
use Rattle.trace.specs.Items.{items}
use Rattle.trace.specs.TraceReading.{Told, refusal, counted}
use Rattle.tally.specs.Tally.{count_of, first_of, last_of, starts_of, per_code}
use Rattle.summary.specs.Page.{page_verdict, index_after}
use Rattle.yarkovesh.specs.Exported.{listing_number}

-- what is lent for the page's numbers
pub record Numbers : Type 0 where
  pub counts : List ℕ
  pub firsts : List ℕ
  pub lasts : List ℕ
  pub starts : ℕ
  pub rate : ℕ

abbrev pub rows : List ℕ → List ℕ → List ℕ → ℕ → ℕ → Numbers
rows counts firsts lasts starts rate = record { counts = counts; firsts = firsts; lasts = lasts; starts = starts; rate = rate }

abbrev pub numbers_of : List ℕ → Numbers
numbers_of trace =
    rows (per_code (count_of (items trace))) (per_code (first_of (items trace))) (per_code (last_of (items trace))) (starts_of (items trace))
    (rate_bits (rate_of (length trace) (starts_of (items trace))))

-- a refusal leaves them as given
abbrev pub numbers_after : List ℕ → Numbers → Told → Numbers
numbers_after trace before (refusal number cycle) = before
numbers_after trace before (counted n) = numbers_of trace

-- the promise of a page
pub record PageNumbersMeet (trace before : List ℕ) (r : ℕ) (after : List ℕ) (given left : Numbers) : Type 0 where
  pub answer : r ≡ listing_number (page_verdict trace (length before))
  pub index : after ≡ index_after trace before (page_verdict trace (length before))
  pub numbers : left ≡ numbers_after trace given (page_verdict trace (length before))
