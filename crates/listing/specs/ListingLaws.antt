-- Laws of the listing: the buffer's part, the promise from the answer alone, and the whole as a start at the first cycle.
use Rattle.std.specs.Prelude.{◌≡◌, ℕ, ◌*◌, List, length, Result}
use Rattle.trace.specs.declared.Refused.{Refused}
use Rattle.std.proofs.Common.{ap, ◌∙◌}
use Rattle.cycle.specs.declared.Carried.{Carried}
use Rattle.cycle.specs.Cycle.{nothing}
use Rattle.trace.specs.Items.{items, items_to_end}
use Rattle.trace.specs.ItemsFromLaws.{items_whole}
use Rattle.trace.specs.TraceReading.{refusal, counted, told_listing, too_short, reading, reading_from}
use Rattle.trace.proofs.TraceReadingLaws.{refused_so, passed_so, same_count, passed_read}
use Rattle.listing.specs.Listing.{listing, listing_from, words_over, ListingMeets, ListingFromMeets}

-- a trace that is refused without a buffer is refused so with any
pub refused_from : (trace : List ℕ) (i : ℕ) (c : Carried) (room k j : ℕ) → reading_from trace i c ≡ refusal k j → listing_from trace i c room ≡ refusal k j
unfolding reading_from listing_from
refused_from trace i c room k j e = refused_so trace i c (length (items_to_end trace i c)) k j e _

-- a trace that is read has the items that are counted, and only the buffer is left to judge
pub read_from : (trace : List ℕ) (i : ℕ) (c : Carried) (room n : ℕ) → reading_from trace i c ≡ counted n
    → (n ≡ length (items_to_end trace i c))
    × (listing_from trace i c room ≡ too_short (2 * length (items_to_end trace i c)) room (counted (length (items_to_end trace i c))))
unfolding reading_from listing_from
read_from trace i c room n e = let g = passed_so trace i c _ n e in (same_count _ n g.0, g.1 _)

-- a trace that is listed is one that is read
pub listed_read : (trace : List ℕ) (room n : ℕ) → listing trace room ≡ counted n → reading trace ≡ counted n
unfolding listing
listed_read trace room n = passed_read trace (2 * length (items trace)) room n

-- from the first cycle on, with nothing under way, a trace is listed as a whole
pub listing_whole : (trace : List ℕ) (room : ℕ) → listing_from trace 0 nothing room ≡ listing trace room
unfolding listing_from listing
listing_whole trace room = rw (items_whole trace)

-- the promise, from the answer alone
pub listing_meets : (trace : List ℕ) (i : ℕ) (c : Carried) (before after : List ℕ) (r : Result ℕ Refused)
    → told_listing r ≡ listing_from trace i c (length before)
    → after ≡ words_over (items_to_end trace i c) before (told_listing r) → ListingFromMeets trace i c before r after
listing_meets trace i c before after r e f = record { answer = e; words = f ∙ ap (words_over (items_to_end trace i c) before) e }

-- a listing from the first cycle on, with nothing under way, is the listing of the trace
pub whole_meets : {trace before after : List ℕ} {r : Result ℕ Refused} → ListingFromMeets trace 0 nothing before r after → ListingMeets trace before r after
whole_meets {trace} {before} m =
    record { answer = m.answer ∙ listing_whole trace (length before); words = rw (items_whole trace, listing_whole trace (length before)) at m.words }
