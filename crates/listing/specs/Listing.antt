-- Recorded cycles (01), the listing: what it answers and leaves in the buffer: of a whole trace, or from one of its cycles on (02, [2]).
use Rattle.std.specs.Prelude.{◌≡◌, ℕ, ◌*◌, List, ◌++◌, length, drop, Result}
use Rattle.trace.specs.declared.Refused.{Refused}
use Rattle.cycle.specs.declared.Carried.{Carried}
use Rattle.cycle.specs.declared.Item.{Item}
use Rattle.trace.specs.Items.{items, items_to_end, words}
use Rattle.trace.specs.TraceReading.{Told, refusal, counted, told_listing, too_short, judged_from, judged}

-- ".. then 11": the answer where the buffer has room for so many words
unfoldable pub listing : List ℕ → ℕ → Told
listing trace room = judged trace (too_short (2 * length (items trace)) room (counted (length (items trace))))

-- "a listing may start there" (02, [2]): the answer of one that starts at cycle i, which finds c under way
unfoldable pub listing_from : List ℕ → ℕ → Carried → ℕ → Told
listing_from trace i c room = judged_from trace i c (too_short (2 * length (items_to_end trace i c)) room (counted (length (items_to_end trace i c))))

-- a refusal leaves the buffer as given; else "Words beyond the last item stay."
abbrev pub words_over : List Item → List ℕ → Told → List ℕ
words_over xs before (refusal number cycle) = before
words_over xs before (counted n) = words xs ++ drop (length (words xs)) before

abbrev pub words_after : List ℕ → List ℕ → Told → List ℕ
words_after trace before answer = words_over (items trace) before answer

-- what a listing promises, for every trace and every buffer
pub record ListingMeets (trace before : List ℕ) (r : Result ℕ Refused) (after : List ℕ) : Type 0 where
  -- the answer's number and values are 01's
  pub answer : told_listing r ≡ listing trace (length before)
  -- every word of the buffer
  pub words : after ≡ words_after trace before (listing trace (length before))

-- what a listing that starts at a cycle promises, for every cycle and whatever it is said to find under way
pub record ListingFromMeets (trace : List ℕ) (i : ℕ) (c : Carried) (before : List ℕ) (r : Result ℕ Refused) (after : List ℕ) : Type 0 where
  -- the answer's number and values are 01's
  pub answer : told_listing r ≡ listing_from trace i c (length before)
  -- every word of the buffer
  pub words : after ≡ words_over (items_to_end trace i c) before (listing_from trace i c (length before))
