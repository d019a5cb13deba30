-- Recorded cycles (01), the walk beside the listing: "items and count equal the listing's, and its start is refused as the listing is, 11 aside".
use Rattle.std.specs.Prelude.{◌≡◌, ℕ, ◌+◌, ◌*◌, List, ◌++◌, map, length, drop, replicate, None, Ok, Result, Some}
use Rattle.trace.specs.declared.Refused.{Refused}
use Rattle.grounds.specs.declared.Ground.TheVariants.{BufferTooShort}
use Rattle.grounds.specs.Grounds.{number}
use Rattle.cycle.specs.declared.Item.{Item}
use Rattle.trace.specs.Items.{items, words}
use Rattle.trace.specs.TraceReading.{Told, refusal, counted, too_short, told_listing}
use Rattle.listing.specs.Listing.{listing, ListingMeets}
use Rattle.steps.specs.WalkStep.{refusal as stepRefusal, told_handed}
use Rattle.walk.specs.declared.Walk.{Walk}
use Rattle.walk.specs.Walk.{stepped_of, handed_out}

-- the steps hand out these items, one a step, and then the end for ever
abbrev pub HandsOut : Walk → List Item → Type 0
HandsOut walk xs = (m : ℕ) → handed_out (length xs + m) walk ≡ map (λ x. Ok (Some x)) xs ++ replicate m (Ok None)

-- every step hands out this refusal
abbrev pub HandsRefusal : Walk → ℕ → ℕ → Type 0
HandsRefusal walk k i = (m : ℕ) → map told_handed (handed_out m walk) ≡ replicate m (stepRefusal k i)

-- what a judgement comes to where a buffer has room for so many words: 11 is all that the buffer adds
abbrev pub with_room : ℕ → Told → Told
with_room room (refusal k i) = refusal k i
with_room room (counted n) = too_short (2 * n) room (counted n)

-- "items and count equal the listing's": a walk of a trace beside a listing of it that counts n items, into any buffer
pub record HandsListing (trace : List ℕ) (walk : Walk) (n : ℕ) (before after : List ℕ) : Type 0 where
  -- the steps hand out the items of the trace, and then the end for ever
  pub handed : HandsOut walk (items trace)
  -- the listing counts as many as they hand out
  pub count : n ≡ length (items trace)
  -- and the words that it put at the front of the buffer are the words of those that they hand out
  pub listed : after ≡ words (items trace) ++ drop (2 * n) before

-- "its start is refused as the listing is, 11 aside": a walk beside every listing of a trace, into every buffer
pub record RefusedAsListing (trace : List ℕ) (walk : Walk) : Type 0 where
  -- what a listing answers is how the start was judged, 11 aside, for every room
  pub judged : (room : ℕ) → listing trace room ≡ with_room room (told_listing walk.cursor.start)
  -- where a listing is refused, and not on 11, every step hands out its number and cycle
  pub refused : {before after : List ℕ} {r : Result ℕ Refused} (k i : ℕ) → ListingMeets trace before r after
      → told_listing r ≡ refusal k i → (k ≡ number BufferTooShort → ⊥) → HandsRefusal walk k i
  -- where it is refused on 11, the steps hand out all the items, and then the end, all the same
  pub aside : {before after : List ℕ} {r : Result ℕ Refused} (i : ℕ) → ListingMeets trace before r after
      → told_listing r ≡ refusal (number BufferTooShort) i → HandsOut walk (items trace)
  -- where a first step hands out a refusal, every listing is refused so, and its buffer stays
  pub refuses : {before after : List ℕ} {r : Result ℕ Refused} (k i : ℕ) → ListingMeets trace before r after
      → told_handed (stepped_of walk).handed ≡ stepRefusal k i → (told_listing r ≡ refusal k i) × (after ≡ before)
