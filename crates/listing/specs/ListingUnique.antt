-- No second answer fits a listing, and no second buffer.
use Rattle.std.specs.Prelude.{◌≡◌, ℕ, List, Result}
use Rattle.trace.specs.declared.Refused.{Refused}
use Rattle.std.proofs.Common.{sym, ◌∙◌}
use Rattle.cycle.specs.declared.Carried.{Carried}
use Rattle.trace.specs.TraceReadingUnique.{told_listing_unique}
use Rattle.listing.specs.Listing.{ListingMeets, ListingFromMeets}

pub listing_unique : {trace before after after' : List ℕ} {r r' : Result ℕ Refused}
    → ListingMeets trace before r after → ListingMeets trace before r' after' → (r ≡ r') × (after ≡ after')
listing_unique {r} {r'} m m' = (told_listing_unique r r' (m.answer ∙ sym m'.answer), m.words ∙ sym m'.words)

pub listing_from_unique : {trace : List ℕ} {i : ℕ} {c : Carried} {before after after' : List ℕ} {r r' : Result ℕ Refused}
    → ListingFromMeets trace i c before r after → ListingFromMeets trace i c before r' after' → (r ≡ r') × (after ≡ after')
listing_from_unique {r} {r'} m m' = (told_listing_unique r r' (m.answer ∙ sym m'.answer), m.words ∙ sym m'.words)
