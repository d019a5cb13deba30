-- No second answer fits a listing from an entry, and no second buffer, whatever the entry.
use Rattle.std.specs.Prelude.{◌≡◌, ℕ, List, Result}
use Rattle.trace.specs.declared.Refused.{Refused}
use Rattle.listing.specs.ListingUnique.{listing_from_unique}
use Rattle.index.specs.declared.Entry.{Entry}
use Rattle.index.specs.Entry.{EntryMeets}

pub entry_unique : {trace : List ℕ} (e : Entry) {before after after' : List ℕ} {r r' : Result ℕ Refused}
    → EntryMeets trace e before r after → EntryMeets trace e before r' after' → (r ≡ r') × (after ≡ after')
entry_unique e m m' = listing_from_unique m m'
