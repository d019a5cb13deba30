use Rattle.listing.specs.ListingLaws.{whole_meets}
use Rattle.listing.proofs.list_trace.Goals as goal

pub returns : goal.returns
returns c = whole_meets (rw c.nothing_carried.ensures at c.list_from.ensures)
