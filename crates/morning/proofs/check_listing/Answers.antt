use Rattle.text.specs.TextLaws.{told_cut}
use Rattle.morning.proofs.check_listing.Goals as goal

-- LEFT Need-slice-aggregate-put-check-3
-- slice_aggregate_put_check_3 : tie.Need-slice-aggregate-put-check-3
-- slice_aggregate_put_check_3 c = sym (length-take-le _ _ (search rules))

pub returns : goal.returns
returns c = rw (told_cut c.put_listing-end.ensures.0) at c.put_check.ensures
