use lib.ListN.{length-replicate}
use Rattle.trace_list.proofs.list_rest.Goals as goal

-- src/main.rt:189:1
pub returns : goal.returns
returns c = let listed = c.list_from.ensures in
    record { trace = _; bytes = listed.0; shown = rw length-replicate at listed.1 }
