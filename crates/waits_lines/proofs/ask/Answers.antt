use mathlib.Core.Path.{ap}
use mathlib.Core.List.{◌++◌}
use lib.ListN.{drop}
use Rattle.answers.specs.Bench.{Left, left}
use lib.ListN.{length-take}
use native.Mathlib.Omega.{arith}
use Rattle.lent.specs.LentLaws.{lent_part}
use Rattle.waits_lines.proofs.ask.Goals as goal

pub slice_bounds-converse-end-2 : goal.slice_bounds-converse-end-2
slice_bounds-converse-end-2 c = simp length-take (omega (arith, c.lent_of-n.ensures))

pub returns : goal.returns
returns c = let at = c.args in
    let n = c.lent_of-n in
    let part = lent_part at.bench.lent n.result at.memory.now n.ensures in
    let taken = c.converse.ensures in (
      rw (← part.0) taken.0,
      rw (← part.0, ← part.1) (ap (λ (l : Left). left l.bench (l.memory ++ drop n.result at.memory.now)) taken.1),
    )
