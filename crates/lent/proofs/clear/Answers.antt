use mathlib.Core.Path.{◌≡◌}
use native.Mathlib.Omega.{arith}
use lib.ListN.{length, take, length-take}
use borrow.Author.Rules.{rules}
use Rattle.lent.specs.LentLaws.{cleared}
use Rattle.lent.proofs.clear.Goals as goal

pub returns : goal.returns
returns c = let end = c.min-end.result in
    let m = c.args.memory.now in
    let whole : length (take end m) ≡ end = omega (arith, length-take end m, c.min-end.ensures) in
    rw (c.fill.ensures.after (search rules), whole) (cleared end c.args.count m (omega (arith, c.min-end.ensures)))
