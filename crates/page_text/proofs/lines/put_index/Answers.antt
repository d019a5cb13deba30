use Prim.Native.Nat.{◌-◌}
use mathlib.Core.Path.{refl}
use native.Mathlib.Omega.{arith}
use lib.ListN.{drop_of_length-le}
use Rattle.text.specs.TextLaws.{all_remains, rest_remains, none_remains}
use Rattle.page_text.specs.PageTextLaws.{index_on}
use borrow.Author.Rules.{rules}
use Rattle.page_text.proofs.lines.put_index.Goals as goal

pub loop-k-init : goal.loop-k-init
loop-k-init c = (refl, all_remains _ _ _)

pub loop-k-preserved : goal.loop-k-preserved
loop-k-preserved c = let here = c.loop-k in (
  search rules,
  rest_remains (rw (index_on _ here.k c.loop-k-test.true) at here.invariant.1) (rw c.read_entry.ensures at c.put_entry-at.ensures),
)

pub returns : goal.returns
returns c = let here = c.loop-k in none_remains (rw (drop_of_length-le _ c.loop-k-test.false) at here.invariant.1)
