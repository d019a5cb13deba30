use Prim.Native.Nat.{◌-◌}
use mathlib.Core.Path.{refl}
use native.Mathlib.Omega.{arith}
use borrow.Author.Rules.{rules}
use Rattle.text.specs.TextLaws.{◌then◌, all_remains, rest_remains, none_remains}
use Rattle.listed.specs.ListedLaws.{items_on, items_out}
use Rattle.listed.proofs.put_items.Goals as goal

pub loop-k-init : goal.loop-k-init
loop-k-init c = (refl, all_remains _ _ _)

pub loop-k-preserved : goal.loop-k-preserved
loop-k-preserved c = let at = c.loop-k in (
  search rules,
  rest_remains (rw (items_on _ at.k c.loop-k-test.true) at at.invariant.1) (c.put_text-at.ensures
      then c.put_item-at.ensures),
)

pub returns : goal.returns
returns c = let at = c.loop-k in none_remains (rw (items_out _ at.k c.loop-k-test.false) at at.invariant.1)
