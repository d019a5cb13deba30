use Prim.Native.Nat.{◌-◌}
use mathlib.Core.Path.{refl}
use native.Mathlib.Omega.{arith}
use Rattle.text.specs.TextLaws.{all_remains, rest_remains, none_remains}
use Rattle.page_text.specs.PageTextLaws.{codes_on, codes_end}
use borrow.Author.Rules.{rules}
use Rattle.page_text.proofs.lines.put_codes.Goals as goal

pub loop-code-init : goal.loop-code-init
loop-code-init c = (refl, all_remains _ _ _)

pub loop-code-preserved : goal.loop-code-preserved
loop-code-preserved c = let here = c.loop-code in (
  search rules,
  rest_remains (rw (codes_on _ _ _ here.code c.loop-code-test.true) at here.invariant.1) c.put_code-at.ensures,
)

pub returns : goal.returns
returns c = let here = c.loop-code in none_remains (rw (codes_end _ _ _ here.code c.loop-code-test.false) at here.invariant.1)
