use mathlib.Core.Path.{refl, sym, ◌∙◌}
use native.Mathlib.Omega.{arith}
use borrow.Author.Rules.{rules}
use lib.ListN.{length-drop}
use Rattle.list_lines.specs.ListLinesLaws.{line_took, all_remain, next_remain, stops, ends}
use Rattle.list_lines.proofs.read_lines.Goals as goal

pub loop-k-init : goal.loop-k-init
loop-k-init c = (omega arith, refl, all_remain _ _ _)

pub returns-in_default : goal.returns-in_default
returns-in_default c = stops c.loop-k.invariant.2 c.loop-k-test.true (sym (rw c.rest.ensures at c.read_line.ensures) ∙ c.in_default.is)

pub overflow_add-at : goal.overflow_add-at
overflow_add-at c = let w = c.loop-k in
    omega (arith, line_took _ _ _ (sym (rw c.rest.ensures at c.read_line.ensures) ∙ c.in-Some.is), length-drop w.at c.args.bytes.now)

pub loop-k-preserved : goal.loop-k-preserved
loop-k-preserved c = let w = c.loop-k in
    let line = sym (rw c.rest.ensures at c.read_line.ensures) ∙ c.in-Some.is in (
      omega (arith, line_took _ _ _ line, length-drop w.at c.args.bytes.now),
      search rules,
      next_remain w.invariant.2 c.loop-k-test.true _ _ line,
    )

pub returns : goal.returns
returns c = ends c.loop-k.invariant.2 c.loop-k-test.false
