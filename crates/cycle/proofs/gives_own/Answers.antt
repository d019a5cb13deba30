use native.Mathlib.Omega.{arith}
use borrow.Author.Tests.{lt-ltb, le-ltb}
use Rattle.cycle.specs.Cycle.{gives_own}
use Rattle.cycle.proofs.CycleLaws.{marker_not_single}
use Rattle.cycle.proofs.gives_own.Goals as goal

pub returns-then-pst-lt8 : goal.returns-then-pst-lt8
unfolding gives_own
returns-then-pst-lt8 c = simp (lt-ltb c.args.pst 12 (omega (arith, c.if-pst-lt8.true)), c.is_single.ensures)

pub returns-then-pst-lt12 : goal.returns-then-pst-lt12
unfolding gives_own
returns-then-pst-lt12 c = simp (lt-ltb _ _ c.if-pst-lt12.true, marker_not_single _ c.if-pst-lt8.false)

pub returns-else-pst-lt12 : goal.returns-else-pst-lt12
unfolding gives_own
returns-else-pst-lt12 c = simp (le-ltb _ _ c.if-pst-lt12.false)
