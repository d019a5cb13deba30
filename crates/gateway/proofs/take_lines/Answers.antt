use Prim.Native.Nat.{◌+◌, ◌-◌}
use mathlib.Core.Path.{◌≡◌, refl, sym, ◌∙◌}
use native.Mathlib.Omega.{arith}
use Rattle.console.specs.InputLines.{most_lines}
use Rattle.console.specs.LinesServedLaws.{comes_to_begin}
use Rattle.gateway.specs.Visiting.{standing}
use Rattle.gateway.specs.VisitingLaws.{over_comes, line_comes, last_comes, none_comes}
use Rattle.gateway.proofs.take_lines.Goals as goal

pub loop-init : goal.loop-init
unfolding most_lines
loop-init c = comes_to_begin _ _ _ refl

pub returns-then-is_over : goal.returns-then-is_over
returns-then-is_over c = over_comes _ _ _ (standing c.loop.visit c.loop.notes) c.loop.invariant (sym c.is_over.ensures ∙ c.if-is_over.true)

pub loop-preserved : goal.loop-preserved
loop-preserved c = let here = c.loop in
    let next = c.next_line-taken in
    let fewer : 0xFFFFFFFFFFFFFFFF - here.counter - 1 ≡ 0xFFFFFFFFFFFFFFFF - (here.counter + 1) = omega arith in
    rw fewer at (line_comes _ _ _ (standing here.visit here.notes) here.invariant (sym c.is_over.ensures ∙ c.if-is_over.false)
    (omega (arith, c.loop-test.true)) (omega (arith, c.requires, here.auto.line, next.auto.line)) c.take_line-visit.ensures
    (rw c.in-Line.is at next.ensures))

pub returns-in-Last : goal.returns-in-Last
returns-in-Last c = let here = c.loop in
    let next = c.next_line-taken in
    last_comes _ _ _ (standing here.visit here.notes) here.invariant (sym c.is_over.ensures ∙ c.if-is_over.false)
    (omega (arith, c.loop-test.true)) (omega (arith, c.requires, here.auto.line, next.auto.line)) c.take_line-last.ensures
    (rw c.in-Last.is at next.ensures) _ c.lose.ensures

pub returns : goal.returns
returns c = none_comes _ _ _ (standing c.loop.visit c.loop.notes) c.loop.invariant (omega (arith, c.loop-test.false)) _ c.lose-2.ensures
