use Prim.Native.Nat.{◌+◌, ◌-◌}
use mathlib.Core.Path.{◌≡◌, refl}
use native.Mathlib.Omega.{arith}
use Rattle.course.specs.Course.{opening}
use Rattle.console.specs.InputLines.{most_lines}
use Rattle.console.specs.LinesServedLaws.{comes_to_begin}
use Rattle.course.proofs.CourseLaws.{line_comes, quit_comes, last_comes, none_comes}
use Rattle.conversation.proofs.run.Goals as goal

pub loop-init : goal.loop-init
unfolding most_lines
loop-init c = rw c.opened-bench.ensures (comes_to_begin _ _ _ refl)

pub returns-then-served : goal.returns-then-served
returns-then-served c = let here = c.loop in
    let next = c.next_line-taken in
    quit_comes _ _ opening _ _ here.invariant (omega (arith, c.loop-test.true)) (omega (arith, c.requires, here.auto.line, next.auto.line))
    c.serve-served.ensures (rw c.in-Line.is at next.ensures) c.if-served.true

pub loop-preserved : goal.loop-preserved
loop-preserved c = let here = c.loop in
    let next = c.next_line-taken in
    let fewer : 0xFFFFFFFFFFFFFFFF - here.counter - 1 ≡ 0xFFFFFFFFFFFFFFFF - (here.counter + 1) = omega arith in
    rw fewer at (line_comes _ _ opening _ _ here.invariant (omega (arith, c.loop-test.true)) (omega (arith, c.requires, here.auto.line, next.auto.line))
    c.serve-served.ensures (rw c.in-Line.is at next.ensures) c.if-served.false)

pub returns-in-Last : goal.returns-in-Last
returns-in-Last c = let here = c.loop in
    let next = c.next_line-taken in
    last_comes _ _ opening _ _ here.invariant (omega (arith, c.loop-test.true)) (omega (arith, c.requires, here.auto.line, next.auto.line))
    c.serve.ensures (rw c.in-Last.is at next.ensures)

pub returns : goal.returns
returns c = none_comes _ _ opening _ _ c.loop.invariant (omega (arith, c.loop-test.false))
