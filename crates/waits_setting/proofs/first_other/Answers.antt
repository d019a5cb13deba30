use native.Mathlib.Omega.{arith}
use Rattle.waits_setting.specs.WaitsSettingLaws.{same_so_far, differs_here, due_ends, came_ends}
use Rattle.waits_setting.proofs.first_other.Goals.{then-came-i-via-then-came-i, then-came-i-via-else-came-i+then-byte-came}
use Rattle.waits_setting.proofs.first_other.Goals as goal

pub loop-i-init : goal.loop-i-init
loop-i-init c = omega arith

pub returns-then-came-i : goal.returns-then-came-i
returns-then-came-i c = let given = c.args in
    let at = c.loop-i in
    elim c.then-came-i.branch [
      | then-came-i-via-then-came-i w ↦ omega (arith, came_ends given.due.now given.came.now at.i c.loop-i-test.true w.if-came-i.true)
      | then-came-i-via-else-came-i+then-byte-came w ↦
          omega (arith, differs_here given.due.now given.came.now at.i c.loop-i-test.true w.if-came-i.false w.if-byte-came.true)
    ]

pub loop-i-preserved : goal.loop-i-preserved
loop-i-preserved c = let given = c.args in
    let at = c.loop-i in
    omega (arith, same_so_far given.due.now given.came.now at.i c.loop-i-test.true c.if-came-i.false c.if-byte-came.false)

pub returns : goal.returns
returns c = omega (arith, due_ends c.args.due.now c.args.came.now c.loop-i.i c.loop-i-test.false)
