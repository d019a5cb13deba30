use borrow.Author.Rules.{rules}
use mathlib.Core.Path.{refl}
use native.Mathlib.Omega.{arith}
use borrow.Author.Tests.{le-leb}
use Rattle.waits_setting.specs.WaitsSetting.{came_of}
use Rattle.waits_page.specs.WaitsPageLaws.{setting_judged, onward_next, onward_ends, worked_next, worked_ends}
use Rattle.waits_page.proofs.put_settings.Goals as goal

-- src/lib.rt:35:5
pub loop-w-init : goal.loop-w-init
loop-w-init c = (refl, refl, refl, λ r page' judged. judged, refl)

-- src/lib.rt:35:5
pub loop-w-preserved : goal.loop-w-preserved
loop-w-preserved c = let at = c.loop-w in
    let args = c.args in
    let due = came_of args.due.now args.due_memory.now in
    let made = le-leb at.w 15 (omega (arith, c.loop-w-test.true)) in
    let run = rw made at c.run_at-ran.ensures in
    let judged = setting_judged due run c.front.ensures c.put_setting-judged.ensures in (
      search rules,
      search rules,
      search rules,
      onward_next due _ _ _ _ _ at.w at.same c.loop-w-test.true at.invariant.3 (rw (at.invariant.1, at.invariant.2) at judged),
      worked_next at.w c.loop-w-test.true run at.invariant.4,
    )

-- src/lib.rt:17:1
pub returns : goal.returns
returns c = let at = c.loop-w in
    (onward_ends _ _ _ _ _ _ at.w at.same c.loop-w-test.false at.invariant.3, worked_ends at.w _ c.loop-w-test.false at.invariant.4)
