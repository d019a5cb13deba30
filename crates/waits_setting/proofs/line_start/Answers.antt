use mathlib.Core.Path.{refl, sym, ◌∙◌}
use Rattle.waits_setting.specs.WaitsSettingLaws.{start_on, start_out}
use borrow.Author.Tests.{eq-eqb, ne_eqb}
use Rattle.waits_setting.proofs.line_start.Goals.{then-byte-eq10, else-byte-eq10}
use Rattle.waits_setting.proofs.line_start.Goals as goal

pub loop-i-init : goal.loop-i-init
loop-i-init c = refl

pub loop-i-preserved : goal.loop-i-preserved
loop-i-preserved c = let at = c.loop-i in
    let on = start_on at.start c.args.before.now at.i c.loop-i-test.true in
    elim c.if-byte-eq10.branch [
      | then-byte-eq10 w ↦ rw w.start-is (rw (eq-eqb _ _ w.if-byte-eq10.true) at (sym on) ∙ at.invariant)
      | else-byte-eq10 w ↦ rw w.start-is (rw (ne_eqb _ _ w.if-byte-eq10.false) at (sym on) ∙ at.invariant)
    ]

pub returns : goal.returns
returns c = let at = c.loop-i in sym (start_out at.start c.args.before.now at.i c.loop-i-test.false) ∙ at.invariant
