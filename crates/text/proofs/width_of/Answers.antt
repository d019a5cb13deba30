use Prim.Native.Nat.{◌-◌}
use mathlib.Core.Path.{◌≡◌, refl, sym, ◌∙◌}
use native.Mathlib.Omega.{arith}
use Rattle.text.specs.NumberText.{width_from}
use Rattle.text.proofs.NumberTextLaws.{width_here, width_next, left_none, left_some, left_first, left_next}
use Rattle.text.proofs.width_of.Goals as goal

pub loop-digits-init : goal.loop-digits-init
loop-digits-init c = (left_first _ _, refl)

pub returns-then-rest-eq0 : goal.returns-then-rest-eq0
returns-then-rest-eq0 c = let at = c.loop-digits in sym (width_here _ _ (20 - at.digits) at.digits (left_none _ _ at.digits c.requires (sym at.invariant.0 ∙ c.if-rest-eq0.true))) ∙ at.invariant.1

pub loop-digits-preserved : goal.loop-digits-preserved
loop-digits-preserved c = let at = c.loop-digits in let some = rw at.invariant.0 at c.if-rest-eq0.false in (rw at.invariant.0 (left_next _ _ at.digits), sym (width_next _ _ 20 at.digits c.loop-digits-test.true (left_some _ _ at.digits some)) ∙ at.invariant.1)

pub returns : goal.returns
unfolding width_from
returns c = let at = c.loop-digits in let end : at.digits ≡ 20 = omega arith in rw end at at.invariant.1
