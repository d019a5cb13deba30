use mathlib.Core.Path.{◌≡◌, sym, ◌∙◌}
use native.Mathlib.Omega.{arith}
use borrow.Author.Rules.{rules}
use Rattle.steps.specs.WalkStepLaws.{step_value, step_own, step_on, step_past}
use Rattle.steps.proofs.find_item.Goals as goal

pub returns-then-is_value_next : goal.returns-then-is_value_next
returns-then-is_value_next c = let w = c.loop-i in
    let a = c.args in
    cc (c.hand_value.ensures, step_value a.trace.now a.cursor.start w.i w.carried w.past (search rules) (sym c.is_value_next.ensures ∙ c.if-is_value_next.true), w.invariant.0)

pub returns-then-gives_own : goal.returns-then-gives_own
returns-then-gives_own c = let w = c.loop-i in
    let a = c.args in
    let v = sym c.is_value_next.ensures ∙ c.if-is_value_next.false in
    let o = sym c.gives_own.ensures ∙ c.if-gives_own.true in
    cc (c.after_cycle-next.ensures, c.hand_own.ensures, step_own a.trace.now a.cursor.start w.i w.carried w.past (search rules) v o, w.invariant.0)

pub loop-i-preserved : goal.loop-i-preserved
loop-i-preserved c = let w = c.loop-i in
    let v = sym c.is_value_next.ensures ∙ c.if-is_value_next.false in
    let o = sym c.gives_own.ensures ∙ c.if-gives_own.false in
    (rw c.after_cycle-next.ensures (sym (step_on _ _ w.i w.carried w.past (search rules) v o) ∙ w.invariant.0), omega arith)

pub returns : goal.returns
returns c = let w = c.loop-i in
    let at : c.max.result ≡ w.i = omega arith in
    rw at (sym (step_past _ _ w.i w.carried w.past (search rules)) ∙ w.invariant.0)
