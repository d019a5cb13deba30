use mathlib.Core.Path.{sym, ◌∙◌}
use native.Mathlib.Omega.{arith}
use lib.ListN.{length, length-drop}
use Rattle.list_lines.specs.ListLines.{named}
use Rattle.list_lines.specs.ListLinesLaws.{number_took}
use Rattle.list_lines.proofs.read_named.Goals as goal

pub returns-then-not-is_same : goal.returns-then-not-is_same
unfolding named
returns-then-not-is_same c = rw (sym (rw c.front.ensures at c.is_same.ensures) ∙ c.if-not-is_same.true)

pub returns-in_err-value : goal.returns-in_err-value
unfolding named
returns-in_err-value c = let name = sym (rw c.front.ensures at c.is_same.ensures) ∙ c.if-not-is_same.false in
    let read = sym (rw c.rest.ensures at c.read_number.ensures) ∙ c.in_err-value.was in
    rw (c.from_residual.ensures, name, read)

pub overflow_add-result : goal.overflow_add-result
overflow_add-result c = let a = c.args in
    let took = number_took _ _ _ _ _ (sym (rw c.rest.ensures at c.read_number.ensures) ∙ c.in_ok-value.was) in
    omega (arith, took.within, length-drop (length a.name.now) a.bytes.now)

pub returns : goal.returns
unfolding named
returns c = let name = sym (rw c.front.ensures at c.is_same.ensures) ∙ c.if-not-is_same.false in
    let read = sym (rw c.rest.ensures at c.read_number.ensures) ∙ c.in_ok-value.was in
    rw (name, read)
