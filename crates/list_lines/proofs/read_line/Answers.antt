use mathlib.Core.Path.{sym, ◌∙◌}
use native.Mathlib.Omega.{arith}
use lib.ListN.{length-drop}
use Rattle.list_lines.specs.ListLines.{line_word}
use Rattle.list_lines.specs.ListLinesLaws.{number_took}
use Rattle.list_lines.proofs.read_line.Goals as goal

pub returns-in_err-cycle : goal.returns-in_err-cycle
unfolding line_word
returns-in_err-cycle c = rw (c.from_residual.ensures, sym c.read_number.ensures ∙ c.in_err-cycle.was)

pub returns-in_err-pst : goal.returns-in_err-pst
unfolding line_word
returns-in_err-pst c = let one = sym c.read_number.ensures ∙ c.in_ok-cycle.was in
    let two = sym (rw c.rest.ensures at c.read_number-2.ensures) ∙ c.in_err-pst.was in
    rw (c.from_residual-in_err-pst.ensures, one, two)

pub overflow_mul-result : goal.overflow_mul-result
overflow_mul-result c = omega (arith, (number_took _ _ _ _ _ (sym c.read_number.ensures ∙ c.in_ok-cycle.was)).least)

pub overflow_add-result : goal.overflow_add-result
overflow_add-result c = let one = number_took _ _ _ _ _ (sym c.read_number.ensures ∙ c.in_ok-cycle.was) in
    let two = number_took _ _ _ _ _ (sym (rw c.rest.ensures at c.read_number-2.ensures) ∙ c.in_ok-pst.was) in
    omega (arith, one.least, two.least)

pub overflow_add-result-2 : goal.overflow_add-result-2
overflow_add-result-2 c = let bytes = c.args.bytes.now in
    let one = number_took _ _ _ _ _ (sym c.read_number.ensures ∙ c.in_ok-cycle.was) in
    let two = number_took _ _ _ _ _ (sym (rw c.rest.ensures at c.read_number-2.ensures) ∙ c.in_ok-pst.was) in
    omega (arith, one.within, two.within, length-drop c.in_ok-cycle.used bytes)

pub returns : goal.returns
unfolding line_word
returns c = let one = sym c.read_number.ensures ∙ c.in_ok-cycle.was in
    let two = sym (rw c.rest.ensures at c.read_number-2.ensures) ∙ c.in_ok-pst.was in
    rw (one, two)
