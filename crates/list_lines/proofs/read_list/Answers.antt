use mathlib.Core.Path.{refl, sym, ◌∙◌}
use mathlib.Core.List.{[]}
use native.Mathlib.Omega.{arith}
use lib.ListN.{length, length-drop}
use Rattle.list_lines.specs.ListLinesLaws.{named_took}
use Rattle.list_lines.specs.ListInLaws.{no_cycles, no_changed, no_places, some_lines, none_met}
use borrow.Author.Rules.{rules}
use Rattle.list_lines.proofs.read_list.Goals as goal

pub returns-in_err-cycles : goal.returns-in_err-cycles
returns-in_err-cycles c = rw (c.from_residual.ensures, no_cycles _ _ (sym c.read_named.ensures ∙ c.in_err-cycles.was)) (none_met [] _ refl)

pub returns-in_err-changed : goal.returns-in_err-changed
returns-in_err-changed c = let none = sym (rw c.rest.ensures at c.read_named-2.ensures) ∙ c.in_err-changed.was in
    rw (c.from_residual-in_err-changed.ensures, no_changed _ _ (sym c.read_named.ensures ∙ c.in_ok-cycles.was) none) (none_met [] _ refl)

pub returns-then-list-changed : goal.returns-then-list-changed
returns-then-list-changed c = let one = sym c.read_named.ensures ∙ c.in_ok-cycles.was in
    let two = sym (rw c.rest.ensures at c.read_named-2.ensures) ∙ c.in_ok-changed.was in
    rw (no_places (length c.args.list.now) _ one two (search rules)) (none_met [] _ refl)

pub overflow_add-used : goal.overflow_add-used
overflow_add-used c = let bytes = c.args.bytes.now in
    let one = named_took _ _ _ _ _ _ (sym c.read_named.ensures ∙ c.in_ok-cycles.was) in
    let two = named_took _ _ _ _ _ _ (sym (rw c.rest.ensures at c.read_named-2.ensures) ∙ c.in_ok-changed.was) in
    omega (arith, one, two, length-drop c.in_ok-cycles.used bytes)

pub read_changes-requires : goal.read_changes-requires
read_changes-requires c = let bytes = c.args.bytes.now in
    let one = named_took _ _ _ _ _ _ (sym c.read_named.ensures ∙ c.in_ok-cycles.was) in
    let two = named_took _ _ _ _ _ _ (sym (rw c.rest.ensures at c.read_named-2.ensures) ∙ c.in_ok-changed.was) in
    (search rules, omega (arith, one, two, length-drop c.in_ok-cycles.used bytes))

pub returns : goal.returns
returns c = let one = sym c.read_named.ensures ∙ c.in_ok-cycles.was in
    let two = sym (rw c.rest.ensures at c.read_named-2.ensures) ∙ c.in_ok-changed.was in
    rw (some_lines (length c.args.list.now) _ one two (search rules)) c.read_changes.ensures
