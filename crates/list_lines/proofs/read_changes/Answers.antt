use native.Mathlib.Omega.{arith}
use lib.ListN.{drop, length-drop}
use Rattle.list_lines.specs.ListLinesLaws.{lines_used}
use Rattle.list_lines.proofs.read_changes.Goals as goal

pub overflow_add-result : goal.overflow_add-result
overflow_add-result c = let a = c.args in
    let m = rw c.rest.ensures at c.read_lines-lines.ensures in
    omega (arith, m.used, lines_used a.changed (drop a.from a.bytes.now), length-drop a.from a.bytes.now)
