use Prim.Native.Nat.{◌+◌, ◌-◌}
use native.Mathlib.Omega.{arith}
use native.Mathlib.Nat.{sub-zero}
use mathlib.Core.Path.{◌≡◌}
use mathlib.Core.List.{[], ◌∷◌, append_assoc}
use Rattle.console.specs.GatheringLaws.{gathers_none, gathers_line, gathers_all}
use Rattle.visit.specs.HandedOver.{handed_over}
use Rattle.visit_lines.specs.VisitLines.{result_line, result_lines, read_line}
use Rattle.visit_lines.specs.VisitLineLaws.{results_on}
use Rattle.gateway.specs.GatewayLaws.{gathers_result}
use Rattle.gateway.proofs.tell_results.Goals as goal

pub loop-j-init : goal.loop-j-init
loop-j-init c = rw (sub-zero _) (gathers_none _ _)

pub loop-j-preserved : goal.loop-j-preserved
loop-j-preserved c = let here = c.loop-j in
    let a = c.args in
    let notes = a.notes.now in
    let handed = handed_over a.visit notes here.j in
    let less = c.loop-j-test.true in
    let line = result_line a.visit.address here.j handed in
    let more = result_lines (a.visit.ends - (here.j + 1)) (here.j + 1) a.visit notes in
    gathers_result a.visit.address here.j handed
    (rw (results_on a.visit notes here.j less, append_assoc line more (read_line a.visit ∷ [])) at here.invariant)
    c.add_result-at.ensures

pub returns : goal.returns
returns c = let here = c.loop-j in
    let a = c.args in
    let none : a.visit.ends - here.j ≡ 0 = omega (arith, c.loop-j-test.false) in
    gathers_all (gathers_line (rw none at here.invariant) c.add_read-end.ensures)
