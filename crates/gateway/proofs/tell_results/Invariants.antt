use Prim.Native.Nat.{◌-◌}
use mathlib.Core.List.{[], ◌∷◌, ◌++◌}
use Rattle.console.specs.GatheringLaws.{Gathering}
use Rattle.visit_lines.specs.VisitLines.{result_lines, read_line}
use Rattle.gateway.proofs.tell_results.Given as goal

abbrev pub invariant-loop-j : goal.invariant-loop-j
invariant-loop-j l =
    Gathering l.initial.text (result_lines l.visit.ends 0 l.visit l.notes ++ read_line l.visit ∷ []) l.text l.at (result_lines (l.visit.ends - l.j) l.j l.visit l.notes ++ read_line l.visit ∷ [])
