use mathlib.Core.Path.{sym, ◌∙◌}
use Rattle.cycle.specs.CycleItems.{of_cycle}
use Rattle.summary.specs.NotingLaws.{note_one}
use Rattle.summary.proofs.noting.Noted.note_own.Goals as goal

pub returns-then-gives_own : goal.returns-then-gives_own
returns-then-gives_own c = let a = c in
    rw (sym c.gives_own.ensures ∙ c.if-gives_own.true) (note_one (of_cycle a.args.i a.args.pst) a.requires.1 c.note.ensures)
