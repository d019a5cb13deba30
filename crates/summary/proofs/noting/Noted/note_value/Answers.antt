use borrow.Author.Tests.{eq-eqb}
use Rattle.cycle.specs.CycleItems.{of_value}
use Rattle.summary.specs.NotingLaws.{note_one}
use Rattle.summary.proofs.noting.Noted.note_value.Goals as goal

pub returns-then-carried-eq1 : goal.returns-then-carried-eq1
returns-then-carried-eq1 c = let a = c in
    λ trace. rw (eq-eqb _ _ c.if-carried-eq1.true) (note_one (of_value trace a.args.i a.args.carried.marker) a.requires.1 c.note.ensures)
