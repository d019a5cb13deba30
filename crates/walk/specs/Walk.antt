-- Recorded cycles (01), the walk: the struct that borrows the trace, its start and its steps.
use Rattle.std.specs.Prelude.{◌≡◌, ℕ, zero, suc, List, [], ◌∷◌, Option, Result}
use Rattle.trace.specs.declared.Refused.{Refused}
use Rattle.cycle.specs.declared.Item.{Item}
use Rattle.std.specs.Borrow.{Bor}
use Rattle.steps.specs.declared.Cursor.{Cursor}
use Rattle.steps.specs.declared.Step.{Step}
use Rattle.steps.specs.WalkStep.{StartMeets, step_of}
use Rattle.walk.specs.declared.Walk.{Walk}
use Rattle.walk.specs.declared.Stepped.{Stepped}

-- "a walk that borrows the trace and remembers its place": the struct of the two
abbrev pub walk_at : Bor (List ℕ) → Cursor → Walk
walk_at trace cursor = record { trace = trace; cursor = cursor }

-- a walk starts on the trace it is given, at that trace's start
pub record WalkStarts (trace : Bor (List ℕ)) (walk : Walk) : Type 0 where
  pub borrowed : walk ≡ walk_at trace walk.cursor
  pub started : StartMeets trace.now walk.cursor

-- the walk on the same trace at the step's cursor, and what the step hands out
abbrev pub stepped_to : Walk → Step → Stepped
stepped_to walk step = record { walk = walk_at walk.trace step.cursor; handed = step.handed }

abbrev pub stepped_of : Walk → Stepped
stepped_of walk = stepped_to walk (step_of walk.trace.now walk.cursor)

-- what so many steps hand out, in their order, each taken from the walk that the step before it gave back
unfoldable pub handed_out : ℕ → Walk → List (Result (Option Item) Refused)
handed_out zero walk = []
handed_out (suc n) walk = (stepped_of walk).handed ∷ handed_out n (stepped_of walk).walk
