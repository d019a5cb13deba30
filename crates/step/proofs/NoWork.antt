-- A plan that is no work: the board and memory stay.
use Prim.Native.Nat.{ℕ}
use mathlib.Core.Path.{◌≡◌, refl}
use mathlib.Core.List.{List, [], ◌∷◌}
use borrow.Enum.Refused.{Among, opened}
use types.Run.{miss}
use denote.Enum.Declared
use Rattle.board.specs.declared.Board.{Board}
use Rattle.board.specs.declared.Place.{Place}
use Rattle.board.specs.State.{state_of}
use Rattle.plan.specs.declared.Plan.{Plan}
use Rattle.plan.specs.declared.Plan.TheVariants.{Hold, Reject, Release, Work}
use Rattle.plan.specs.contracts.Plan as declared
use Rattle.step.specs.Step.{left}
use Rattle.step.specs.StepMirror.{without_work}

pub no_work : (b : Board) (p : Place) (m : List ℕ) (plan : Plan) → Among (0 ∷ 1 ∷ 2 ∷ []) (Declared.tag_of declared.the_type plan)
    → state_of b (without_work plan p) m ≡ left plan (state_of b p m)
no_work b p m (Hold phase) h = refl
no_work b p m Reject h = refl
no_work b p m (Release low) h = refl
no_work b p m (Work c address value) h = absurd (miss (0 ∷ 1 ∷ 2 ∷ []) 3 _ (opened h))
