-- No second walk fits a trace.
use Rattle.std.specs.Prelude.{◌≡◌, ℕ, List}
use Rattle.std.proofs.Common.{ap, sym, ◌∙◌}
use Rattle.std.specs.Borrow.{Bor}
use Rattle.steps.specs.declared.Cursor.{Cursor}
use Rattle.steps.specs.WalkStepUnique.{start_unique}
use Rattle.walk.specs.declared.Walk.{Walk}
use Rattle.walk.specs.Walk.{walk_at, WalkStarts}

pub walk_unique : (trace : Bor (List ℕ)) (v w : Walk) → WalkStarts trace v → WalkStarts trace w → v ≡ w
walk_unique trace v w s t =
    s.borrowed ∙ ap (λ (p : Cursor). walk_at trace p) (start_unique trace.now v.cursor w.cursor s.started t.started) ∙ sym t.borrowed
