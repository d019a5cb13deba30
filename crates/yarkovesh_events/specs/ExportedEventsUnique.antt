-- No second answer fits what programs in other languages are promised of events.
use Rattle.std.specs.Prelude.{ℕ, ◌≡◌, List}
use Rattle.std.proofs.Common.{sym, ◌∙◌}
use Rattle.yarkovesh_events.specs.ExportedEvents.{EventsMeet}

pub events_unique : {registers words before : List ℕ} {r s : ℕ} {x y : List ℕ}
    → EventsMeet registers words before r x → EventsMeet registers words before s y → (r ≡ s) × (x ≡ y)
events_unique f g = (f.answer ∙ sym g.answer, f.answers ∙ sym g.answers)
