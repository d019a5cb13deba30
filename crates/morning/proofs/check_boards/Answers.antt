use mathlib.Core.Path.{◌∙◌}
use mathlib.Core.List.{◌∷◌}
use Rattle.morning.specs.Morning.{p1, p2, p3, p4, later, boards}
use Rattle.morning.specs.MorningLaws.{paged_first, paged_on}
use Rattle.morning.proofs.check_boards.Goals as goal

pub shape_of-memory : goal.shape_of-memory
shape_of-memory c = c.memory-5-1.given ∙ c.memory-4-1.given
    ∙ c.memory-3-1.given
    ∙ c.memory-2-1.given
    ∙ c.memory-1.given

pub shape_of-page : goal.shape_of-page
shape_of-page c = c.page-5-1.given ∙ c.page-4-1.given
    ∙ c.page-3-1.given
    ∙ c.page-2-1.given
    ∙ c.page-1.given

pub returns : goal.returns
returns c = paged_first boards _ c.opened-bench.ensures
    (paged_on p1 (p2 ∷ p3 ∷ p4 ∷ later) _ c.check-one.ensures
    (paged_on p2 (p3 ∷ p4 ∷ later) _ c.check-two.ensures
    (paged_on p3 (p4 ∷ later) _ c.check-three.ensures
    (paged_on p4 later _ c.check-four.ensures c.check_later.ensures))))
