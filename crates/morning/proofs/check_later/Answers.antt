use mathlib.Core.Path.{◌∙◌}
use mathlib.Core.List.{[], ◌∷◌}
use Rattle.morning.specs.Morning.{p5, p6, p7, p8}
use Rattle.morning.specs.MorningLaws.{paged_on, paged_none}
use Rattle.morning.proofs.check_later.Goals as goal

pub shape_of-memory : goal.shape_of-memory
shape_of-memory c = c.memory-4-1.given ∙ c.memory-3-1.given
    ∙ c.memory-2-1.given
    ∙ c.memory-1.given

pub shape_of-page : goal.shape_of-page
shape_of-page c = c.page-4-1.given ∙ c.page-3-1.given
    ∙ c.page-2-1.given
    ∙ c.page-1.given

pub returns : goal.returns
returns c = paged_on p5 (p6 ∷ p7 ∷ p8 ∷ []) _ c.check-five.ensures
    (paged_on p6 (p7 ∷ p8 ∷ []) _ c.check-six.ensures
    (paged_on p7 (p8 ∷ []) _ c.check-seven.ensures
    (paged_on p8 [] _ c.check-eight.ensures (paged_none _))))
