-- A bool counts 1 where it is true, and 0 where it is false.
use mathlib.Core.Path.{◌≡◌, refl, sym}
use mathlib.Core.Bool.{Bool, true, false}
use lib.Dec.{eqb}
use mir.Val.{bool_byte}
use Rattle.cycle.specs.CycleCountLaws.{one, items_counted}
use Rattle.cycle.proofs.count_items.Goals as goal

as_number : (t : Bool) → bool_byte t ≡ one t
as_number true = refl
as_number false = refl

pub returns : goal.returns
returns c = λ trace i. rw (c.from.ensures, c.from-2.ensures, c.gives_own.ensures, as_number (eqb c.args.carried.due 1), as_number)
    (sym (items_counted trace i c.args.carried c.args.pst))
