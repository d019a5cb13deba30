use Rattle.text.specs.TextLaws.{◌then◌}
use mathlib.Core.Path.{refl}
use Rattle.answers.proofs.lend.Goals as goal

pub returns : goal.returns
returns c = record { bench = refl; memory = c.clear.ensures; text = c.put_text-at.ensures then c.put_number.ensures }
