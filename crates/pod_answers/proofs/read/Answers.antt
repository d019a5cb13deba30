use Rattle.pod_answers.specs.PodSaidLaws.{reading_answered}
use Rattle.pod_answers.proofs.read.Goals as goal

pub returns : goal.returns
returns c = rw (reading_answered c.read.ensures) at c.put_reading.ensures
