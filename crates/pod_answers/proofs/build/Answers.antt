use mathlib.Core.Path.{refl}
use Rattle.pod_answers.specs.PodSaidLaws.{refused_built}
use Rattle.pod_answers.proofs.build.Goals as goal

pub returns-in-Err : goal.returns-in-Err
returns-in-Err c = rw (← refused_built refl c.build.ensures c.in-Err.is) c.put_refusal.ensures
