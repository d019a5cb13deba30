use native.Mathlib.Omega.{arith}
use Rattle.yarkovesh.proofs.mending_number.Goals as goal

pub returns-in-Err : goal.returns-in-Err
returns-in-Err c = rw c.in-Err.is (omega (arith, c.number_of.ensures))
