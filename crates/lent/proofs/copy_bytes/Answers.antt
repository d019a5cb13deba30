use Prim.Native.Nat.{◌+◌, ◌*◌}
use mathlib.Core.Path.{◌∙◌}
use Rattle.numbers.specs.Numbers.{byte_at}
use Rattle.lent.specs.LentLaws.{put_next}
use Rattle.lent.proofs.copy_bytes.Goals as goal

pub loop-i-preserved : goal.loop-i-preserved
loop-i-preserved c = let at = c.loop-i in
    let given = c.args in
    c.put_one.ensures ∙ rw at.invariant (put_next (λ k. byte_at given.line.now (given.start + 2 * k)) at.i given.memory.now given.to)
