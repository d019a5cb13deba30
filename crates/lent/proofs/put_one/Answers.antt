use Prim.Native.Nat.{◌+◌, ◌*◌, ◌%◌}
use mathlib.Core.Path.{◌≡◌, sym}
use native.Mathlib.Omega.{arith}
use lib.Seq.{set_out}
use Rattle.numbers.specs.Numbers.{byte_at}
use Rattle.lent.specs.LentLaws.{byte_small}
use Rattle.lent.proofs.put_one.Goals as goal

pub returns-then-place-memory : goal.returns-then-place-memory
returns-then-place-memory c = let at = c.args in
    let same : c.byte_after.result % 256 ≡ byte_at at.line.now (at.start + 2 * at.i) = omega (arith, c.byte_after.ensures, byte_small at.line.now (at.start + 2 * at.i)) in
    let here : c.saturating_add-place.result ≡ at.to + at.i = omega arith in
    rw (same, here)

pub returns-else-place-memory : goal.returns-else-place-memory
returns-else-place-memory c = sym (set_out c.args.memory.now (c.args.to + c.args.i) _ (omega arith))
