use mathlib.Core.Path.{sym, ◌∙◌}
use Prim.Native.Nat.{◌+◌, ◌-◌}
use native.Mathlib.Omega.{arith}
use Rattle.cycle.proofs.CycleLaws.{value_where, value_of_none, value_before, value_leaves_room}
use Rattle.cycle.proofs.read_value.Goals as goal

pub loop-k-init : goal.loop-k-init
loop-k-init c = sym (value_of_none _ _ _ (omega arith))

pub overflow_mul-v : goal.overflow_mul-v
overflow_mul-v c = let w = c.loop-k in
    let n = c.from-n.result in
    record { fits = omega (arith, value_leaves_room c.args.trace.now (n - w.k) (c.first_nibble-from.result + w.k) (omega arith)) }

pub overflow_add-v : goal.overflow_add-v
overflow_add-v c = let w = c.loop-k in
    let n = c.from-n.result in
    record { fits = omega (arith, c.ddata_at.ensures, value_leaves_room c.args.trace.now (n - w.k) (c.first_nibble-from.result + w.k) (omega arith)) }

pub loop-k-preserved : goal.loop-k-preserved
loop-k-preserved c = let w = c.loop-k in
    rw (c.from.ensures, c.ddata_at.ensures, w.invariant) (sym (value_before _ _ _ _ _ (omega arith) (omega arith)))

pub returns : goal.returns
returns c = c.loop-k.invariant ∙ value_where _ (omega arith) (omega arith)
