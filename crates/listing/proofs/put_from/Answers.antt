use mathlib.Core.Path.{ap}
use Prim.Native.Nat.{◌+◌}
use native.Mathlib.Omega.{arith}
use borrow.Author.Rules.{rules}
use lib.ListN.{length, length-append}
use Rattle.cycle.specs.Cycle.{pst, after}
use Rattle.cycle.specs.CycleItems.{items_at}
use Rattle.trace.specs.Items.{items_to_end, words}
use Rattle.trace.specs.ItemsFromLaws.{to_end_none, words_to_end}
use Rattle.laws.specs.StoreLaws.{sets_append, length_stored}
use Rattle.listing.proofs.put_from.Goals as goal

pub put_cycle-at-requires : goal.put_cycle-at-requires
put_cycle-at-requires c = let a = c.args in
    let w = c.loop-i in
    let trace = a.trace.now in
    let W = words (items_at trace w.i w.carried (pst trace w.i)) in
    let R = words (items_to_end trace (w.i + 1) (after w.carried (pst trace w.i))) in
    let e = ap length (words_to_end trace w.i w.carried (search rules)) in
    (search rules, omega (arith, e, length-append W R, w.invariant.1, w.invariant.0))

pub loop-i-preserved : goal.loop-i-preserved
loop-i-preserved c = let a = c.args in
    let w = c.loop-i in
    let trace = a.trace.now in
    let W = words (items_at trace w.i w.carried (pst trace w.i)) in
    let R = words (items_to_end trace (w.i + 1) (after w.carried (pst trace w.i))) in
    let e = words_to_end trace w.i w.carried (search rules) in
    let p = c.put_cycle-at.ensures in
    rw c.after_cycle-carried.ensures (
      omega (arith, w.invariant.0, length_stored w.out W w.at p.stored),
      omega (arith, p.place, w.invariant.1, ap length e, length-append W R),
      cc (p.place, p.stored, w.invariant.2, e, sets_append W R w.out w.at),
    )

pub returns : goal.returns
returns c = let w = c.loop-i in
    let trace = c.args.trace.now in
    rw (to_end_none trace w.i w.carried (omega arith)) at w.invariant.2
