-- The words of a value's item and then those of the cycle's own are the words of the cycle.
use mathlib.Core.Path.{ap}
use native.Mathlib.Omega.{arith}
use lib.ListN.{length, length-append}
use Rattle.cycle.specs.CycleItems.{value_item, own_item}
use Rattle.trace.specs.Items.{words}
use Rattle.trace.specs.ItemLaws.{words_at}
use Rattle.laws.specs.StoreLaws.{sets_append, length_stored}
use borrow.Author.Rules.{rules}
use Rattle.listing.proofs.put_cycle.Goals as goal

pub put_value-next-requires : goal.put_value-next-requires
put_value-next-requires c = let a = c.args in
    let A = words (value_item a.trace.now a.i a.carried) in
    let B = words (own_item a.i a.carried.run a.pst) in
    let e = words_at a.trace.now a.i a.carried a.pst in
    (search rules, omega (arith, ap length e, length-append A B))

pub put_own-requires : goal.put_own-requires
put_own-requires c = let a = c.args in
    let A = words (value_item a.trace.now a.i a.carried) in
    let B = words (own_item a.i a.carried.run a.pst) in
    let e = words_at a.trace.now a.i a.carried a.pst in
    let p = c.put_value-next.ensures in
    (search rules, omega (arith, p.place, length_stored a.out.now A a.at p.stored, ap length e, length-append A B))

pub returns : goal.returns
returns c = let a = c.args in
    let A = words (value_item a.trace.now a.i a.carried) in
    let B = words (own_item a.i a.carried.run a.pst) in
    let e = words_at a.trace.now a.i a.carried a.pst in
    let p = c.put_value-next.ensures in
    let q = c.put_own.ensures in
    record { place = omega (arith, p.place, q.place, ap length e, length-append A B); stored = rw e (cc (p.place, p.stored, q.stored, sets_append A B a.out.now a.at)) }
