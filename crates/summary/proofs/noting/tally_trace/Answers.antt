use borrow.Author.Tests.{eq-eqb, ne_eqb}
use mathlib.Core.Path.{◌≡◌, refl, ap, sym, ◌∙◌}
use Prim.Native.Nat.{◌<◌}
use mathlib.Core.List.{◌++◌}
use native.Mathlib.Omega.{arith}
use lib.ListN.{length}
use Rattle.cycle.specs.Cycle.{pst, carried_into}
use Rattle.cycle.proofs.CycleLaws.{carried_next}
use Rattle.cycle.specs.CycleItems.{value_item}
use Rattle.trace.specs.Items.{items_before, items}
use Rattle.cycle.specs.CycleCountLaws.{count_le}
use Rattle.trace.specs.ItemLaws.{count_next, items_before_le}
use Rattle.trace.specs.TraceReading.{counted}
use Rattle.trace.proofs.TraceReadingLaws.{earliest_refused, earliest_goes_on, earliest_ends}
use Rattle.index.specs.RangeLaws.{marker_at_most}
use Rattle.summary.specs.NotingLaws.{cycle_noted, items_with_value, room_for_one}
use Rattle.index.specs.Index.{first_entries, index_words}
use Rattle.index.proofs.IndexLaws.{entry_next}
use Rattle.summary.specs.PassLaws.{judging_starts, too_long_so}
use borrow.Author.Rules.{rules}
use Rattle.summary.proofs.noting.tally_trace.Goals as goal

pub returns-then-trace-gt65536 : goal.returns-then-trace-gt65536
returns-then-trace-gt65536 c = (too_long_so _ (search rules), tt)

pub loop-i-init : goal.loop-i-init
unfolding carried_into items_before first_entries
loop-i-init c = (
  c.nothing_carried-carried.ensures,
  refl,
  c.requires,
  refl,
  judging_starts _ _ (search rules)
      c.nothing_carried-carried.ensures,
)

pub returns-in-Err : goal.returns-in-Err
returns-in-Err c = let w = c.loop-i in
    (sym (earliest_refused _ w.i _ _ (search rules) (sym c.in-Err.ensures)) ∙ w.invariant.4, tt)

pub put_entry-requires : goal.put_entry-requires
put_entry-requires c = let w = c.loop-i in (
  search rules,
  omega (
    arith,
    w.invariant.1,
    items_before_le
        c.args.trace.now w.i,
  ),
)

pub note_value-requires : goal.note_value-requires
note_value-requires c = let w = c.loop-i in
    let trace = c.args.trace.now in
    let m : w.carried.marker < 16 = rw w.invariant.0 (omega (arith, marker_at_most trace w.i)) in
    (search rules, m, room_for_one (items_before trace w.i) w.carried.marker m (omega (arith, items_before_le trace w.i)) w.invariant.2)

pub note_own-requires : goal.note_own-requires
note_own-requires c = let w = c.loop-i in
    let trace = c.args.trace.now in
    let t = c.note_value.ensures trace (items_before trace w.i) w.invariant.2 in
    let p : pst trace w.i < 16 = omega (arith, c.type_inv.trace w.i) in (
      search rules,
      p,
      room_for_one (items_before trace w.i ++ value_item trace w.i w.carried) (pst trace w.i) p
          (omega (arith, items_with_value trace w.i w.carried)) t,
    )

pub overflow_add-items : goal.overflow_add-items
overflow_add-items c = let w = c.loop-i in
    let trace = c.args.trace.now in
    omega (arith, c.count_items-items.ensures trace w.i, count_le trace w.i w.carried (pst trace w.i), items_before_le trace w.i, w.invariant.1)

pub loop-i-preserved : goal.loop-i-preserved
loop-i-preserved c = let w = c.loop-i in
    let a = c.args in
    let trace = a.trace.now in
    let v = c.note_value.ensures trace (items_before trace w.i) w.invariant.2 in
    let t = c.note_own.ensures (items_before trace w.i ++ value_item trace w.i w.carried) v in (
      c.after_cycle-carried.ensures ∙ carried_next _ w.i w.carried w.invariant.0,
      rw (c.count_items-items.ensures trace w.i) (count_next _ w.i w.items w.carried w.invariant.1 w.invariant.0),
      cycle_noted trace w.i w.carried w.invariant.0 t,
      rw c.put_entry.ensures
          (entry_next trace a.entries.now w.i w.entries w.items w.carried w.invariant.3 w.invariant.1 w.invariant.0),
      rw c.after_cycle-carried.ensures (sym (earliest_goes_on _ w.i _ _ (search rules) (sym c.in_default.ensures)) ∙ w.invariant.4),
    )

pub returns-then-carried-eq0 : goal.returns-then-carried-eq0
unfolding items index_words
returns-then-carried-eq0 c = let w = c.loop-i in
    let trace = c.args.trace.now in
    let e : w.i ≡ length trace = omega arith in (
      ap counted (rw e at w.invariant.1) ∙ rw (eq-eqb _ _ c.if-carried-eq0.true) at
          (sym (earliest_ends trace w.i w.carried (counted (length (items trace))) (omega arith))) ∙ w.invariant.4,
      (rw e at w.invariant.2, rw e at w.invariant.3),
    )

pub returns-else-carried-eq0 : goal.returns-else-carried-eq0
returns-else-carried-eq0 c = let w = c.loop-i in
    let trace = c.args.trace.now in
    (rw (ne_eqb _ _ c.if-carried-eq0.false) at (sym (earliest_ends trace w.i w.carried (counted (length (items trace))) (omega arith))) ∙ w.invariant.4, tt)
