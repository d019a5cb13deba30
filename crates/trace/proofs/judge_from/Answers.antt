use borrow.Author.Tests.{eq-eqb, ne_eqb, lt-ltb}
use mathlib.Core.Path.{ap, sym, ◌∙◌}
use Prim.Native.Nat.{◌-◌}
use native.Mathlib.Nat.{zero-add}
use native.Mathlib.Omega.{arith}
use borrow.Author.Rules.{rules}
use lib.ListN.{length}
use Rattle.trace.specs.Items.{items_to_end}
use Rattle.trace.specs.ItemsFromLaws.{count_to_end, to_end_none, items_from_le}
use Rattle.trace.specs.TraceReading.{counted, too_long, judged_from, reading_from}
use Rattle.trace.proofs.TraceReadingLaws.{earliest_refused, earliest_goes_on, earliest_ends, reading_short}
use Rattle.trace.proofs.judge_from.Goals as goal

pub returns-then-trace-gt65536 : goal.returns-then-trace-gt65536
unfolding reading_from judged_from too_long
returns-then-trace-gt65536 c = rw (lt-ltb 65536 (length c.args.trace.now) (omega arith))

pub loop-i-init : goal.loop-i-init
loop-i-init c = (zero-add _, sym (reading_short _ _ _ (search rules)))

pub returns-in-Err : goal.returns-in-Err
returns-in-Err c = let w = c.loop-i in
    sym (earliest_refused _ w.i _ _ (search rules) (sym c.in-Err.ensures)) ∙ w.invariant.1

pub overflow_add-items : goal.overflow_add-items
overflow_add-items c = let w = c.loop-i in
    let a = c.args in
    let trace = a.trace.now in
    let e = count_to_end trace w.i w.carried (omega arith) in
    omega (arith, c.count_items-items.ensures trace w.i, items_from_le trace a.from a.found (length trace - a.from))

pub loop-i-preserved : goal.loop-i-preserved
loop-i-preserved c = let w = c.loop-i in
    let trace = c.args.trace.now in
    let e = count_to_end trace w.i w.carried (search rules) in
    rw (c.after_cycle-carried.ensures, c.count_items-items.ensures trace w.i)
    (omega (arith, w.invariant.0), sym (earliest_goes_on _ w.i _ _ (search rules) (sym c.in_default.ensures)) ∙ w.invariant.1)

pub returns-then-carried-eq0 : goal.returns-then-carried-eq0
returns-then-carried-eq0 c = let w = c.loop-i in
    let a = c.args in
    let trace = a.trace.now in
    let all = counted (length (items_to_end trace a.from a.found)) in
    let e = ap length (to_end_none trace w.i w.carried (omega arith)) in
    ap counted (omega (arith, w.invariant.0)) ∙ rw (eq-eqb _ _ c.if-carried-eq0.true) at (sym (earliest_ends trace w.i w.carried all (omega arith))) ∙ w.invariant.1

pub returns-else-carried-eq0 : goal.returns-else-carried-eq0
returns-else-carried-eq0 c = let w = c.loop-i in
    let a = c.args in
    let trace = a.trace.now in
    let all = counted (length (items_to_end trace a.from a.found)) in
    rw (ne_eqb _ _ c.if-carried-eq0.false) at (sym (earliest_ends trace w.i w.carried all (omega arith))) ∙ w.invariant.1
