-- Laws of one step: what the cycle at which the walk stands makes of it, and that an item is of one of the trace's cycles.
use Rattle.std.specs.Prelude.{◌≡◌, refl, ℕ, zero, suc, ◌+◌, ◌-◌, ◌≤◌, ◌<◌, Bool, true, false, cond, List, Err, None, Ok, Result, Some, Option}
use Rattle.trace.specs.declared.Refused.{Refused}
use Rattle.std.proofs.Common.{ap}
use native.Mathlib.Omega.{arith}
use Rattle.std.proofs.Math.ListN.{length}
use Rattle.grounds.specs.declared.Ground.{Ground}
use Rattle.cycle.specs.declared.Carried.{Carried}
use Rattle.cycle.specs.declared.Item.{Item}
use Rattle.steps.specs.declared.Cursor.{Cursor}
use Rattle.cycle.specs.Cycle.{pst, gives_own, after}
use Rattle.cycle.specs.CycleItems.{of_value, of_cycle}
use Rattle.laws.specs.StoreLaws.{one_left}
use Rattle.steps.specs.declared.Step.{Step}
use Rattle.steps.specs.WalkStep.{cursor_at, value_next, handing, step_from, step_read, step_by, step_of}

module _ (trace : List ℕ) (start : Result ℕ Refused) (i : ℕ) (c : Carried) (past : Bool) where
  module _ (h : i < length trace) where
    pub step_value : value_next c.due past ≡ true
        → step_from trace start (length trace - i) i c past ≡ handing (cursor_at start i c true) (of_value trace i c.marker)
    unfolding step_from
    step_value v = rw (one_left (length trace) i h, v)

    pub step_own : value_next c.due past ≡ false → gives_own c.run (pst trace i) ≡ true
        → step_from trace start (length trace - i) i c past ≡ handing (cursor_at start (i + 1) (after c (pst trace i)) false) (of_cycle i (pst trace i))
    unfolding step_from
    step_own v o = rw (one_left (length trace) i h, v, o)

    pub step_on : value_next c.due past ≡ false → gives_own c.run (pst trace i) ≡ false
        → step_from trace start (length trace - i) i c past ≡ step_from trace start (length trace - (i + 1)) (i + 1) (after c (pst trace i)) false
    unfolding step_from
    step_on v o = rw (one_left (length trace) i h, v, o)

  pub step_past : length trace ≤ i → step_from trace start (length trace - i) i c past ≡ record { cursor = cursor_at start i c past; handed = Ok None }
  unfolding step_from
  step_past h = rw none_left
    where
      none_left : length trace - i ≡ 0
      none_left = omega arith

-- a step goes by how the start was judged
pub step_refused : (trace : List ℕ) (cursor : Cursor) (why : Ground) (cycle : ℕ) → cursor.start ≡ Err (record { why = why; cycle = cycle })
    → step_of trace cursor ≡ record { cursor = cursor; handed = Err (record { why = why; cycle = cycle }) }
unfolding step_of
step_refused trace cursor why cycle e = ap (step_by trace cursor) e

pub step_read_lem : (trace : List ℕ) (cursor : Cursor) (n : ℕ) → cursor.start ≡ Ok n
    → step_of trace cursor ≡ step_read trace cursor
unfolding step_of
step_read_lem trace cursor n e = ap (step_by trace cursor) e

from_within : (trace : List ℕ) (start : Result ℕ Refused) (n i : ℕ) (c : Carried) (past : Bool) (x : Item) → n ≡ length trace - i
    → (step_from trace start n i c past).handed ≡ Ok (Some x) → x.cycle < length trace
unfolding step_from
from_within trace start zero i c past x e f = let z : ◌≡◌ {A = ℕ} 0 1 = cc in absurd (omega arith)
from_within trace start (suc n) i c past x e f =
    by_test (value_next c.due past) (gives_own c.run (pst trace i)) (from_within trace start n (i + 1) (after c (pst trace i)) false x (omega arith)) f
  where
    on : Step
    on = step_from trace start n (i + 1) (after c (pst trace i)) false

    at_i : (y : Item) → y.cycle ≡ i → ◌≡◌ {A = Result (Option Item) Refused} (Ok (Some y)) (Ok (Some x)) → x.cycle < length trace
    at_i y g h = let same : y ≡ x = cc in let z : x.cycle ≡ i = cc in omega arith

    by_test : (a b : Bool) → (on.handed ≡ Ok (Some x) → x.cycle < length trace)
        → (cond a (handing (cursor_at start i c true) (of_value trace i c.marker))
        (cond b (handing (cursor_at start (i + 1) (after c (pst trace i)) false) (of_cycle i (pst trace i))) on)).handed ≡ Ok (Some x)
        → x.cycle < length trace
    by_test true b ih g = at_i (of_value trace i c.marker) refl g
    by_test false true ih g = at_i (of_cycle i (pst trace i)) refl g
    by_test false false ih g = ih g

-- an item handed out is of one of the trace's cycles
pub handed_within : (trace : List ℕ) (cursor : Cursor) (x : Item) → (step_of trace cursor).handed ≡ Ok (Some x) → x.cycle < length trace
handed_within trace cursor x e = by_start cursor.start refl
  where
    by_start : (l : Result ℕ Refused) → cursor.start ≡ l → x.cycle < length trace
    by_start (Err r) f =
        let h = step_refused trace cursor r.why r.cycle f in
        let z : ◌≡◌ {A = ℕ} 0 1 = cc in
        absurd (omega arith)
    by_start (Ok n) f =
        from_within trace cursor.start (length trace - cursor.cycle) cursor.cycle cursor.carried cursor.past x refl
        (rw (step_read_lem trace cursor n f) at e)
