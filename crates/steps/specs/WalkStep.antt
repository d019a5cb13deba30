-- Recorded cycles (01), the walk: where it starts, and what one step from a cursor on hands out.
use Rattle.std.specs.Prelude.{◌≡◌, ℕ, zero, suc, ◌+◌, ◌-◌, Bool, true, false, cond, List, eqb, length, Err, None, Ok, Option, Result, Some}
use Rattle.trace.specs.declared.Refused.{Refused}
use Rattle.grounds.specs.Grounds.{number}
use Rattle.cycle.specs.declared.Carried.{Carried}
use Rattle.cycle.specs.declared.Item.{Item}
use Rattle.cycle.specs.Cycle.{pst, gives_own, nothing, after}
use Rattle.cycle.specs.CycleItems.{of_value, of_cycle}
use Rattle.trace.specs.TraceReading.{told_listing, reading}
use Rattle.steps.specs.declared.Cursor.{Cursor}
use Rattle.steps.specs.declared.Step.{Step}

abbrev pub cursor_at : Result ℕ Refused → ℕ → Carried → Bool → Cursor
cursor_at start i c past = record { start = start; cycle = i; carried = c; past = past }

-- a start stands before the first cycle, with nothing under way and nothing handed out
pub record StartMeets (trace : List ℕ) (cursor : Cursor) : Type 0 where
  -- "its start is refused as the listing is, 11 aside"
  pub judged : told_listing cursor.start ≡ reading trace
  pub first : cursor ≡ cursor_at cursor.start 0 nothing false

-- whether a value's item is the next of its cycle: its last nibble is due, and it is not handed out
abbrev pub value_next : ℕ → Bool → Bool
value_next due past = cond past false (eqb due 1)

abbrev pub handing : Cursor → Item → Step
handing cursor x = record { cursor = cursor; handed = Ok (Some x) }

-- "one item a step": the first item of n cycles from cycle i on, a value's before the cycle's own
unfoldable pub step_from : List ℕ → Result ℕ Refused → ℕ → ℕ → Carried → Bool → Step
step_from trace start zero i c past = record { cursor = cursor_at start i c past; handed = Ok None }
step_from trace start (suc n) i c past =
    cond (value_next c.due past) (handing (cursor_at start i c true) (of_value trace i c.marker))
    (cond (gives_own c.run (pst trace i)) (handing (cursor_at start (i + 1) (after c (pst trace i)) false) (of_cycle i (pst trace i)))
    (step_from trace start n (i + 1) (after c (pst trace i)) false))

-- the first item from a cursor on, where the start can be read
abbrev pub step_read : List ℕ → Cursor → Step
step_read trace cursor = step_from trace cursor.start (length trace - cursor.cycle) cursor.cycle cursor.carried cursor.past

-- a refused start is handed out at every step, and the walk stays
abbrev pub step_by : List ℕ → Cursor → Result ℕ Refused → Step
step_by trace cursor (Err r) = record { cursor = cursor; handed = Err (record { why = r.why; cycle = r.cycle }) }
step_by trace cursor (Ok n) = step_read trace cursor

-- one step of the walk
unfoldable pub step_of : List ℕ → Cursor → Step
step_of trace cursor = step_by trace cursor cursor.start

-- 01's number and values for each case of what a step hands out
pub data ToldStep : Type 0 where
  item : (cycle code value : ℕ) → ToldStep
  end : ToldStep
  refusal : (number cycle : ℕ) → ToldStep

abbrev pub told_handed : Result (Option Item) Refused → ToldStep
told_handed (Ok (Some x)) = item x.cycle x.code x.value
told_handed (Ok None) = end
told_handed (Err r) = refusal (number r.why) r.cycle
