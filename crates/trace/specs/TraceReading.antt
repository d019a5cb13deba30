-- Refusals 7 to 11 (01): how a trace is judged, as a whole or from one of its cycles on.
use Rattle.std.specs.Prelude.{ℕ, zero, suc, ◌+◌, ◌-◌, cond, List, ltb, eqb, length, Result, Ok, Err}
use Rattle.trace.specs.declared.Refused.{Refused}
use Rattle.grounds.specs.declared.Ground.{Ground}
use Rattle.grounds.specs.declared.Ground.TheVariants.{TraceTooLong, ReservedPst, MarkerTooSoon, TraceCutShort, BufferTooShort}
use Rattle.grounds.specs.Grounds.{number}
use Rattle.cycle.specs.declared.Carried.{Carried}
use Rattle.cycle.specs.Cycle.{pst, reserved, too_soon, nothing, after}
use Rattle.trace.specs.Items.{items, items_to_end}

-- "A refusal returns its number, with the cycle for 8 and 9 and zero elsewhere"; else the items are counted
pub data Told : Type 0 where
  refusal : (number cycle : ℕ) → Told
  counted : (items : ℕ) → Told

-- 01's number and values for each case of the answer
abbrev pub told_listing : Result ℕ Refused → Told
told_listing (Ok n) = counted n
told_listing (Err r) = refusal (number r.why) r.cycle

-- 7: "a trace longer than 65,536 cycles"
unfoldable pub too_long : List ℕ → Told → Told
too_long trace otherwise = cond (ltb 65536 (length trace)) (refusal (number TraceTooLong) 0) otherwise

-- 8, then 9, of one cycle of PST p, which finds so many nibbles due
unfoldable pub cycle_judged : ℕ → ℕ → Result Unit Ground
cycle_judged due p = cond (reserved p) (Err ReservedPst) (cond (too_soon due p) (Err MarkerTooSoon) (Ok tt))

-- "the earliest cycle with 8 or 9", of n cycles from cycle i on, which finds c under way; else by what they leave under way
unfoldable pub earliest : List ℕ → ℕ → Carried → ℕ → (Carried → Told) → Told
earliest trace i c zero otherwise = otherwise c
earliest trace i c (suc n) otherwise =
    cond (reserved (pst trace i)) (refusal (number ReservedPst) i)
    (cond (too_soon c.due (pst trace i)) (refusal (number MarkerTooSoon) i)
    (earliest trace (i + 1) (after c (pst trace i)) n otherwise))

-- 10: "the trace ends inside a transfer": nibbles are still due of what its last cycle leaves
unfoldable pub ends_inside : Told → Carried → Told
ends_inside otherwise c = cond (eqb c.due 0) otherwise (refusal (number TraceCutShort) 0)

-- 11: "the result buffer is too short", by the words that are needed
unfoldable pub too_short : ℕ → ℕ → Told → Told
too_short needed room otherwise = cond (ltb room needed) (refusal (number BufferTooShort) 0) otherwise

-- "Traces: 7, then the earliest cycle with 8 or 9, then 10, .." where a trace is read from cycle i on, which finds c under way
unfoldable pub judged_from : List ℕ → ℕ → Carried → Told → Told
judged_from trace i c otherwise = too_long trace (earliest trace i c (length trace - i) (ends_inside otherwise))

-- the same of a whole trace
abbrev pub judged : List ℕ → Told → Told
judged trace otherwise = judged_from trace 0 nothing otherwise

-- "11 aside": the answer where no buffer is judged
unfoldable pub reading : List ℕ → Told
reading trace = judged trace (counted (length (items trace)))

-- the same from cycle i on: the refusals are judged of the cycles from there on, and the items are theirs
unfoldable pub reading_from : List ℕ → ℕ → Carried → Told
reading_from trace i c = judged_from trace i c (counted (length (items_to_end trace i c)))
