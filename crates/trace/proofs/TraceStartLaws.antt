-- Laws of a start at a cycle of the trace with what that cycle finds under way: it is read where the whole trace is, and counts the rest.
use Rattle.std.specs.Prelude.{◌≡◌, ℕ, zero, suc, ◌+◌, ◌-◌, ◌≤◌, Bool, true, false, cond, List, length}
use Rattle.std.proofs.Common.{ap, sym, ◌∙◌, add-one, arith, length-append}
use Rattle.grounds.specs.declared.Ground.TheVariants.{ReservedPst, MarkerTooSoon}
use Rattle.grounds.specs.Grounds.{number}
use Rattle.cycle.specs.declared.Carried.{Carried}
use Rattle.cycle.specs.Cycle.{pst, reserved, too_soon, nothing, after, carried_into}
use Rattle.trace.specs.Items.{items_before, items, items_to_end}
use Rattle.laws.specs.StoreLaws.{one_left}
use Rattle.trace.specs.ItemsFromLaws.{items_split}
use Rattle.trace.specs.TraceReading.{Told, refusal, counted, earliest, reading, reading_from}
use Rattle.trace.proofs.TraceReadingLaws.{passes_any, read_count, read_short, reading_short, reading_whole}

-- the items before a cycle and those from it on are as many as the trace's
pub count_split : (trace : List ℕ) (i : ℕ) → i ≤ length trace
    → length (items_before trace i) + length (items_to_end trace i (carried_into trace i)) ≡ length (items trace)
count_split trace i h = sym (length-append (items_before trace i) (items_to_end trace i (carried_into trace i))) ∙ ap length (items_split trace i h)

-- cycles that are not refused leave those after the first not refused
earliest_on : (trace : List ℕ) (i : ℕ) (c : Carried) (n m : ℕ) (otherwise : Carried → Told) → earliest trace i c (suc n) otherwise ≡ counted m
    → earliest trace (i + 1) (after c (pst trace i)) n otherwise ≡ counted m
unfolding earliest
earliest_on trace i c n m otherwise = by_tests (reserved (pst trace i)) (too_soon c.due (pst trace i))
  where
    on : Told
    on = earliest trace (i + 1) (after c (pst trace i)) n otherwise

    by_tests : (r s : Bool) → cond r (refusal (number ReservedPst) i) (cond s (refusal (number MarkerTooSoon) i) on) ≡ counted m → on ≡ counted m
    by_tests true s e = let z : ◌≡◌ {A = ℕ} 0 1 = cc in absurd (omega arith)
    by_tests false true e = let z : ◌≡◌ {A = ℕ} 0 1 = cc in absurd (omega arith)
    by_tests false false e = e

earliest_from : (trace : List ℕ) (m : ℕ) (otherwise : Carried → Told) → earliest trace 0 nothing (length trace - 0) otherwise ≡ counted m
    → (i : ℕ) → i ≤ length trace → earliest trace i (carried_into trace i) (length trace - i) otherwise ≡ counted m
unfolding carried_into
earliest_from trace m otherwise e zero h = e
earliest_from trace m otherwise e (suc i) h =
    let here = rw (one_left (length trace) i (omega arith)) at (earliest_from trace m otherwise e i (omega arith)) in
    rw (add-one i) at (earliest_on trace i (carried_into trace i) (length trace - (i + 1)) m otherwise here)

-- a trace that can be read can be read from each of its cycles on, and what is counted there is the rest
pub read_on : (trace : List ℕ) (i n : ℕ) → i ≤ length trace → reading trace ≡ counted n
    → reading_from trace i (carried_into trace i) ≡ counted (n - length (items_before trace i))
read_on trace i n h e =
    reading_short trace i (carried_into trace i) short
    ∙ passes_any trace i (carried_into trace i) (length trace - i) (length (items_to_end trace 0 nothing)) n _
    (earliest_from trace n _ (sym (reading_short trace 0 nothing short) ∙ first) i h)
    ∙ ap counted rest
  where
    first : reading_from trace 0 nothing ≡ counted n
    first = reading_whole trace ∙ e

    short : length trace ≤ 65536
    short = read_short trace 0 nothing n first

    rest : length (items_to_end trace i (carried_into trace i)) ≡ n - length (items_before trace i)
    rest = omega (arith, count_split trace i h, read_count trace n e)
