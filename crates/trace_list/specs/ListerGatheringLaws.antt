-- Laws of the lister's lines gathered in the text: item by item, of a whole trace and of a listing.
use Rattle.std.specs.Prelude.{ℕ, suc, ◌+◌, ◌-◌, ◌*◌, ◌/◌, ◌≤◌, ◌<◌, ◌≡◌, refl, List, [], ◌∷◌, length, get_or, take, drop, Err, Ok, Result, Some}
use Rattle.trace.specs.declared.Refused.{Refused}
use Rattle.std.proofs.Common.{ap, sym, ◌∙◌, arith, add-one, length-drop, drop-cons, lt-ltb, le-ltb}
use Rattle.grounds.specs.declared.Ground.{Ground}
use Rattle.grounds.specs.Grounds.{number}
use Rattle.cycle.specs.declared.Item.{Item}
use Rattle.cycle.specs.Cycle.{nothing}
use Rattle.trace.specs.Items.{items, words}
use Rattle.trace.specs.TraceReading.{Told, refusal, counted, told_listing, reading}
use Rattle.trace.specs.ItemsFromLaws.{items_whole}
use Rattle.steps.specs.declared.Cursor.{Cursor}
use Rattle.steps.specs.WalkStep.{StartMeets, step_of}
use Rattle.walk.specs.WalkRestLaws.{rest, none_past, Unrolls, step_unrolls}
use Rattle.text.specs.Text.{written}
use Rattle.console.specs.LineWriting.{laid}
use Rattle.trace_list.specs.ListerLines.{item_line, item_lines, refused_line, head_line}
use Rattle.console.specs.GatheringMirror.{parts}
use Rattle.console.specs.GatheringLaws.{head_first}
use Rattle.trace_list.specs.ListerPartsMirror.{GoodStart, parts_by, whole_parts, listed_parts_by, listed_parts}

two_on : (ws : List ℕ) (i : ℕ) → i + 1 < length ws → drop i ws ≡ get_or ws i 0 ∷ get_or ws (i + 1) 0 ∷ drop (i + 2) ws
two_on ws i h =
    let e : i + 2 ≡ suc (i + 1) = omega arith in
    drop-cons ws i 0 (omega arith) ∙ rw (← add-one i, e) (ap (λ (more : List ℕ). get_or ws i 0 ∷ more) (drop-cons ws (i + 1) 0 h))

-- the items from one of them on
pub lines_on : (ws : List ℕ) (k : ℕ) → k < length ws / 2
    → item_lines (drop (2 * k) ws) ≡ item_line (get_or ws (2 * k) 0) (get_or ws (2 * k + 1) 0) ∷ item_lines (drop (2 * (k + 1)) ws)
lines_on ws k h =
    let e : 2 * (k + 1) ≡ 2 * k + 2 = omega arith in
    rw (two_on ws (2 * k) (omega arith), e)

pub lines_out : (ws : List ℕ) (k : ℕ) → length ws / 2 ≤ k → item_lines (drop (2 * k) ws) ≡ []
lines_out ws k h = by_rest (drop (2 * k) ws) (omega (arith, length-drop (2 * k) ws))
  where
    by_rest : (left : List ℕ) → length left ≤ 1 → item_lines left ≡ []
    by_rest [] h = refl
    by_rest (word ∷ []) h = refl
    by_rest (word ∷ value ∷ more) h = absurd (omega arith)

-- before a start lie all the items of the trace
pub start_rest : (trace : List ℕ) (cursor : Cursor) → StartMeets trace cursor → rest trace cursor ≡ items trace
start_rest trace cursor s = ap (rest trace) s.first ∙ none_past trace (length trace - 0) 0 nothing ∙ items_whole trace

-- what a walk with a good start hands out
module _ (trace : List ℕ) (cursor : Cursor) (good : GoodStart cursor.start) where
  pub unrolls : Unrolls trace (rest trace cursor) (step_of trace cursor).cursor (step_of trace cursor).handed
      × ((step_of trace cursor).cursor.start ≡ cursor.start)
  unrolls = by_start cursor.start refl good
    where
      by_start : (l : Result ℕ Refused) → cursor.start ≡ l → GoodStart l
          → Unrolls trace (rest trace cursor) (step_of trace cursor).cursor (step_of trace cursor).handed
          × ((step_of trace cursor).cursor.start ≡ cursor.start)
      by_start (Ok n) e g = step_unrolls trace cursor n e
      by_start (Err r) e g = absurd g

  pub stays_good : GoodStart (step_of trace cursor).cursor.start
  stays_good = rw unrolls.1 good

  pub item_first : (x : Item) → (step_of trace cursor).handed ≡ Ok (Some x)
      → item_lines (words (rest trace cursor)) ≡ item_line (x.cycle * 16 + x.code) x.value ∷ item_lines (words (rest trace (step_of trace cursor).cursor))
  item_first x e = rw (rw e at unrolls.0)

-- a whole trace, as its start was judged
module _ (trace before : List ℕ) (start : Result ℕ Refused) (judged : told_listing start ≡ reading trace) where
  by_judged : (told : Told) → told_listing start ≡ told
      → laid before (parts_by (length before) (length trace) (items trace) told) ≡ laid before (whole_parts (length before) trace)
  by_judged told e = ap (λ (t : Told). laid before (parts_by (length before) (length trace) (items trace) t)) (sym e ∙ judged)

  pub whole_refused : {after : List ℕ} (why : Ground) (cycle : ℕ) → start ≡ Err (record { why = why; cycle = cycle })
      → after ≡ written before 0 (refused_line (number why) cycle) → after ≡ laid before (whole_parts (length before) trace)
  whole_refused why cycle e f = f ∙ by_judged (refusal (number why) cycle) (ap told_listing e)

  pub whole_listed : {middle after : List ℕ} (n : ℕ) → start ≡ Ok n → middle ≡ written before 0 (head_line (length trace) n)
      → after ≡ laid middle (parts (length middle) (item_lines (words (items trace)))) → after ≡ laid before (whole_parts (length before) trace)
  whole_listed n e f g = g ∙ head_first before (head_line (length trace) n) f (item_lines (words (items trace))) ∙ by_judged (counted n) (ap told_listing e)

-- a listing, and the words that it left
module _ (before left : List ℕ) (cycles : ℕ) (listed : Result ℕ Refused) where
  by_listed : (told : Told) → told_listing listed ≡ told
      → laid before (listed_parts_by (length before) cycles left told) ≡ laid before (listed_parts (length before) cycles left listed)
  by_listed told e = ap (λ (t : Told). laid before (listed_parts_by (length before) cycles left t)) (sym e)

  pub listed_refused : {after : List ℕ} (why : Ground) (cycle : ℕ) → listed ≡ Err (record { why = why; cycle = cycle })
      → after ≡ written before 0 (refused_line (number why) cycle) → after ≡ laid before (listed_parts (length before) cycles left listed)
  listed_refused why cycle e f = f ∙ by_listed (refusal (number why) cycle) (ap told_listing e)

  pub listed_all : {middle after : List ℕ} (n : ℕ) → listed ≡ Ok n → middle ≡ written before 0 (head_line cycles n) → n ≤ length left / 2
      → after ≡ laid middle (parts (length middle) (item_lines (take (2 * n) left))) → after ≡ laid before (listed_parts (length before) cycles left listed)
  listed_all n e f h g =
      g
      ∙ head_first before (head_line cycles n) f (item_lines (take (2 * n) left))
      ∙ rw (le-ltb (length left / 2) n h) at (by_listed (counted n) (ap told_listing e))

  pub listed_head : {after : List ℕ} (n : ℕ) → listed ≡ Ok n → after ≡ written before 0 (head_line cycles n) → length left / 2 < n
      → after ≡ laid before (listed_parts (length before) cycles left listed)
  listed_head n e f h = f ∙ rw (lt-ltb (length left / 2) n h) at (by_listed (counted n) (ap told_listing e))
