-- Laws of the rest: the items from a cursor on, and that a step hands out the first of them.
use Rattle.std.specs.Prelude.{◌≡◌, refl, ℕ, zero, suc, ◌+◌, ◌-◌, ◌<◌, Bool, true, false, cond, List, [], ◌∷◌, ◌++◌, length, Err, None, Ok, Option, Result, Some}
use Rattle.trace.specs.declared.Refused.{Refused}
use Rattle.std.proofs.Common.{ap, arith}
use Rattle.cycle.specs.declared.Carried.{Carried}
use Rattle.cycle.specs.declared.Item.{Item}
use Rattle.cycle.specs.Cycle.{pst, gives_own, after}
use Rattle.cycle.specs.CycleItems.{of_value, of_cycle, own_item, items_at}
use Rattle.trace.specs.Items.{items_from}
use Rattle.steps.specs.declared.Cursor.{Cursor}
use Rattle.steps.specs.declared.Step.{Step}
use Rattle.steps.specs.WalkStep.{cursor_at, value_next, handing, step_from, step_of}
use Rattle.steps.specs.WalkStepLaws.{step_refused, step_read_lem}

-- the items of n cycles from cycle i on, the first value aside where it is past
unfoldable pub items_past : List ℕ → ℕ → ℕ → Carried → Bool → List Item
items_past trace zero i c past = []
items_past trace (suc n) i c past =
    (cond (value_next c.due past) (of_value trace i c.marker ∷ []) [] ++ own_item i c.run (pst trace i))
    ++ items_from trace (i + 1) (after c (pst trace i)) n

-- the items from a cursor on
abbrev pub rest : List ℕ → Cursor → List Item
rest trace cursor = items_past trace (length trace - cursor.cycle) cursor.cycle cursor.carried cursor.past

-- all of them where no value is past
pub none_past : (trace : List ℕ) (n i : ℕ) (c : Carried) → items_past trace n i c false ≡ items_from trace i c n
unfolding items_past items_from items_at
none_past trace zero i c = refl
none_past trace (suc n) i c = refl

-- what a step from some items leaves of them
abbrev pub Unrolls : List ℕ → List Item → Cursor → Result (Option Item) Refused → Type 0
Unrolls trace xs cursor (Ok (Some x)) = xs ≡ x ∷ rest trace cursor
Unrolls trace xs cursor (Ok None) = (xs ≡ []) × (rest trace cursor ≡ [])
Unrolls trace xs cursor (Err r) = ⊥

from_unrolls : (trace : List ℕ) (start : Result ℕ Refused) (n i : ℕ) (c : Carried) (past : Bool) → length trace - i ≡ n
    → Unrolls trace (items_past trace n i c past) (step_from trace start n i c past).cursor (step_from trace start n i c past).handed
    × ((step_from trace start n i c past).cursor.start ≡ start)
unfolding items_past step_from
from_unrolls trace start zero i c past e = ((refl, rw e), refl)
from_unrolls trace start (suc n) i c past e =
    rw (← none_past trace n (i + 1) (after c (pst trace i)))
    (by_value (from_unrolls trace start n (i + 1) (after c (pst trace i)) false fewer) (value_next c.due past))
  where
    fewer : length trace - (i + 1) ≡ n
    fewer = omega arith

    p : ℕ
    p = pst trace i

    more : List Item
    more = items_past trace n (i + 1) (after c p) false

    on : Step
    on = step_from trace start n (i + 1) (after c p) false

    Good : List Item → Step → Type 0
    Good xs s = Unrolls trace xs s.cursor s.handed × (s.cursor.start ≡ start)

    own : Step
    own = handing (cursor_at start (i + 1) (after c p) false) (of_cycle i p)

    by_own : Good more on → (b : Bool) → Good ((cond b (of_cycle i p ∷ []) []) ++ more) (cond b own on)
    by_own ih true = (rw fewer, refl)
    by_own ih false = ih

    by_value : Good more on → (b : Bool) → Good ((cond b (of_value trace i c.marker ∷ []) [] ++ own_item i c.run p) ++ more)
        (cond b (handing (cursor_at start i c true) (of_value trace i c.marker)) (cond (gives_own c.run p) own on))
    by_value ih true = (rw (e, none_past trace n (i + 1) (after c p)), refl)
    by_value ih false = by_own ih (gives_own c.run p)

-- THE LAW: the items from a cursor on are the one its step hands out, and those from the step's cursor on
pub step_unrolls : (trace : List ℕ) (cursor : Cursor) (n : ℕ) → cursor.start ≡ Ok n
    → Unrolls trace (rest trace cursor) (step_of trace cursor).cursor (step_of trace cursor).handed × ((step_of trace cursor).cursor.start ≡ cursor.start)
step_unrolls trace cursor n e =
    rw (step_read_lem trace cursor n e)
    (from_unrolls trace cursor.start (length trace - cursor.cycle) cursor.cycle cursor.carried cursor.past refl)

-- an item handed out is one less to hand out
pub rest_falls : (trace : List ℕ) (cursor : Cursor) (x : Item) → (step_of trace cursor).handed ≡ Ok (Some x)
    → length (rest trace (step_of trace cursor).cursor) < length (rest trace cursor)
rest_falls trace cursor x e = by_start cursor.start refl
  where
    by_handed : (xs : List Item) (q : Cursor) (h : Result (Option Item) Refused) → h ≡ Ok (Some x) → Unrolls trace xs q h → length (rest trace q) < length xs
    by_handed xs q (Ok (Some y)) f u = let z = ap length u in omega arith
    by_handed xs q (Ok None) f u = let z : ◌≡◌ {A = ℕ} 0 1 = cc in absurd (omega arith)
    by_handed xs q (Err r) f u = absurd u

    by_start : (l : Result ℕ Refused) → cursor.start ≡ l → length (rest trace (step_of trace cursor).cursor) < length (rest trace cursor)
    by_start (Ok n) f = by_handed (rest trace cursor) (step_of trace cursor).cursor (step_of trace cursor).handed e (step_unrolls trace cursor n f).0
    by_start (Err r) f =
        let h = step_refused trace cursor r.why r.cycle f in
        let z : ◌≡◌ {A = ℕ} 0 1 = cc in
        absurd (omega arith)
