-- What a step of a walk hands out: an item, or none, and then none is left.
use Rattle.std.specs.Prelude.{◌≡◌, ℕ, List, [], Err, None, Ok, Option, Result, Some}
use Rattle.std.proofs.Common.{ap, arith}
use Rattle.trace.specs.declared.Refused.{Refused}
use Rattle.cycle.specs.declared.Item.{Item}
use Rattle.steps.specs.declared.Cursor.{Cursor}
use Rattle.steps.specs.WalkStep.{step_of}
use Rattle.walk.specs.WalkRestLaws.{rest, Unrolls}
use Rattle.trace_list.specs.ListerPartsMirror.{GoodStart, item_in}
use Rattle.trace_list.specs.ListerGatheringLaws.{unrolls}

pub none_left : (trace : List ℕ) (cursor : Cursor) → GoodStart cursor.start → item_in (step_of trace cursor).handed ≡ None → rest trace cursor ≡ []
none_left trace cursor good n = by_handed (step_of trace cursor).handed n (unrolls trace cursor good).0
  where
    by_handed : (h : Result (Option Item) Refused) → item_in h ≡ None → Unrolls trace (rest trace cursor) (step_of trace cursor).cursor h
        → rest trace cursor ≡ []
    by_handed (Ok (Some x)) e u = let z : ◌≡◌ {A = ℕ} 0 1 = cc in absurd (omega arith)
    by_handed (Ok None) e u = u.0
    by_handed (Err r) e u = absurd u

pub item_given : (h : Result (Option Item) Refused) (x : Item) → item_in h ≡ Some x → h ≡ Ok (Some x)
item_given (Ok item) x e = ap Ok e
item_given (Err r) x e = let z : ◌≡◌ {A = ℕ} 0 1 = cc in absurd (omega arith)
