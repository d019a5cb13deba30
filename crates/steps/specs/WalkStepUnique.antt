-- No second start fits a trace, and what a step hands out is known by its number and values.
use Rattle.std.specs.Prelude.{◌≡◌, refl, ℕ, false, List, Err, None, Ok, Option, Result, Some}
use Rattle.cycle.specs.declared.Item.{Item}
use Rattle.trace.specs.declared.Refused.{Refused}
use Rattle.std.proofs.Common.{ap, sym, ◌∙◌, arith}
use Rattle.grounds.specs.GroundLaws.{same_number_same_ground}
use Rattle.cycle.specs.Cycle.{nothing}
use Rattle.trace.specs.TraceReadingUnique.{told_listing_unique}
use Rattle.steps.specs.declared.Cursor.{Cursor}
use Rattle.steps.specs.WalkStep.{cursor_at, StartMeets, told_handed}

pub start_unique : (trace : List ℕ) (p q : Cursor) → StartMeets trace p → StartMeets trace q → p ≡ q
start_unique trace p q s t =
    s.first
    ∙ ap (λ (l : Result ℕ Refused). cursor_at l 0 nothing false) (told_listing_unique p.start q.start (s.judged ∙ sym t.judged))
    ∙ sym t.first

-- two handings of the same number and values are one
pub told_handed_unique : (r s : Result (Option Item) Refused) → told_handed r ≡ told_handed s → r ≡ s
told_handed_unique (Ok (Some x)) (Ok (Some y)) e =
    let i : x.cycle ≡ y.cycle = cc in
    let c : x.code ≡ y.code = cc in
    let v : x.value ≡ y.value = cc in
    rw (i, c, v)
told_handed_unique (Err r) (Err s) e =
    let same : r.why ≡ s.why = same_number_same_ground r.why s.why (cc) in
    let cycle : r.cycle ≡ s.cycle = cc in
    rw (same, cycle)
told_handed_unique (Ok None) (Ok None) e = refl
told_handed_unique (Ok (Some x)) (Ok None) e = let z : ◌≡◌ {A = ℕ} 0 1 = cc in absurd (omega arith)
told_handed_unique (Ok (Some x)) (Err r) e = let z : ◌≡◌ {A = ℕ} 0 1 = cc in absurd (omega arith)
told_handed_unique (Ok None) (Ok (Some y)) e = let z : ◌≡◌ {A = ℕ} 0 1 = cc in absurd (omega arith)
told_handed_unique (Ok None) (Err r) e = let z : ◌≡◌ {A = ℕ} 0 1 = cc in absurd (omega arith)
told_handed_unique (Err r) (Ok (Some y)) e = let z : ◌≡◌ {A = ℕ} 0 1 = cc in absurd (omega arith)
told_handed_unique (Err r) (Ok None) e = let z : ◌≡◌ {A = ℕ} 0 1 = cc in absurd (omega arith)
