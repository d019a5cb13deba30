-- Laws of the walk's steps: a good start hands out the items of the trace and then the end, a refused one its refusal.
use Rattle.std.proofs.Math.Path.{◌≡◌, refl, ap}
use Rattle.trace.specs.declared.Refused.{Refused}
use Rattle.std.proofs.Common.{◌∙◌, zero-add, suc-add, arith}
use Prim.Native.Nat.{ℕ, zero, suc, ◌+◌, ◌-◌}
use mathlib.Core.List.{List, [], ◌∷◌, ◌++◌, map}
use Rattle.std.specs.Prelude.{length, Err, None, Ok, Option, Result, Some}
use Rattle.std.proofs.Math.ListN.{replicate}
use Rattle.std.specs.Borrow.{Bor}
use Rattle.grounds.specs.declared.Ground.{Ground}
use Rattle.grounds.specs.Grounds.{number}
use Rattle.cycle.specs.declared.Item.{Item}
use Rattle.cycle.specs.Cycle.{nothing}
use Rattle.trace.specs.Items.{items}
use Rattle.trace.specs.ItemsFromLaws.{items_whole}
use Rattle.trace.specs.TraceReading.{refusal as asRefusal, counted, told_listing, reading}
use Rattle.trace.specs.TraceReadingUnique.{told_listing_unique}
use Rattle.steps.specs.declared.Cursor.{Cursor}
use Rattle.steps.specs.WalkStep.{StartMeets, step_of, ToldStep, refusal, told_handed}
use Rattle.steps.specs.WalkStepLaws.{step_refused}
use Rattle.walk.specs.declared.Walk.{Walk}
use Rattle.walk.specs.Walk.{walk_at, WalkStarts, handed_out}
use Rattle.walk.specs.WalkListing.{HandsOut, HandsRefusal}
use Rattle.walk.specs.WalkRestLaws.{rest, none_past, Unrolls, step_unrolls}

module _ (trace : Bor (List ℕ)) (n : ℕ) where
  -- from a cursor with no items on, the end is handed out for ever
  ends_handed : (m : ℕ) (cursor : Cursor) → cursor.start ≡ Ok n → rest trace.now cursor ≡ [] → handed_out m (walk_at trace cursor) ≡ replicate m (Ok None)
  unfolding handed_out
  ends_handed zero cursor e f = refl
  ends_handed (suc m) cursor e f =
      at_step (step_of trace.now cursor).cursor (step_of trace.now cursor).handed (step_unrolls trace.now cursor n e).0
      ((step_unrolls trace.now cursor n e).1 ∙ e) (ends_handed m)
    where
      at_step : (q : Cursor) (h : Result (Option Item) Refused) → Unrolls trace.now (rest trace.now cursor) q h → q.start ≡ Ok n
          → ((q : Cursor) → q.start ≡ Ok n → rest trace.now q ≡ [] → handed_out m (walk_at trace q) ≡ replicate m (Ok None))
          → h ∷ handed_out m (walk_at trace q) ≡ (Ok None) ∷ replicate m (Ok None)
      at_step q (Ok (Some x)) u g ih = let z : ◌≡◌ {A = ℕ} 0 1 = cc in absurd (omega arith)
      at_step q (Ok None) u g ih = ap (λ (l : List (Result (Option Item) Refused)). (Ok None) ∷ l) (ih q g u.1)
      at_step q (Err r) u g ih = absurd u

  -- from any cursor, the items from it on are handed out, and then the end
  rest_handed : (m : ℕ) (xs : List Item) (cursor : Cursor) → cursor.start ≡ Ok n → rest trace.now cursor ≡ xs
      → handed_out (length xs + m) (walk_at trace cursor) ≡ map (λ x. Ok (Some x)) xs ++ replicate m (Ok None)
  unfolding handed_out
  rest_handed m [] cursor e f = rw (zero-add m) (ends_handed m cursor e f)
  rest_handed m (x ∷ xs) cursor e f =
      rw (suc-add (length xs) m)
      (at_step (step_of trace.now cursor).cursor (step_of trace.now cursor).handed (step_unrolls trace.now cursor n e).0
      ((step_unrolls trace.now cursor n e).1 ∙ e) (rest_handed m xs))
    where
      at_step : (q : Cursor) (h : Result (Option Item) Refused) → Unrolls trace.now (rest trace.now cursor) q h → q.start ≡ Ok n
          → ((q : Cursor) → q.start ≡ Ok n → rest trace.now q ≡ xs
          → handed_out (length xs + m) (walk_at trace q) ≡ map (λ x. Ok (Some x)) xs ++ replicate m (Ok None))
          → h ∷ handed_out (length xs + m) (walk_at trace q) ≡ Ok (Some x) ∷ (map (λ x. Ok (Some x)) xs ++ replicate m (Ok None))
      at_step q (Ok (Some y)) u g ih =
          let same : y ≡ x = cc in
          let left : rest trace.now q ≡ xs = cc in
          let on = ih q g left in
          cc
      at_step q (Ok None) u g ih = let z : ◌≡◌ {A = ℕ} 0 1 = cc in absurd (omega arith)
      at_step q (Err r) u g ih = absurd u

-- from a cursor whose start was refused, every step hands out the refusal
refused_handed : (trace : Bor (List ℕ)) (cursor : Cursor) (why : Ground) (cycle m : ℕ) → cursor.start ≡ Err (record { why = why; cycle = cycle })
    → map told_handed (handed_out m (walk_at trace cursor)) ≡ replicate m (refusal (number why) cycle)
unfolding handed_out
refused_handed trace cursor why cycle zero e = refl
refused_handed trace cursor why cycle (suc m) e =
    rw (step_refused trace.now cursor why cycle e)
    (ap (λ (l : List ToldStep). refusal (number why) cycle ∷ l) (refused_handed trace cursor why cycle m e))

-- before a start lie all the items of the trace
start_rest : (trace : List ℕ) (cursor : Cursor) → StartMeets trace cursor → rest trace cursor ≡ items trace
start_rest trace cursor s = ap (rest trace) s.first ∙ none_past trace (length trace - 0) 0 nothing ∙ items_whole trace

module _ (trace : Bor (List ℕ)) (walk : Walk) (s : WalkStarts trace walk) where
  -- a walk whose trace can be read hands out its items, and then the end for ever
  pub good_start : (n : ℕ) → reading trace.now ≡ counted n → HandsOut walk (items trace.now)
  good_start n e m =
      ap (handed_out (length (items trace.now) + m)) s.borrowed
      ∙ rest_handed trace n m (items trace.now) walk.cursor
      (told_listing_unique walk.cursor.start (Ok n) (s.started.judged ∙ e))
      (start_rest trace.now walk.cursor s.started)

  -- one whose trace is refused hands out that refusal for ever
  pub refused_start : (k i : ℕ) → reading trace.now ≡ asRefusal k i → HandsRefusal walk k i
  refused_start k i e m = ap (λ (w : Walk). map told_handed (handed_out m w)) s.borrowed ∙ by_start walk.cursor.start refl (s.started.judged ∙ e)
    where
      by_start : (l : Result ℕ Refused) → walk.cursor.start ≡ l → told_listing l ≡ asRefusal k i
          → map told_handed (handed_out m (walk_at trace walk.cursor)) ≡ replicate m (refusal k i)
      by_start (Ok n) f g = let z : ◌≡◌ {A = ℕ} 0 1 = cc in absurd (omega arith)
      by_start (Err r) f g =
          let number_is : number r.why ≡ k = cc in
          let cycle-is : r.cycle ≡ i = cc in
          refused_handed trace walk.cursor r.why r.cycle m f ∙ cc
