-- Laws of the judgement: the cycles one after the other, and that it is the same with and without a buffer.
use Rattle.std.specs.Prelude.{◌≡◌, refl, ℕ, zero, suc, ◌+◌, ◌-◌, ◌≤◌, ◌<◌, Bool, true, false, cond, List, ltb, eqb, length, Result, Ok, Err}
use Rattle.std.proofs.Common.{sym, ◌∙◌, arith, lt-ltb, le-ltb, ltb-false}
use Rattle.grounds.specs.declared.Ground.{Ground}
use Rattle.grounds.specs.declared.Ground.TheVariants.{ReservedPst, MarkerTooSoon, TraceCutShort, BufferTooShort}
use Rattle.grounds.specs.Grounds.{number}
use Rattle.cycle.specs.declared.Carried.{Carried}
use Rattle.cycle.specs.Cycle.{pst, reserved, too_soon, nothing, after}
use Rattle.trace.specs.Items.{items, items_to_end}
use Rattle.laws.specs.StoreLaws.{one_left}
use Rattle.trace.specs.ItemsFromLaws.{items_whole}
use Rattle.trace.specs.TraceReading.{Told, refusal, counted, cycle_judged, too_long, earliest, ends_inside, too_short, judged_from, judged, reading}
use Rattle.trace.specs.TraceReading.{reading_from}

-- the cycles from cycle i on, judged by cycle i
module _ (trace : List ℕ) (i : ℕ) (c : Carried) (otherwise : Carried → Told) where
  module _ (h : i < length trace) where
    pub earliest_reserved : reserved (pst trace i) ≡ true → earliest trace i c (length trace - i) otherwise ≡ refusal (number ReservedPst) i
    unfolding earliest
    earliest_reserved r = rw (one_left (length trace) i h, r)

    module _ (r : reserved (pst trace i) ≡ false) where
      pub earliest_too_soon : too_soon c.due (pst trace i) ≡ true → earliest trace i c (length trace - i) otherwise ≡ refusal (number MarkerTooSoon) i
      unfolding earliest
      earliest_too_soon s = rw (one_left (length trace) i h, r, s)

      pub earliest_passes : too_soon c.due (pst trace i) ≡ false
          → earliest trace i c (length trace - i) otherwise ≡ earliest trace (i + 1) (after c (pst trace i)) (length trace - (i + 1)) otherwise
      unfolding earliest
      earliest_passes s = rw (one_left (length trace) i h, r, s)

  -- the same of the cycle's whole judgement: it refuses the trace there, or lets the cycles after it be judged
  module _ (h : i < length trace) where
    pub earliest_refused : {why : Ground} → cycle_judged c.due (pst trace i) ≡ Err why
        → earliest trace i c (length trace - i) otherwise ≡ refusal (number why) i
    unfolding cycle_judged
    earliest_refused {why} e = by_reserved (reserved (pst trace i)) refl e
      where
        by_too_soon : reserved (pst trace i) ≡ false → (t : Bool) → too_soon c.due (pst trace i) ≡ t
            → ◌≡◌ {A = Result Unit Ground} (cond t (Err MarkerTooSoon) (Ok tt)) (Err why)
            → earliest trace i c (length trace - i) otherwise ≡ refusal (number why) i
        by_too_soon r true s e = let same : ◌≡◌ {A = Ground} MarkerTooSoon why = cc in rw (← same) (earliest_too_soon h r s)
        by_too_soon r false s e = absurd (cc)

        by_reserved : (b : Bool) → reserved (pst trace i) ≡ b
            → ◌≡◌ {A = Result Unit Ground} (cond b (Err ReservedPst) (cond (too_soon c.due (pst trace i)) (Err MarkerTooSoon) (Ok tt))) (Err why)
            → earliest trace i c (length trace - i) otherwise ≡ refusal (number why) i
        by_reserved true r e = let same : ◌≡◌ {A = Ground} ReservedPst why = cc in rw (← same) (earliest_reserved h r)
        by_reserved false r e = by_too_soon r (too_soon c.due (pst trace i)) refl e

    pub earliest_goes_on : {u : Unit} → cycle_judged c.due (pst trace i) ≡ Ok u
        → earliest trace i c (length trace - i) otherwise ≡ earliest trace (i + 1) (after c (pst trace i)) (length trace - (i + 1)) otherwise
    unfolding cycle_judged
    earliest_goes_on {u} e = by_reserved (reserved (pst trace i)) refl e
      where
        by_too_soon : reserved (pst trace i) ≡ false → (t : Bool) → too_soon c.due (pst trace i) ≡ t
            → ◌≡◌ {A = Result Unit Ground} (cond t (Err MarkerTooSoon) (Ok tt)) (Ok u)
            → earliest trace i c (length trace - i) otherwise ≡ earliest trace (i + 1) (after c (pst trace i)) (length trace - (i + 1)) otherwise
        by_too_soon r true s e = absurd (cc)
        by_too_soon r false s e = earliest_passes h r s

        by_reserved : (b : Bool) → reserved (pst trace i) ≡ b
            → ◌≡◌ {A = Result Unit Ground} (cond b (Err ReservedPst) (cond (too_soon c.due (pst trace i)) (Err MarkerTooSoon) (Ok tt))) (Ok u)
            → earliest trace i c (length trace - i) otherwise ≡ earliest trace (i + 1) (after c (pst trace i)) (length trace - (i + 1)) otherwise
        by_reserved true r e = absurd (cc)
        by_reserved false r e = by_too_soon r (too_soon c.due (pst trace i)) refl e

-- no cycle left
pub earliest_ends : (trace : List ℕ) (i : ℕ) (c : Carried) (t : Told) → length trace ≤ i
    → earliest trace i c (length trace - i) (ends_inside t) ≡ cond (eqb c.due 0) t (refusal (number TraceCutShort) 0)
unfolding earliest ends_inside
earliest_ends trace i c t h = rw none_left
  where
    none_left : length trace - i ≡ 0
    none_left = omega arith

-- what is judged once the length is
pub reading_short : (trace : List ℕ) (i : ℕ) (c : Carried) → length trace ≤ 65536
    → reading_from trace i c ≡ earliest trace i c (length trace - i) (ends_inside (counted (length (items_to_end trace i c))))
unfolding reading_from judged_from too_long
reading_short trace i c h = rw (le-ltb 65536 (length trace) h)

-- a judgement lets every answer through, or refuses whatever the answer would be
data Gate (judge : Told → Told) : Type 0 where
  passes : ((t : Told) → judge t ≡ t) → Gate judge
  stops : (k i : ℕ) → ((t : Told) → judge t ≡ refusal k i) → Gate judge

gate_if : (b : Bool) (k i : ℕ) → Gate (λ t. cond b (refusal k i) t)
gate_if true k i = stops k i (λ t. refl)
gate_if false k i = passes (λ t. refl)

gate_unless : (b : Bool) (k i : ℕ) → Gate (λ t. cond b t (refusal k i))
gate_unless true k i = passes (λ t. refl)
gate_unless false k i = stops k i (λ t. refl)

gate_then : {f g : Told → Told} → Gate f → Gate g → Gate (λ t. f (g t))
gate_then {f} {g} (passes p) (passes q) = passes (λ t. p (g t) ∙ q t)
gate_then {f} {g} (passes p) (stops k i q) = stops k i (λ t. p (g t) ∙ q t)
gate_then {f} {g} (stops k i p) q = stops k i (λ t. p (g t))

-- what is refused with one number is refused with any answer
gate_refused : {judge : Told → Told} → Gate judge → (m k i : ℕ) → judge (counted m) ≡ refusal k i → (t : Told) → judge t ≡ refusal k i
gate_refused (passes p) m k i e t = let z : ◌≡◌ {A = ℕ} 0 1 = cc (p (counted m)) in absurd (omega arith)
gate_refused (stops k' i' p) m k i e t = p t ∙ sym (p (counted m)) ∙ e

-- and what lets a number through lets any answer through
gate_passed : {judge : Told → Told} → Gate judge → (t : Told) (n : ℕ) → judge t ≡ counted n → (t ≡ counted n) × ((s : Told) → judge s ≡ s)
gate_passed (passes p) t n e = (sym (p t) ∙ e, p)
gate_passed (stops k i p) t n e = let z : ◌≡◌ {A = ℕ} 0 1 = cc (p t) in absurd (omega arith)

earliest_gate : (trace : List ℕ) (i : ℕ) (c : Carried) (n : ℕ) → Gate (λ t. earliest trace i c n (ends_inside t))
unfolding earliest ends_inside
earliest_gate trace i c zero = gate_unless (eqb c.due 0) 10 0
earliest_gate trace i c (suc n) =
    gate_then (gate_if (reserved (pst trace i)) 8 i)
    (gate_then (gate_if (too_soon c.due (pst trace i)) 9 i) (earliest_gate trace (i + 1) (after c (pst trace i)) n))

-- cycles that let one number through let any answer through
pub passes_any : (trace : List ℕ) (i : ℕ) (c : Carried) (n m k : ℕ) (t : Told) → earliest trace i c n (ends_inside (counted m)) ≡ counted k
    → earliest trace i c n (ends_inside t) ≡ t
passes_any trace i c n m k t e = (gate_passed (earliest_gate trace i c n) (counted m) k e).1 t

judged_gate : (trace : List ℕ) (i : ℕ) (c : Carried) → Gate (judged_from trace i c)
unfolding judged_from too_long
judged_gate trace i c = gate_then (gate_if (ltb 65536 (length trace)) 7 0) (earliest_gate trace i c (length trace - i))

-- a trace that is refused with one number is refused whatever else were to be answered
pub refused_so : (trace : List ℕ) (i : ℕ) (c : Carried) (m k j : ℕ) → judged_from trace i c (counted m) ≡ refusal k j
    → (t : Told) → judged_from trace i c t ≡ refusal k j
refused_so trace i c = gate_refused (judged_gate trace i c)

-- a number that comes is what was to be answered, and whatever else were to be answered would come too
pub passed_so : (trace : List ℕ) (i : ℕ) (c : Carried) (t : Told) (n : ℕ) → judged_from trace i c t ≡ counted n
    → (t ≡ counted n) × ((s : Told) → judged_from trace i c s ≡ s)
passed_so trace i c = gate_passed (judged_gate trace i c)

pub same_count : (m n : ℕ) → counted m ≡ counted n → n ≡ m
same_count m n e = cc

-- a trace that is read has the items that are counted
pub read_count : (trace : List ℕ) (n : ℕ) → reading trace ≡ counted n → n ≡ length (items trace)
unfolding reading
read_count trace n e = same_count _ n (passed_so trace 0 nothing _ n e).0

-- a buffer of as many words as are needed is enough, and a shorter one is not
pub short_so : (needed room : ℕ) (t : Told) → room < needed → too_short needed room t ≡ refusal (number BufferTooShort) 0
unfolding too_short
short_so needed room t h = rw (lt-ltb room needed h)

pub room_so : (needed room : ℕ) (t : Told) → needed ≤ room → too_short needed room t ≡ t
unfolding too_short
room_so needed room t h = rw (le-ltb room needed h)

-- a trace that passes with some buffer is one that is read
pub passed_read : (trace : List ℕ) (needed room n : ℕ)
    → judged trace (too_short needed room (counted (length (items trace)))) ≡ counted n → reading trace ≡ counted n
unfolding reading too_short
passed_read trace needed room n e = let g = passed_so trace 0 nothing _ n e in g.1 _ ∙ by_room (ltb room needed) g.0
  where
    by_room : (b : Bool) → cond b (refusal (number BufferTooShort) 0) (counted (length (items trace))) ≡ counted n → counted (length (items trace)) ≡ counted n
    by_room true e = let z : ◌≡◌ {A = ℕ} 0 1 = cc in absurd (omega arith)
    by_room false e = e

pub read_short : (trace : List ℕ) (i : ℕ) (c : Carried) (n : ℕ) → reading_from trace i c ≡ counted n → length trace ≤ 65536
unfolding reading_from judged_from too_long
read_short trace i c n e = by_test (ltb 65536 (length trace)) refl e
  where
    by_test : (b : Bool) → ltb 65536 (length trace) ≡ b
        → cond b (refusal 7 0) (earliest trace i c (length trace - i) (ends_inside (counted (length (items_to_end trace i c))))) ≡ counted n
        → length trace ≤ 65536
    by_test true t e = let z : ◌≡◌ {A = ℕ} 0 1 = cc in absurd (omega arith)
    by_test false t e = ltb-false 65536 (length trace) t

-- from the first cycle on, with nothing under way, a trace is judged as a whole
pub reading_whole : (trace : List ℕ) → reading_from trace 0 nothing ≡ reading trace
unfolding reading_from reading
reading_whole trace = rw (items_whole trace)

pub whole_short : (trace : List ℕ) (n : ℕ) → reading trace ≡ counted n → length trace ≤ 65536
whole_short trace n e = read_short trace 0 nothing n (reading_whole trace ∙ e)
