-- Laws of the walk beside the listing: its items and count are the listing's, and its start is refused as the listing is, for every room.
use Rattle.std.specs.Prelude.{◌≡◌, ℕ, zero, suc, ◌+◌, ◌-◌, ◌*◌, Bool, true, false, cond, List, [], ◌∷◌, ◌++◌, eqb, ltb, length, drop, Result}
use Rattle.trace.specs.declared.Refused.{Refused}
use Rattle.std.proofs.Math.Path.{refl, ap}
use Rattle.std.proofs.Common.{sym, ◌∙◌, suc-add, arith}
use Rattle.std.specs.Borrow.{Bor}
use Rattle.cycle.specs.declared.Carried.{Carried}
use Rattle.cycle.specs.declared.Item.{Item}
use Rattle.cycle.specs.Cycle.{pst, reserved, too_soon, nothing, after}
use Rattle.trace.specs.Items.{items, words}
use Rattle.trace.specs.ItemLaws.{length_words}
use Rattle.trace.specs.TraceReading.{Told, refusal, counted, told_listing, too_long, earliest, ends_inside, too_short, judged_from, reading}
use Rattle.trace.proofs.TraceReadingLaws.{reading_whole, read_count}
use Rattle.listing.specs.Listing.{listing, listing_from, words_after, ListingMeets}
use Rattle.listing.specs.ListingLaws.{refused_from, read_from, listing_whole, listed_read}
use Rattle.steps.specs.WalkStep.{refusal as stepRefusal, told_handed}
use Rattle.walk.specs.declared.Walk.{Walk}
use Rattle.walk.specs.Walk.{WalkStarts, stepped_of, handed_out}
use Rattle.walk.specs.WalkListing.{HandsOut, HandsRefusal, with_room, HandsListing, RefusedAsListing}
use Rattle.walk.proofs.WalkLaws.{good_start, refused_start}

-- 11 is all that a buffer adds to the judgement of a trace
listing_by_room : (trace : List ℕ) (room : ℕ) → listing trace room ≡ with_room room (reading trace)
listing_by_room trace room = sym (listing_whole trace room) ∙ by_reading (reading trace) refl
  where
    by_reading : (t : Told) → reading trace ≡ t → listing_from trace 0 nothing room ≡ with_room room t
    by_reading (refusal k i) e = refused_from trace 0 nothing room k i (reading_whole trace ∙ e)
    by_reading (counted n) e =
        let g = read_from trace 0 nothing room n (reading_whole trace ∙ e) in
        rw g.0 g.1

-- no trace is refused on 11 where no buffer is judged
earliest_never_eleven : (trace : List ℕ) (i : ℕ) (c : Carried) (n m j : ℕ) → earliest trace i c n (ends_inside (counted m)) ≡ refusal 11 j → ⊥
unfolding earliest ends_inside
earliest_never_eleven trace i c zero m j = by_due (eqb c.due 0)
  where
    by_due : (b : Bool) → cond b (counted m) (refusal 10 0) ≡ refusal 11 j → ⊥
    by_due true e = let z : ◌≡◌ {A = ℕ} 0 1 = cc in omega arith
    by_due false e = let z : ◌≡◌ {A = ℕ} 10 11 = cc in omega arith
earliest_never_eleven trace i c (suc n) m j =
    by_pst (reserved (pst trace i)) (too_soon c.due (pst trace i)) (earliest_never_eleven trace (i + 1) (after c (pst trace i)) n m j)
  where
    on : Told
    on = earliest trace (i + 1) (after c (pst trace i)) n (ends_inside (counted m))

    by_pst : (a b : Bool) → (on ≡ refusal 11 j → ⊥) → cond a (refusal 8 i) (cond b (refusal 9 i) on) ≡ refusal 11 j → ⊥
    by_pst true b ih e = let z : ◌≡◌ {A = ℕ} 8 11 = cc in omega arith
    by_pst false true ih e = let z : ◌≡◌ {A = ℕ} 9 11 = cc in omega arith
    by_pst false false ih e = ih e

never_eleven : (trace : List ℕ) (j : ℕ) → reading trace ≡ refusal 11 j → ⊥
unfolding reading judged_from too_long
never_eleven trace j = by_length (ltb 65536 (length trace))
  where
    on : Told
    on = earliest trace 0 nothing (length trace - 0) (ends_inside (counted (length (items trace))))

    by_length : (b : Bool) → cond b (refusal 7 0) on ≡ refusal 11 j → ⊥
    by_length true e = let z : ◌≡◌ {A = ℕ} 7 11 = cc in omega arith
    by_length false e = earliest_never_eleven trace 0 nothing (length trace - 0) (length (items trace)) j e

-- a first step that hands out a refusal is none that hands out an item or the end
no_refusal : (walk : Walk) (xs : List Item) (k i : ℕ) → HandsOut walk xs → told_handed (stepped_of walk).handed ≡ stepRefusal k i → ⊥
unfolding handed_out
no_refusal walk [] k i h e = let z : ◌≡◌ {A = ℕ} 0 1 = cc (h 1) in omega arith
no_refusal walk (x ∷ xs) k i h e = let g = rw (suc-add (length xs) 0) at (h 0) in let z : ◌≡◌ {A = ℕ} 0 1 = cc (g, e) in omega arith

-- what a listing answers is known by the judgement
answered : {trace before after : List ℕ} {r : Result ℕ Refused} → ListingMeets trace before r after → told_listing r ≡ with_room (length before) (reading trace)
answered {trace} {before} l = l.answer ∙ listing_by_room trace (length before)

-- a buffer that is too short, or room enough, is no other refusal
eleven_alone : (n room k i : ℕ) → too_short (2 * n) room (counted n) ≡ refusal k i → k ≡ 11
unfolding too_short
eleven_alone n room k i = by_room (ltb room (2 * n))
  where
    by_room : (b : Bool) → cond b (refusal 11 0) (counted n) ≡ refusal k i → k ≡ 11
    by_room true e = cc
    by_room false e = let z : ◌≡◌ {A = ℕ} 0 1 = cc in absurd (omega arith)

-- THE LAW: where a listing counts n items, into whatever buffer, the walk hands out these items, n of them, and then the end for ever
pub walk_is_listing : (trace : Bor (List ℕ)) (walk : Walk) → WalkStarts trace walk
    → {before after : List ℕ} {r : Result ℕ Refused} → ListingMeets trace.now before r after
    → (n : ℕ) → told_listing r ≡ counted n → HandsListing trace.now walk n before after
walk_is_listing trace walk s {before} l n e =
    let answer : listing trace.now (length before) ≡ counted n = sym l.answer ∙ e in
    let read : reading trace.now ≡ counted n = listed_read trace.now (length before) n answer in
    let count : n ≡ length (items trace.now) = read_count trace.now n read in
    let needed : length (words (items trace.now)) ≡ 2 * n = length_words (items trace.now) ∙ ap (λ (k : ℕ). 2 * k) (sym count) in
    record {
      handed = good_start trace walk s n read;
      count = count;
      listed = l.words ∙ ap (words_after trace.now before) answer ∙ ap (λ (k : ℕ). words (items trace.now) ++ drop k before) needed;
    }

module _ (trace : Bor (List ℕ)) (walk : Walk) (s : WalkStarts trace walk) where
  module _ {before after : List ℕ} {r : Result ℕ Refused} (l : ListingMeets trace.now before r after) where
    -- where a listing is refused, and not on 11, every step hands out its number and cycle
    listing_refused : (k i : ℕ) → told_listing r ≡ refusal k i → (k ≡ 11 → ⊥) → HandsRefusal walk k i
    listing_refused k i e other = by_reading (reading trace.now) refl
      where
        by_reading : (t : Told) → reading trace.now ≡ t → HandsRefusal walk k i
        by_reading (refusal k' i') f = refused_start trace walk s k i (cc (f, e, answered l))
        by_reading (counted n) f = absurd (other (eleven_alone n (length before) k i (cc (f, e, answered l))))

    -- where it is refused on 11, the steps hand out all the items, and then the end
    eleven_aside : (i : ℕ) → told_listing r ≡ refusal 11 i → HandsOut walk (items trace.now)
    eleven_aside i e = by_reading (reading trace.now) refl
      where
        by_reading : (t : Told) → reading trace.now ≡ t → HandsOut walk (items trace.now)
        by_reading (refusal k' i') f = absurd (never_eleven trace.now i (cc (f, e, answered l)))
        by_reading (counted n) f = good_start trace walk s n f

    -- where a first step hands out a refusal, every listing is refused so
    first_refused : (k i : ℕ) → told_handed (stepped_of walk).handed ≡ stepRefusal k i → (told_listing r ≡ refusal k i) × (after ≡ before)
    unfolding handed_out
    first_refused k i e = by_reading (reading trace.now) refl
      where
        by_reading : (t : Told) → reading trace.now ≡ t → (told_listing r ≡ refusal k i) × (after ≡ before)
        by_reading (refusal k' i') f =
            let first = refused_start trace walk s k' i' f 1 in
            let answer : told_listing r ≡ refusal k i = cc (first, e, f, answered l) in
            (answer, l.words ∙ ap (words_after trace.now before) (sym l.answer ∙ answer))
        by_reading (counted n) f = absurd (no_refusal walk (items trace.now) k i (good_start trace walk s n f) e)

  -- THE LAW: a walk is refused as every listing of its trace is, 11 aside, for every room
  pub walk_refused_as_listing : RefusedAsListing trace.now walk
  walk_refused_as_listing =
      record {
        judged = λ room. listing_by_room trace.now room ∙ ap (with_room room) (sym s.started.judged);
        refused = λ k i l. listing_refused l k i;
        aside = λ i l. eleven_aside l i;
        refuses = λ k i l. first_refused l k i;
      }
