-- Each answer of the judgement is the listing's, but for the buffer, which is judged last.
use mathlib.Core.Path.{refl, ap, sym, ◌∙◌}
use native.Mathlib.Omega.{arith}
use lib.ListN.{length}
use Rattle.trace.specs.Items.{items_to_end, words}
use Rattle.trace.specs.ItemLaws.{length_words}
use Rattle.trace.specs.TraceReading.{counted, told_listing}
use Rattle.trace.proofs.TraceReadingLaws.{short_so, room_so, read_short}
use Rattle.listing.specs.ListingLaws.{refused_from, read_from, listing_meets}
use Rattle.laws.specs.StoreLaws.{sets_front}
use Rattle.listing.proofs.list_from.Goals as goal

pub returns-then-out-count : goal.returns-then-out-count
returns-then-out-count c = let a = c.args in
    let reads = sym c.judge_from-judged.ensures ∙ ap told_listing c.in-Ok.is in
    let e = read_from a.trace.now a.from a.found (length a.out.now) c.in-Ok.count reads in
    listing_meets _ _ _ _ _ _ (sym (e.1 ∙ short_so _ _ _ (omega (arith, e.0)))) refl

pub put_from-requires : goal.put_from-requires
put_from-requires c = let a = c.args in
    let e = sym c.judge_from-judged.ensures ∙ ap told_listing c.in-Ok.is in
    let xs = items_to_end a.trace.now a.from a.found in
    (read_short _ _ _ c.in-Ok.count e, omega (arith, (read_from a.trace.now a.from a.found 0 c.in-Ok.count e).0, length_words xs))

pub returns-in-Err : goal.returns-in-Err
returns-in-Err c = listing_meets _ _ _ _ _ _ (sym (refused_from _ _ _ _ _ _ (sym c.judge_from-judged.ensures ∙ ap told_listing c.in-Err.is))) refl

pub returns-else-out-count : goal.returns-else-out-count
returns-else-out-count c = let a = c.args in
    let reads = sym c.judge_from-judged.ensures ∙ ap told_listing c.in-Ok.is in
    let e = read_from a.trace.now a.from a.found (length a.out.now) c.in-Ok.count reads in
    let xs = items_to_end a.trace.now a.from a.found in
    listing_meets _ _ _ _ _ _
    (ap counted e.0 ∙ sym (e.1 ∙ room_so _ _ _ (omega (arith, e.0))))
    (c.put_from.ensures ∙ sets_front (words xs) a.out.now (omega (arith, e.0, length_words xs)))
