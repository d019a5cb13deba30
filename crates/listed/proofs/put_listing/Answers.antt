use mathlib.Core.Path.{sym}
use native.Mathlib.Omega.{arith}
use lib.Seq.{length-take-le}
use Rattle.text.specs.TextLaws.{◌then◌}
use Rattle.listed.specs.ListedLaws.{refused_text, listed_text_lem, listed_room, listed_words}
use Rattle.listed.proofs.put_listing.Goals as goal

pub overflow_mul-items : goal.overflow_mul-items
overflow_mul-items c = omega (arith, listed_room _ _ _ _ c.list_trace.ensures _ c.in-Ok.is)

pub slice_bounds-put_items-end : goal.slice_bounds-put_items-end
slice_bounds-put_items-end c = listed_room _ _ _ _ c.list_trace.ensures _ c.in-Ok.is

pub slice_bounds-put_items-end-in-Ok : goal.slice_bounds-put_items-end-in-Ok
slice_bounds-put_items-end-in-Ok c = sym (length-take-le _ _ (listed_room _ _ _ _ c.list_trace.ensures _ c.in-Ok.is))

pub returns-in-Err : goal.returns-in-Err
returns-in-Err c = let met = c.list_trace.ensures in
    let text = c.put_refusal_at.ensures in
    (rw (refused_text _ _ _ _ met _ _ c.in-Err.is) text, met.words)

pub returns-in-Ok : goal.returns-in-Ok
returns-in-Ok c = let met = c.list_trace.ensures in
    let head = c.put_head-at.ensures in
    let items = rw (listed_words _ _ _ _ met _ c.in-Ok.is) at c.put_items.ensures in
    (rw (listed_text_lem _ _ _ _ met _ c.in-Ok.is) (head then items), met.words)
