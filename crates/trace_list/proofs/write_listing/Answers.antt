use Rattle.trace_list.specs.ListerGatheringLaws.{listed_refused, listed_all, listed_head}
use lib.Seq.{length-take-le}
use mathlib.Core.Path.{sym}
use borrow.Author.Rules.{rules}
use Rattle.trace_list.proofs.write_listing.Goals as goal

pub slice_bounds-write_items-end : goal.slice_bounds-write_items-end
slice_bounds-write_items-end c = sym (length-take-le _ _ (search rules))

pub returns-in-Err : goal.returns-in-Err
returns-in-Err c = let a = c.args in
    listed_refused a.text.now a.words.now a.cycles a.listed _ _ c.in-Err.is c.say_refusal.ensures

pub returns-then-items-room : goal.returns-then-items-room
returns-then-items-room c = let a = c.args in
    listed_all a.text.now a.words.now a.cycles a.listed _
    c.in-Ok.is
    c.say_head.ensures
    c.if-items-room.true
    c.write_items.ensures

pub returns-else-items-room : goal.returns-else-items-room
returns-else-items-room c = let a = c.args in
    listed_head a.text.now a.words.now a.cycles a.listed _
    c.in-Ok.is
    c.say_head.ensures c.if-items-room.false
