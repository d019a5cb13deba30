use mathlib.Core.Path.{refl}
use Rattle.trace_list.specs.RestPartsLaws.{from_beyond, from_unlisted, from_entry}
use Rattle.trace_list.proofs.write_from.Goals as goal

-- src/main.rt:153:9
pub returns-then-trace-from : goal.returns-then-trace-from
returns-then-trace-from c = let a = c.args in
    from_beyond a.text.now a.trace.now a.index.now a.from _ c.if-trace-from.true c.say_unclear.ensures

-- src/main.rt:157:9
pub returns-then-index-place : goal.returns-then-index-place
returns-then-index-place c = let a = c.args in
    from_unlisted a.text.now a.trace.now a.index.now a.from _ c.if-trace-from.false c.if-index-place.true c.say_unclear-then-index-place.ensures

-- src/main.rt:146:1
pub returns : goal.returns
returns c = let a = c.args in
    let listed = rw c.read_entry-entry.ensures at c.list_from-listed.ensures in
    from_entry a.text.now a.trace.now a.index.now a.from _ c.if-trace-from.false c.if-index-place.false refl listed
    c.write_listing.ensures
