use mathlib.Core.Path.{◌≡◌, sym}
use Prim.Native.Nat.{◌+◌, ◌/◌}
use native.Mathlib.Omega.{arith}
use lib.ListN.{take}
use lib.Seq.{length-take-le}
use Rattle.text.specs.TextLaws.{◌then◌}
use Rattle.std.proofs.lemmas.List.{take_min}
use borrow.Author.Rules.{rules}
use Rattle.page_text.proofs.put_lines.Goals as goal

pub slice_bounds-put_index-end : goal.slice_bounds-put_index-end
slice_bounds-put_index-end c = sym (length-take-le _ _ (omega arith))

pub put_index-requires : goal.put_index-requires
put_index-requires c = omega (arith, length-take-le c.min.result c.args.index.now (omega arith))

pub returns : goal.returns
returns c = let a = c.args in
    let there : take c.min.result a.index.now ≡ take ((a.page.cycles + 255) / 256) a.index.now = rw c.min.ensures (take_min _ a.index.now) in
    rw there at
    (c.put_head-at.ensures
    then c.put_rate-at.ensures
    then c.put_codes-at.ensures
    then c.put_index.ensures)
