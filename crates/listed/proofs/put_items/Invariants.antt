use Prim.Native.Nat.{◌*◌}
use mathlib.Core.Path.{◌≡◌}
use lib.ListN.{length, drop}
use Rattle.text.specs.TextLaws.{Remains}
use Rattle.listed.specs.Listed.{items_text}
use Rattle.listed.proofs.put_items.Given as goal

abbrev pub invariant-loop-k : goal.invariant-loop-k
invariant-loop-k l = (length l.text ≡ length l.initial.text) × Remains l.initial.text l.from (items_text l.words) l.text l.at (items_text (drop (2 * l.k) l.words))
