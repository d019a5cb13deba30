use Rattle.trace_list.specs.ListerLines.{item_lines}
use Rattle.console.specs.GatheringLaws.{Gathering}
use Prim.Native.Nat.{◌*◌}
use lib.ListN.{length, drop}
use mathlib.Core.Path.{◌≡◌}
use Rattle.trace_list.proofs.write_items.Given as goal

abbrev pub invariant-loop-k : goal.invariant-loop-k
invariant-loop-k l = (length l.text ≡ length l.initial.text) × Gathering l.initial.text (item_lines l.words) l.text l.at (item_lines (drop (2 * l.k) l.words))
