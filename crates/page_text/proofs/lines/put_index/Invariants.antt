use mathlib.Core.Path.{◌≡◌}
use lib.ListN.{length, drop}
use Rattle.text.specs.TextLaws.{Remains}
use Rattle.page_text.specs.PageText.{index_from}
use Rattle.page_text.proofs.lines.put_index.Given as goal

abbrev pub invariant-loop-k : goal.invariant-loop-k
invariant-loop-k l = (length l.text ≡ length l.initial.text) × Remains l.initial.text l.from (index_from 0 l.index) l.text l.at (index_from l.k (drop l.k l.index))
