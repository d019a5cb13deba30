use Prim.Native.Nat.{◌-◌}
use mathlib.Core.Path.{◌≡◌}
use lib.ListN.{length}
use Rattle.text.specs.TextLaws.{Remains}
use Rattle.page_text.specs.PageText.{codes_from}
use Rattle.page_text.proofs.lines.put_codes.Given as goal

abbrev pub invariant-loop-code : goal.invariant-loop-code
invariant-loop-code l = (length l.text ≡ length l.initial.text) × Remains l.initial.text l.from (codes_from l.page.counts l.page.firsts l.page.lasts 0 16) l.text l.at (codes_from l.page.counts l.page.firsts l.page.lasts l.code (16 - l.code))
