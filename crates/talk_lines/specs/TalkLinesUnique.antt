-- No second answer fits a line of `talk`.
use Rattle.std.specs.Prelude.{ℕ, ◌≡◌, List}
use Rattle.std.proofs.Common.{sym, ◌∙◌}
use Rattle.talk_lines.specs.declared.TalkLine.{TalkLine}
use Rattle.talk_lines.specs.TalkLines.{talk_line}

pub talk_unique : (line : List ℕ) (r s : TalkLine) → r ≡ talk_line line → s ≡ talk_line line → r ≡ s
talk_unique line r s p q = p ∙ sym q
