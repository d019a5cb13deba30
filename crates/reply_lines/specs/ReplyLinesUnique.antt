-- No second answer fits a line that is read as a reply.
use Rattle.std.specs.Prelude.{ℕ, ◌≡◌, List}
use Rattle.std.proofs.Common.{sym, ◌∙◌}
use Rattle.reply_lines.specs.declared.ReplyLine.{ReplyLine}
use Rattle.reply_lines.specs.ReplyLines.{reply_line}

pub reply_unique : (line : List ℕ) (r s : ReplyLine) → r ≡ reply_line line → s ≡ reply_line line → r ≡ s
reply_unique line r s p q = p ∙ sym q
