-- No second answer fits a line that every program has.
use Rattle.std.specs.Prelude.{ℕ, ◌≡◌, List}
use Rattle.std.proofs.Common.{sym, ◌∙◌}
use Rattle.common_lines.specs.declared.CommonLine.{CommonLine}
use Rattle.common_lines.specs.CommonLines.{common_line}

pub common_unique : (line : List ℕ) (r s : CommonLine) → r ≡ common_line line → s ≡ common_line line → r ≡ s
common_unique line r s p q = p ∙ sym q
