-- No second answer fits a line of `stand_in`.
use Rattle.std.specs.Prelude.{ℕ, ◌≡◌, List}
use Rattle.std.proofs.Common.{sym, ◌∙◌}
use Rattle.board_lines.specs.declared.BoardLine.{BoardLine}
use Rattle.board_lines.specs.BoardLines.{board_line}

pub board_unique : (line : List ℕ) (r s : BoardLine) → r ≡ board_line line → s ≡ board_line line → r ≡ s
board_unique line r s p q = p ∙ sym q
