use mathlib.Core.Path.{sym}
use lib.Seq.{set_out}
use borrow.Author.Rules.{rules}
use Rattle.unmending.proofs.put_word.Goals as goal

pub returns-else-cycle-trace : goal.returns-else-cycle-trace
returns-else-cycle-trace c = sym (set_out _ _ _ (search rules))
