use lib.Seq.{length-take-le}
use mathlib.Core.Path.{sym}
use Rattle.text.specs.TextLaws.{told_cut}
use borrow.Author.Rules.{rules}
use Rattle.script.proofs.check.Goals as goal

pub slice_bounds-put_check-end : goal.slice_bounds-put_check-end
slice_bounds-put_check-end c = sym (length-take-le _ _ (search rules))

pub returns : goal.returns
returns c = let gone = c.take_lines-gone.ensures in record {
  stands = gone.stands;
  puts = rw (told_cut gone.puts) at c.put_check-judged.ensures.lines;
  count = rw (told_cut gone.puts) at c.put_check-judged.ensures.count;
}
