use mathlib.Core.Path.{refl, ap, sym, ◌∙◌}
use borrow.Author.Rules.{rules}
use lib.ListN.{length, get_or}
use Rattle.unmending.specs.UnmendingLaws.{put_next, put_none, put_word_length}
use Rattle.unmending.proofs.put_back.Goals as goal

pub loop-word-init : goal.loop-word-init
loop-word-init c = (refl, refl)

pub loop-word-preserved : goal.loop-word-preserved
loop-word-preserved c = let w = c.loop-word in
    let list = c.args.list.now in
    let put = c.put_word.ensures in
    (ap length put ∙ put_word_length w.trace (get_or list w.word-index 0) ∙ w.invariant.0, rw put (sym (put_next w.trace list w.word-index (search rules))) ∙ w.invariant.1)

pub shape_of-trace : goal.shape_of-trace
shape_of-trace c = c.loop-word.invariant.0

pub returns : goal.returns
returns c = let w = c.loop-word in
    sym (put_none w.trace c.args.list.now w.word-index (search rules)) ∙ w.invariant.1
