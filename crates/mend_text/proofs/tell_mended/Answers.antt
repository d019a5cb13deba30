use mathlib.Core.Path.{ap, sym, ◌∙◌}
use lib.Seq.{length-take-le}
use Rattle.text.specs.TextLaws.{◌then◌}
use Rattle.mending.specs.MendingAnswer.{told_mending}
use Rattle.mending.specs.MendingAnswerLaws.{list_put}
use Rattle.mend_text.proofs.tell_mended.Goals as goal

pub slice_bounds-put_list-end : goal.slice_bounds-put_list-end
slice_bounds-put_list-end c = let m = c.mend_trace.ensures in
    let verdict = sym m.answer ∙ ap told_mending c.in-Ok.is in
    (list_put m verdict).fits

pub slice_bounds-put_list-end-in-Ok : goal.slice_bounds-put_list-end-in-Ok
slice_bounds-put_list-end-in-Ok c = let m = c.mend_trace.ensures in
    let verdict = sym m.answer ∙ ap told_mending c.in-Ok.is in
    sym (length-take-le _ _ (list_put m verdict).fits)

pub returns-in-Err : goal.returns-in-Err
returns-in-Err c = let m = c.mend_trace.ensures in
    let verdict = sym m.answer ∙ ap told_mending c.in-Err.is in
    record {
      told = rw verdict (c.put_refusal-at.ensures then c.put_byte.ensures);
      writes = rw verdict;
      cycles = m.cycles;
      list = m.list;
    }

pub returns-in-Ok : goal.returns-in-Ok
returns-in-Ok c = let m = c.mend_trace.ensures in
    let verdict = sym m.answer ∙ ap told_mending c.in-Ok.is in
    record {
      told = rw verdict (rw (list_put m verdict).list at c.put_list-end.ensures);
      writes = rw verdict;
      cycles = m.cycles;
      list = m.list;
    }
