use Rattle.waits_setting.specs.WaitsSettingLaws.{other_line_lem}
use Rattle.waits_setting.proofs.put_other_line.Goals as goal

pub returns : goal.returns
returns c = let given = c.args in
    let start = other_line_lem given.due.now given.came.now c.first_other.ensures c.front.ensures c.line_start-start.ensures in
    rw (start c.rest-line.ensures c.line_end-end.ensures c.front-2.ensures) at c.put_text.ensures
