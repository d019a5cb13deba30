use mathlib.Core.Path.{sym, ◌∙◌}
use Rattle.waits_setting.specs.WaitsSetting.{came_of}
use Rattle.waits_page.specs.WaitsPage.{room_in}
use Rattle.waits_page.specs.WaitsPageLaws.{page_long, page_stray, page_compared, all_put, due_worked, left_long, left_stray, left_compared}
use Rattle.waits_page.proofs.put_page.Goals as goal

-- src/lib.rt:90:9
pub returns-then-input-gt16384 : goal.returns-then-input-gt16384
returns-then-input-gt16384 c = let args = c.args in
    let due = came_of args.due.now args.due_memory.now in
    let came = came_of args.text.now args.memory.now in
    let long = c.if-input-gt16384.true in
    let left = left_long args.input.now due came long in
    record { page = rw (page_long (room_in due came) args.input.now long) c.put_text.ensures; due = left.0; came = left.1 }

-- src/lib.rt:97:9
pub returns-then-first : goal.returns-then-first
returns-then-first c = let args = c.args in
    let due = came_of args.due.now args.due_memory.now in
    let came = came_of args.text.now args.memory.now in
    let run = c.run_at-first.ensures in
    let taken = sym run.taken ∙ c.if-first.true in
    let left = left_compared args.input.now due came c.if-input-gt16384.false taken in
    let settled = c.put_settings-judged.ensures in
    record {
      page = rw (page_compared (room_in due came) args.input.now c.if-input-gt16384.false taken)
          (all_put _ _ run c.front-lines.ensures c.put_text-at.ensures settled.0 c.put_verdict.ensures);
      due = due_worked run ∙ left.0;
      came = settled.1 ∙ left.1;
    }

-- src/lib.rt:76:1
pub returns-else-first : goal.returns-else-first
returns-else-first c = let args = c.args in
    let due = came_of args.due.now args.due_memory.now in
    let came = came_of args.text.now args.memory.now in
    let run = c.run_at-first.ensures in
    let stray = sym run.taken ∙ c.if-first.false in
    let left = left_stray args.input.now due came c.if-input-gt16384.false stray in
    record {
      page = rw (page_stray (room_in due came) args.input.now c.if-input-gt16384.false stray, ← run.stray, ← c.front.ensures)
          c.put_unclear.ensures;
      due = due_worked run ∙ left.0;
      came = left.1;
    }
