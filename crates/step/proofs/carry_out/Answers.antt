use mathlib.Core.Path.{sym, ◌∙◌}
use Rattle.board.specs.Setters.{with_fault}
use Rattle.work.specs.FaultApartLaws.{same_ending, same_work}
use Rattle.step.specs.StepMirrorLaws.{board_left}
use Rattle.step.proofs.NoWork.{no_work}
use Rattle.step.proofs.carry_out.Goals as goal

pub returns-then-leaves_board : goal.returns-then-leaves_board
returns-then-leaves_board c = let at = c.args in
    let found = c.make_access-access.ensures in
    let stays = board_left c.in-Work.command at.board c.in-Work.address c.in-Work.value (sym c.leaves_board.ensures ∙ c.if-leaves_board.true) in
    let changes = same_work at.board at.fault c.in-Work.command c.in-Work.address c.in-Work.value in
    let ends = same_ending at.board at.fault c.in-Work.command c.in-Work.address in
    rw (c.in-Work.is, changes, ends, ← stays, ← found.0, ← c.find_ending-ending.ensures, ← c.settle-settled.ensures, ← c.after_work-kept.ensures, ← c.set_fault.ensures, ← found.1)

pub returns-else-leaves_board : goal.returns-else-leaves_board
returns-else-leaves_board c = let at = c.args in
    let found = c.make_access-access.ensures in
    let changes = same_work at.board at.fault c.in-Work.command c.in-Work.address c.in-Work.value in
    let ends = same_ending at.board at.fault c.in-Work.command c.in-Work.address in
    let ending = c.find_ending-ending.ensures in
    rw (c.in-Work.is, changes, ends, ← c.board_after-worked.ensures, ← found.0, ← ending, ← c.settle-settled.ensures, ← c.after_work-kept.ensures, ← c.set_fault-in-Work.ensures, ← found.1)

pub returns-in_default : goal.returns-in_default
returns-in_default c = let at = c.args in
    rw (c.set_fault-in_default.ensures, c.settle_without_work.ensures) (no_work (with_fault at.board at.fault) at.place at.memory.now at.plan c.in_default.in_default-own.keys2)
