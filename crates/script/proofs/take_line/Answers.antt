use mathlib.Core.Path.{◌≡◌, refl}
use lib.ListN.{length}
use native.Mathlib.Omega.{arith}
use Rattle.text.specs.TextLaws.{nothing}
use Rattle.answers.specs.Bench.{left}
use Rattle.scripts.specs.ScriptLaws.{no_mark, shown_mark, other_mark, went_nowhere}
use Rattle.script.proofs.take_line.Goals as goal

pub returns-in_default : goal.returns-in_default
returns-in_default c = let at = c.args in
    let none = no_mark at.line.now (left at.gone.bench at.memory.now) (omega arith) in
    rw (none.0, none.1) (went_nowhere _ _ _)

pub returns-then-mark-eq43 : goal.returns-then-mark-eq43
returns-then-mark-eq43 c = let at = c.args in
    let mark = shown_mark at.line.now (left at.gone.bench at.memory.now) (λ (e : length at.line.now ≡ 0). omega arith) c.if-mark-eq43.true in
    rw (mark.0, mark.1) c.show.ensures

pub returns-else-mark-eq43 : goal.returns-else-mark-eq43
returns-else-mark-eq43 c = let at = c.args in
    let mark = other_mark at.line.now (left at.gone.bench at.memory.now) (λ (e : length at.line.now ≡ 0). omega arith) c.if-mark-eq43.false in
    rw (mark.0, mark.1) (record { stands = c.prepare.ensures; puts = nothing _ _; some = refl })
