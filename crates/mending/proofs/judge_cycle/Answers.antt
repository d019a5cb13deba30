use mathlib.Core.Path.{sym, ◌∙◌}
use native.Mathlib.Omega.{arith}
use borrow.Author.Tests.{lt-ltb, le-ltb}
use Rattle.mending.specs.MendingLaws.{kept_reserved, kept_low, kept_soon, kept_in_turn, kept_high}
use Rattle.mending.proofs.judge_cycle.Goals as goal

pub returns-in-0-to-7 : goal.returns-in-0-to-7
returns-in-0-to-7 c = let a = c.args in
    rw (kept_reserved a.due a.pst (sym c.is_reserved.ensures ∙ c.if-is_reserved.true), c.saturating_sub.ensures)

pub returns-in-0-to-7-2 : goal.returns-in-0-to-7-2
returns-in-0-to-7-2 c = let a = c.args in
    rw (kept_low a.due a.pst (omega arith) (sym c.is_reserved.ensures ∙ c.if-is_reserved.false), lt-ltb a.pst 8 (omega arith), c.saturating_sub-in-0-to-7-2.ensures)

pub returns-in-8-to-11 : goal.returns-in-8-to-11
returns-in-8-to-11 c = let a = c.args in
    rw (kept_soon a.due a.pst (omega arith) (omega arith) c.if-due-ge2.true, c.saturating_sub-in-8-to-11.ensures)

pub returns-in-8-to-11-2 : goal.returns-in-8-to-11-2
returns-in-8-to-11-2 c = let a = c.args in
    rw (kept_in_turn a.due a.pst (omega arith) (omega arith) c.if-due-ge2.false, le-ltb a.pst 8 (omega arith), lt-ltb a.pst 12 (omega arith), c.count_nibbles.ensures)

pub returns-in_default : goal.returns-in_default
returns-in_default c = let a = c.args in
    rw (kept_high a.due a.pst (omega arith), le-ltb a.pst 8 (omega arith), le-ltb a.pst 12 (omega arith), c.saturating_sub-in_default.ensures)
