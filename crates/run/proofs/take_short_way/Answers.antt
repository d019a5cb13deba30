use Prim.Native.Nat.{◌<◌}
use native.Mathlib.Omega.{arith}
use borrow.Author.Rules.{rules}
use Rattle.run.specs.ShortWayLaws.{short_operand}
use Rattle.run.proofs.take_short_way.Goals as goal

pub overflow_cast-word : goal.overflow_cast-word
overflow_cast-word c = let small : c.args.word < 0x10000 = omega (arith, (short_operand c.in-Due.left c.args.word (rw c.in-Due.is at c.requires)).1) in search rules

pub overflow_sub-left : goal.overflow_sub-left
overflow_sub-left c = omega (arith, (short_operand c.in-Due.left c.args.word (rw c.in-Due.is at c.requires)).0)

pub returns-in-Rest : goal.returns-in-Rest
returns-in-Rest c = rw c.in-Rest.is c.stay_idle.ensures

pub returns-in-Due : goal.returns-in-Due
returns-in-Due c = rw (c.in-Due.is, ← c.take_operand-all.ensures) c.hold.ensures

pub returns-in-Upper : goal.returns-in-Upper
returns-in-Upper c = rw c.in-Upper.is c.release.ensures
