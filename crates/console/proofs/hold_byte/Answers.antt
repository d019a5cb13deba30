use Prim.Native.Nat.{◌+◌, ◌-◌}
use mathlib.Core.Path.{sym, ◌∙◌}
use mathlib.Core.Path.{refl}
use native.Mathlib.Omega.{arith}
use lib.Seq.{drop-set-lt}
use Rattle.console.specs.HoldingLaws.{hold_room, hold_gap, hold_none, hold_nothing}
use Rattle.console.proofs.hold_byte.Goals as goal

pub returns-then-before-line : goal.returns-then-before-line
returns-then-before-line c = let line = c.args.line.now in
    let had = c.args.before in
    let byte = c.args.byte in
    record { more = omega arith; within = omega arith; line = hold_room line had byte c.if-before-line.true; rest = drop-set-lt (had + 1) line had byte (omega arith) }

pub returns-then-is_gap : goal.returns-then-is_gap
returns-then-is_gap c = let line = c.args.line.now in
    let had = c.args.before in
    let byte = c.args.byte in
    record {
      more = omega arith;
      within = omega arith;
      line = hold_gap line had byte (omega arith) (sym c.is_gap.ensures ∙ c.if-is_gap.true);
      rest = drop-set-lt had line (had - 1) byte (omega arith);
    }

pub returns-else-is_gap : goal.returns-else-is_gap
returns-else-is_gap c = let line = c.args.line.now in
    let had = c.args.before in
    let byte = c.args.byte in
    record { more = omega arith; within = omega arith; line = hold_none line had byte (omega arith) (sym c.is_gap.ensures ∙ c.if-is_gap.false); rest = refl }

pub returns-else-before-gt0 : goal.returns-else-before-gt0
returns-else-before-gt0 c = let line = c.args.line.now in
    let had = c.args.before in
    record { more = omega arith; within = omega arith; line = hold_nothing line had c.args.byte (omega arith) (omega arith); rest = refl }
