use Prim.Native.Nat.{◌+◌}
use mathlib.Core.Path.{◌≡◌}
use lib.ListN.{drop}
use Rattle.waits_setting.specs.WaitsSetting.{first_other}
use Rattle.waits_setting.proofs.first_other.Given as goal

abbrev pub invariant-loop-i : goal.invariant-loop-i
invariant-loop-i l = l.i + first_other (drop l.i l.due) (drop l.i l.came) ≡ first_other l.due l.came
