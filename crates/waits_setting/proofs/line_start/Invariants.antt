use mathlib.Core.Path.{◌≡◌}
use lib.ListN.{drop}
use Rattle.waits_setting.specs.WaitsSetting.{line_start}
use Rattle.waits_setting.proofs.line_start.Given as goal

abbrev pub invariant-loop-i : goal.invariant-loop-i
invariant-loop-i l = line_start l.i l.start (drop l.i l.before) ≡ line_start 0 0 l.before
