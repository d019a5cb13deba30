use mathlib.Core.Path.{refl}
use Rattle.text.specs.TextLaws.{◌then◌}
use Rattle.waits_setting.proofs.put_judged.Goals as goal

pub returns-then-not-is_same : goal.returns-then-not-is_same
returns-then-not-is_same c = rw (← c.is_same.ensures, c.if-not-is_same.true)
    (record { puts = c.put_text-to.ensures then c.put_other_line.ensures; verdict = refl })

pub returns-then-is_same : goal.returns-then-is_same
returns-then-is_same c = rw (← c.is_same.ensures, c.if-not-is_same.false, ← c.is_same-else-not-is_same.ensures, c.if-is_same.true)
    (record { puts = c.put_text.ensures; verdict = refl })

pub returns-else-is_same : goal.returns-else-is_same
returns-else-is_same c = rw (← c.is_same.ensures, c.if-not-is_same.false, ← c.is_same-else-not-is_same.ensures, c.if-is_same.false)
    (record { puts = c.put_memory.ensures; verdict = refl })
