use Rattle.text.specs.TextLaws.{◌then◌}
use mathlib.Core.Path.{refl}
use Rattle.morning_page.specs.MorningPage.{is_good}
use Rattle.morning_page.proofs.put_check.Goals as goal

pub returns-then-good : goal.returns-then-good
unfolding is_good
returns-then-good c = record {
  lines = c.put_byte-at.ensures
      then c.put_decimal-at.ensures
      then (rw c.is_same-good.ensures at c.put_judged-end.ensures);
  count = rw (rw c.is_same-good.ensures at c.if-good.true) c.saturating_sub-bad.ensures;
}

pub returns-else-good : goal.returns-else-good
unfolding is_good
returns-else-good c = record {
  lines = c.put_byte-at.ensures
      then c.put_decimal-at.ensures
      then (rw c.is_same-good.ensures at c.put_judged-end.ensures);
  count = rw (rw c.is_same-good.ensures at c.if-good.false) refl;
}
