use mathlib.Core.Path.{sym, ◌∙◌}
use Rattle.trace_list.specs.AskedLaws.{below_digits, above_digits, too_wide, one_digit_more, no_byte_left}
use borrow.Author.Rules.{rules}
use Rattle.trace_list.proofs.asked.read_decimal.Goals as goal
use Rattle.trace_list.proofs.asked.read_decimal.Goals.{then-byte-lt48-via-then-byte-lt48, then-byte-lt48-via-else-byte-lt48+then-byte-gt57}

pub returns-then-byte-lt48 : goal.returns-then-byte-lt48
returns-then-byte-lt48 c = let w = c.loop-byte in
    elim c.then-byte-lt48.branch [
      | then-byte-lt48-via-then-byte-lt48 v ↦ sym (below_digits _ w.number w.byte-index (search rules) v.if-byte-lt48.true) ∙ w.invariant.1
      | then-byte-lt48-via-else-byte-lt48+then-byte-gt57 v ↦ sym
          (above_digits _ w.number w.byte-index (search rules) v.if-byte-lt48.false v.if-byte-gt57.true) ∙ w.invariant.1
    ]

pub returns-then-number-gt4294967295 : goal.returns-then-number-gt4294967295
returns-then-number-gt4294967295 c = let w = c.loop-byte in sym
    (too_wide _ w.number w.byte-index (search rules) c.if-byte-lt48.false c.if-byte-gt57.false (rw c.from.ensures at c.if-number-gt4294967295.true))
    ∙ w.invariant.1

pub loop-byte-preserved : goal.loop-byte-preserved
loop-byte-preserved c = let w = c.loop-byte in (
  search rules,
  rw c.from.ensures (sym (one_digit_more _ w.number w.byte-index (search rules) c.if-byte-lt48.false c.if-byte-gt57.false
      (rw c.from.ensures at c.if-number-gt4294967295.false)) ∙ w.invariant.1),
)

pub returns : goal.returns
returns c = let w = c.loop-byte in sym (no_byte_left _ w.number w.byte-index (search rules)) ∙ w.invariant.1
