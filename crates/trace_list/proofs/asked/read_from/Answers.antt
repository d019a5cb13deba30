use mathlib.Core.Path.{refl, ap, sym, ◌∙◌}
use borrow.Author.Tests.{eq-eqb, ne_eqb}
use Rattle.trace_list.specs.Asked.{multiple}
use Rattle.trace_list.specs.AskedLaws.{some_word, no_word}
use Rattle.trace_list.proofs.asked.read_from.Goals as goal

pub returns-then-word-eq0 : goal.returns-then-word-eq0
returns-then-word-eq0 c = sym (no_word c.args.word.now c.if-word-eq0.true)

pub returns-then-cycle-eq0 : goal.returns-then-cycle-eq0
returns-then-cycle-eq0 c = sym (some_word _ c.if-word-eq0.false
    ∙ ap multiple (sym c.read_decimal.ensures ∙ c.in-From.is) ∙ rw (eq-eqb _ _ c.if-cycle-eq0.true) refl)

pub returns-in-Whole : goal.returns-in-Whole
returns-in-Whole c = sym (some_word _ c.if-word-eq0.false ∙ ap multiple (sym c.read_decimal.ensures ∙ c.in-Whole.is))

pub returns-in-Unclear : goal.returns-in-Unclear
returns-in-Unclear c = sym (some_word _ c.if-word-eq0.false ∙ ap multiple (sym c.read_decimal.ensures ∙ c.in-Unclear.is))

pub returns-else-cycle-eq0 : goal.returns-else-cycle-eq0
returns-else-cycle-eq0 c = sym (some_word _ c.if-word-eq0.false
    ∙ ap multiple (sym c.read_decimal.ensures ∙ c.in-From.is) ∙ rw (ne_eqb _ _ c.if-cycle-eq0.false) refl)
