-- The list by its laws, and the trace behind it as unmending leaves it.
use mathlib.Core.Path.{◌≡◌, refl, sym, ◌∙◌}
use Prim.Native.Nat.{◌-◌}
use native.Mathlib.Omega.{arith}
use lib.ListN.{length}
use lib.Seq.{length-take-le}
use Rattle.laws.specs.StoreLaws.{length_stored}
use Rattle.list_lines.specs.ListLines.{list_in}
use Rattle.list_lines.specs.ListInLaws.{some_handed, none_handed}
use Rattle.unmend_text.specs.UnmendTextLaws.{unmended_meets, too_long, no_list, other_length, not_its, its, words_front, trace_behind, words_stay, words_put}
use Rattle.unmend_text.specs.UnmendTextLaws.{same_recorded, recorded_put, other_stays}
use borrow.Author.Rules.{rules}
use Rattle.unmend_text.proofs.unmend_input.Goals as goal

pub returns-then-input-gt700000 : goal.returns-then-input-gt700000
returns-then-input-gt700000 c = let a = c.args in
    unmended_meets a.input.now a.list.now (sym (too_long (length a.list.now) a.input.now (search rules))) refl
    (words_stay a.input.now a.list.now (search rules))

pub slice_bounds-unmend_behind-end : goal.slice_bounds-unmend_behind-end
slice_bounds-unmend_behind-end c = let words = c.args.list.now in
    let input = c.args.input.now in
    let m = c.read_list.ensures in
    let h = some_handed (list_in (length words) input) c.in-Some.read (sym c.in-Some.is ∙ m.answer) in
    omega (arith, (trace_behind input words h).1, length_stored words (list_in (length words) input).words 0 m.words)

pub slice_bounds-unmend_behind-end-2 : goal.slice_bounds-unmend_behind-end-2
slice_bounds-unmend_behind-end-2 c = let words = c.args.list.now in
    let input = c.args.input.now in
    let m = c.read_list.ensures in
    let h = some_handed (list_in (length words) input) c.in-Some.read (sym c.in-Some.is ∙ m.answer) in
    sym (length-take-le _ _ (omega (arith, (trace_behind input words h).1, length_stored words (list_in (length words) input).words 0 m.words)))

pub unmend_behind-requires : goal.unmend_behind-requires
unmend_behind-requires c = let words = c.args.list.now in
    let input = c.args.input.now in
    let m = c.read_list.ensures in
    let h = some_handed (list_in (length words) input) c.in-Some.read (sym c.in-Some.is ∙ m.answer) in
    (trace_behind input words h).0

pub returns-then-unmend_behind : goal.returns-then-unmend_behind
returns-then-unmend_behind c = let words = c.args.list.now in
    let input = c.args.input.now in
    let m = c.read_list.ensures in
    let h = some_handed (list_in (length words) input) c.in-Some.read (sym c.in-Some.is ∙ m.answer) in
    let cycles = rw (h.from, h.cycles) at (sym c.saturating_sub-behind.ensures ∙ c.if-behind-read.false) in
    let met = rw (words_front input words h m.words, h.from) at c.unmend_behind.ensures in
    let itself = its (length words) input (search rules) h.clear cycles (sym met.answer ∙ c.if-unmend_behind.true) in
    unmended_meets input words (same_recorded h ∙ sym itself) (recorded_put input words h met c.if-unmend_behind.true) (words_put input words (search rules) m.words)

pub returns-else-unmend_behind : goal.returns-else-unmend_behind
returns-else-unmend_behind c = let words = c.args.list.now in
    let input = c.args.input.now in
    let m = c.read_list.ensures in
    let h = some_handed (list_in (length words) input) c.in-Some.read (sym c.in-Some.is ∙ m.answer) in
    let cycles = rw (h.from, h.cycles) at (sym c.saturating_sub-behind.ensures ∙ c.if-behind-read.false) in
    let met = rw (words_front input words h m.words, h.from) at c.unmend_behind.ensures in
    let other = not_its (length words) input (search rules) h.clear cycles (sym met.answer ∙ c.if-unmend_behind.false) in
    unmended_meets input words (sym other) (other_stays met c.if-unmend_behind.false) (words_put input words (search rules) m.words)

pub returns-then-behind-read : goal.returns-then-behind-read
returns-then-behind-read c = let words = c.args.list.now in
    let input = c.args.input.now in
    let m = c.read_list.ensures in
    let h = some_handed (list_in (length words) input) c.in-Some.read (sym c.in-Some.is ∙ m.answer) in
    let cycles : length input - (list_in (length words) input).from ≡ (list_in (length words) input).cycles → ⊥ =
    λ e. c.if-behind-read.true (c.saturating_sub-behind.ensures ∙ rw (h.from, h.cycles) e) in
    unmended_meets input words (sym (other_length (length words) input (search rules) h.clear cycles)) refl (words_put input words (search rules) m.words)

pub returns-in_default : goal.returns-in_default
returns-in_default c = let input = c.args.input.now in
    let words = c.args.list.now in
    let m = c.read_list.ensures in
    let none = none_handed (list_in (length words) input) (sym c.in_default.is ∙ m.answer) in
    unmended_meets input words (sym (no_list (length words) input (search rules) none)) refl (words_put input words (search rules) m.words)
