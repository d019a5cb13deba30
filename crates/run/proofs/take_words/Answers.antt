use lib.ListN.{get_or, length-set}
use mathlib.Core.Path.{◌≡◌, refl, sym, ap, ◌∙◌}
use Rattle.board.specs.Setters.{with_fault}
use native.Mathlib.Omega.{arith}
use Rattle.board.specs.declared.Place.{Place}
use Rattle.board.specs.State.{state_of}
use Rattle.step.specs.Step.{left, word_taken}
use Rattle.step.specs.StepFaultLaws.{none_cleared}
use Rattle.step.proofs.NoWork.{no_work}
use Rattle.run.specs.RunLaws.{stepped_as, goes_on, ran_out, written_out}
use Rattle.run.specs.ShortWayLaws.{short_way_step}
use Rattle.run.proofs.take_words.Goals.{in-None, in-Some}
use Rattle.run.proofs.take_words.Goals as goal

pub loop-i-init : goal.loop-i-init
loop-i-init c = (refl, refl, refl, refl, c.reply_of-reply.ensures)

pub bounds-replies-i : goal.bounds-replies-i
bounds-replies-i c = omega arith

pub take_short_way-p-requires : goal.take_short_way-p-requires
take_short_way-p-requires c = sym c.has_short_way.ensures ∙ c.if-has_short_way.true

pub loop-i-preserved-then-has_short_way : goal.loop-i-preserved-then-has_short_way
loop-i-preserved-then-has_short_way c = let at = c.loop-i in
    let words = c.args.words.now in
    let before = state_of at.b at.p at.memory in
    let short = short_way_step at.p.phase at.b at.p at.memory (get_or words at.i 0) refl (sym c.has_short_way.ensures ∙ c.if-has_short_way.true) in
    let step = ap (λ (p : Place). state_of at.b p at.memory) c.take_short_way-p.ensures ∙ short in
    let on = goes_on words at.i before at.replies c.loop-i-test.true at.invariant.4 step in
    (at.invariant.0, simp length-set at.invariant.1, on.0 ∙ at.invariant.2, on.1 ∙ at.invariant.3, on.2)

pub loop-i-preserved-in_default : goal.loop-i-preserved-in_default
loop-i-preserved-in_default c = let at = c.loop-i in
    let words = c.args.words.now in
    let word = get_or words at.i 0 in
    let before = state_of at.b at.p at.memory in
    let cleared : state_of c.match-held.b at.p at.memory ≡ word_taken before word =
    elim c.match-held.branch [
      | in-None w ↦ ap (λ b. state_of b at.p at.memory) w.b-is ∙ none_cleared before word w.in-None.is
      | in-Some w ↦ ap (λ b. state_of b at.p at.memory) (w.b-is ∙ w.set_fault-b.ensures) ∙ ap (λ f. state_of (with_fault at.b f) at.p at.memory) c.after_word-fault.ensures
    ] in
    let plan = c.plan_for-plan in
    let step = stepped_as at.b at.p at.memory word plan.ensures
    (ap (λ (p : Place). state_of c.match-held.b p at.memory) c.settle_without_work-p.ensures ∙ no_work c.match-held.b at.p at.memory plan.result c.in_default.in_default-own.keys2 ∙ ap (left plan.result) cleared) in
    let on = goes_on words at.i before at.replies c.loop-i-test.true at.invariant.4 step in
    (at.invariant.0, simp length-set at.invariant.1, on.0 ∙ at.invariant.2, on.1 ∙ at.invariant.3, on.2)

pub loop-i-preserved : goal.loop-i-preserved
loop-i-preserved c = let at = c.loop-i in
    let words = c.args.words.now in
    let before = state_of at.b at.p at.memory in
    let word = get_or words at.i 0 in
    let cleared = ap (λ f. left c.plan_for-plan.result (state_of (with_fault at.b f) at.p at.memory)) c.after_word-fault.ensures in
    let step = stepped_as at.b at.p at.memory word c.plan_for-plan.ensures (c.carry_out-next.ensures ∙ cleared) in
    let on = goes_on words at.i before at.replies c.loop-i-test.true at.invariant.4 step in
    (c.carry_out-next.auto.memory ∙ at.invariant.0, simp length-set at.invariant.1, on.0 ∙ at.invariant.2, on.1 ∙ at.invariant.3, on.2)

pub shape_of-memory : goal.shape_of-memory
shape_of-memory c = c.loop-i.invariant.0

pub shape_of-replies : goal.shape_of-replies
shape_of-replies c = c.loop-i.invariant.1

pub returns : goal.returns
returns c = (sym (ran_out _ _ _ c.loop-i-test.false) ∙ c.loop-i.invariant.2, sym (written_out _ _ _ _ _ c.loop-i-test.false) ∙ c.loop-i.invariant.3)
