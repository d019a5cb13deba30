use Rattle.console.specs.GatheringLaws.{gathers_none, gathers_line, gathers_all}
use Rattle.trace_list.specs.ListerGatheringLaws.{start_rest, stays_good, item_first}
use Rattle.trace_list.proofs.NoItem.{none_left, item_given}
use mathlib.Core.Path.{refl, ap, sym, ◌∙◌}
use native.Mathlib.Omega.{arith}
use borrow.Author.Rules.{rules}
use Rattle.steps.specs.declared.Step.{Step}
use Rattle.steps.specs.WalkStepLaws.{handed_within}
use Rattle.walk.specs.WalkRestLaws.{rest_falls}
use Rattle.trace_list.proofs.write_walk.Goals as goal

pub loop-item-init : goal.loop-item-init
loop-item-init c = (refl, c.requires.start_meets.1, rw (start_rest _ _ c.requires.start_meets.0) (gathers_none _ _))

pub word_of-requires : goal.word_of-requires
word_of-requires c = let a = c.args in
    let w = c.loop-item in
    let e = ap (λ (t : Step). t.handed) (sym c.next_item-step.ensures) ∙ item_given _ _ (sym c.item_of.ensures ∙ c.in-Some.is) in
    omega (arith, handed_within a.trace.now w.cursor c.in-Some.item e, c.requires.trace_fits)

pub loop-item-smaller : goal.loop-item-smaller
loop-item-smaller c = let a = c.args in
    let w = c.loop-item in
    let step = c.next_item-step.ensures in
    let e = ap (λ (t : Step). t.handed) (sym step) ∙ item_given _ _ (sym c.item_of.ensures ∙ c.in-Some.is) in
    rw step (rest_falls a.trace.now w.cursor c.in-Some.item e)

pub loop-item-preserved : goal.loop-item-preserved
loop-item-preserved c = let a = c.args in
    let w = c.loop-item in
    let step = c.next_item-step.ensures in
    let e = ap (λ (t : Step). t.handed) (sym step) ∙ item_given _ _ (sym c.item_of.ensures ∙ c.in-Some.is) in
    let first = item_first a.trace.now w.cursor w.invariant.1 c.in-Some.item e in (
      search rules,
      rw step (stays_good a.trace.now w.cursor w.invariant.1),
      rw step (gathers_line (rw first at w.invariant.2) (rw c.word_of.ensures at c.add_item-at.ensures)),
    )

pub returns : goal.returns
returns c = let a = c.args in
    let w = c.loop-item in
    let none = none_left a.trace.now w.cursor w.invariant.1 (rw c.next_item-step.ensures at (sym c.item_of.ensures ∙ c.in_default.is)) in
    gathers_all (rw none at w.invariant.2)
