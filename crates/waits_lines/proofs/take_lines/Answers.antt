use Prim.Native.Nat.{◌-◌, ◌≤◌, ◌<◌}
use mathlib.Core.Path.{◌≡◌, refl, sym, ap, ◌∙◌}
use mathlib.Core.Bool.{true, false}
use native.Mathlib.Omega.{arith}
use lib.ListN.{length, take, drop}
use Rattle.answers.specs.Bench.{left}
use Rattle.talk_lines.specs.declared.TalkLine.{TalkLine}
use Rattle.waits_lines.specs.WaitsLines.{is_taken, taken_in}
use Rattle.waits_lines.specs.WaitsLinesLaws.{line_end_within, rests_whole, rests_on, rests_stray, rests_out}
use borrow.Author.Rules.{rules}
use Rattle.waits_lines.proofs.take_lines.Goals as goal

pub loop-from-init : goal.loop-from-init
loop-from-init c = let at = c.args in (refl, refl, omega arith, omega arith, rests_whole at.input.now (left at.bench at.memory.now) at.text.now)

pub slice_bounds-read_talk_line-end : goal.slice_bounds-read_talk_line-end
slice_bounds-read_talk_line-end c =
    let at = c.loop-from in
    let test : at.from < length c.args.input.now = c.loop-from-test.true in
    let within = line_end_within c.args.input.now at.from c.line_end-end.result (omega (arith, test)) c.line_end-end.ensures in
    within

pub returns-then-not-is_taken : goal.returns-then-not-is_taken
returns-then-not-is_taken c = let at = c.loop-from in
    let judged = ap (λ (asked : TalkLine). is_taken asked at.b.lent) (sym c.read_talk_line-asked.ensures) ∙ sym c.is_taken.ensures in
    let asked : taken_in (take (c.line_end-end.result - at.from) (drop at.from c.args.input.now)) (left at.b at.memory) ≡ false = judged ∙ c.if-not-is_taken.true in
    rests_stray _ _ _ at.from c.line_end-end.result at.b c.loop-from-test.true c.line_end-end.ensures at.invariant.4 at.invariant.3 asked

pub slice_bounds-take_line-end : goal.slice_bounds-take_line-end
slice_bounds-take_line-end c =
    let at = c.loop-from in
    let test : at.from < length c.args.input.now = c.loop-from-test.true in
    let within = line_end_within c.args.input.now at.from c.line_end-end.result (omega (arith, test)) c.line_end-end.ensures in
    within

pub overflow_add-from : goal.overflow_add-from
overflow_add-from c =
    let at = c.loop-from in
    let test : at.from < length c.args.input.now = c.loop-from-test.true in
    let within = line_end_within c.args.input.now at.from c.line_end-end.result (omega (arith, test)) c.line_end-end.ensures in
    omega (arith, within)

pub loop-from-smaller : goal.loop-from-smaller
loop-from-smaller c = let test : c.loop-from.from < length c.args.input.now = c.loop-from-test.true in
    let on : c.loop-from.from ≤ c.line_end-end.result = omega (arith, c.line_end-end.ensures) in
    omega arith

pub loop-from-preserved : goal.loop-from-preserved
loop-from-preserved c =
    let at = c.loop-from in
    let test : at.from < length c.args.input.now = c.loop-from-test.true in
    let within = line_end_within c.args.input.now at.from c.line_end-end.result (omega (arith, test)) c.line_end-end.ensures in
    let end = c.line_end-end in
    let judged = ap (λ (asked : TalkLine). is_taken asked at.b.lent) (sym c.read_talk_line-asked.ensures) ∙ sym c.is_taken.ensures in
    let asked : taken_in (take (end.result - at.from) (drop at.from c.args.input.now)) (left at.b at.memory) ≡ true = judged ∙ c.if-not-is_taken.false in
    let on : at.from ≤ end.result = omega (arith, end.ensures) in
    let taken = rw c.read_talk_line-asked.ensures at c.take_line-taken.ensures in (
      search rules,
      search rules,
      omega (arith, within),
      omega (arith, c.saturating_add-packets.ensures),
      rw c.saturating_add-packets.ensures (rests_on _ _ _ at.from end.result (left at.b at.memory) c.loop-from-test.true end.ensures at.invariant.4 asked taken.0 taken.1 taken.2),
    )

pub returns : goal.returns
returns c = let at = c.loop-from in rests_out _ _ _ at.from at.b c.loop-from-test.false at.invariant.4 at.invariant.3
