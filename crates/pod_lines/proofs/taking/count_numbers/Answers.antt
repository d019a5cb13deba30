use Rattle.std.proofs.Common.{◌≤◌, arith, length}
use Rattle.pod_lines.proofs.taking.count_numbers.Goals as goal

pub overflow_add-count : goal.overflow_add-count
overflow_add-count c =
    let step = c.in-Some.ensures.steps in
    let inside : c.next.new.self.at ≤ length c.args.words.line.now = rw c.loop-word.invariant.line at step.inside in
    omega (arith, step.goes_on, c.loop-word.invariant.few, inside, c.ranges.words)
