use Rattle.std.proofs.Common.{sym, ◌∙◌}
use Rattle.words.specs.WordSteps.{words_left}
use Rattle.pod_lines.specs.TakingLaws.{takes_all}
use Rattle.pod_lines.proofs.taking.take_numbers.Goals as goal

pub returns : goal.returns
returns c = takes_all (words_left c.args.words)
    c.args.buffer.now c.in_ok-count.count
    (sym c.count_numbers.ensures ∙ c.in_ok-count.was) c.if-buffer-count.false _ c.put_numbers.ensures
