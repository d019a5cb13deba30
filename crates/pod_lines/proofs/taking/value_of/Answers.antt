use Rattle.numbers.specs.Numbers.{numeral}
use Rattle.pod_lines.proofs.taking.value_of.Goals as goal

pub returns : goal.returns
unfolding numeral
returns c = rw (c.unwrap_or.ensures, c.read_number.ensures, c.requires)
