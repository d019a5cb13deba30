use Rattle.pod_lines.specs.PodLineLaws.{as_meant, says_nothing, says_unclear}
use Rattle.pod_lines.specs.PodLines.{pod_meaning}
use Rattle.pod_lines.proofs.read_line.Goals as goal

pub returns-in-Silent : goal.returns-in-Silent
unfolding pod_meaning
returns-in-Silent c = as_meant (rw (← c.kind_of.ensures, c.in-Silent.is)) (says_nothing _)

pub returns-in-Clear : goal.returns-in-Clear
unfolding pod_meaning
returns-in-Clear c = as_meant (rw (← c.kind_of.ensures, c.in-Clear.is)) c.read_words.ensures

pub returns-in-TooLong : goal.returns-in-TooLong
unfolding pod_meaning
returns-in-TooLong c = as_meant (rw (← c.kind_of.ensures, c.in-TooLong.is)) (says_unclear _)
