use Rattle.text.specs.TextLaws.{◌then◌}
use Rattle.text.specs.TextPartLaws.{puts_in_rest}
use Rattle.waits_run.proofs.put_state_line.Goals as goal

-- src/lib.rt:39:1
pub returns : goal.returns
returns c = (puts_in_rest c.requires c.put_state-count.ensures) then c.put_byte.ensures
