use Rattle.text.specs.TextLaws.{◌then◌}
use Rattle.languages.proofs.help.put_own.Goals as goal

pub returns-in-Talk : goal.returns-in-Talk
returns-in-Talk c = rw c.in-Talk.is (c.put_text-at.ensures then c.put_requests.ensures)

pub returns-in-Both : goal.returns-in-Both
returns-in-Both c = rw c.in-Both.is (c.put_text-at-in-Both.ensures then c.put_requests-in-Both.ensures)
