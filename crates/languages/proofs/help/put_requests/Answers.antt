use Rattle.text.specs.TextLaws.{◌then◌}
use Rattle.languages.proofs.help.put_requests.Goals as goal

pub returns : goal.returns
returns c = c.put_text-to.ensures then c.put_text.ensures
