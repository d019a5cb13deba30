use Rattle.text.specs.TextLaws.{◌then◌}
use Rattle.languages.specs.HelpText.{help_text}
use Rattle.languages.proofs.help.put_help.Goals as goal

pub returns : goal.returns
unfolding help_text
returns c = c.put_own-at.ensures then c.put_text.ensures
