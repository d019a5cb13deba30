use Rattle.index.proofs.list_from.Goals as goal

pub returns : goal.returns
returns c = c.list_from.ensures
