use Rattle.lent.specs.LentLaws.{lent_part}
use Rattle.asking.proofs.ask.Goals as goal

pub returns : goal.returns
returns c = let at = c.args in
    let part = lent_part at.bench.lent c.lent_of-n.result at.memory.now c.lent_of-n.ensures in
    let taken = c.converse.ensures in
    record {
      bench = rw (← part.0) taken.bench;
      memory = rw (← part.0, ← part.1, taken.memory);
      text = rw (← part.0) taken.text;
    }
