use Rattle.asking.specs.AskingLaws.{exchange_outcome_lem}
use mathlib.Core.Path.{ap}
use Rattle.board.specs.State.{State}
use Rattle.answers.specs.Bench.{with_state}
use Rattle.asking.proofs.converse.Goals as goal

pub returns : goal.returns
returns c = let taken = c.exchange-returned.ensures in
    let bench = c.args.bench in
    record {
      bench = ap (λ (s : State). (with_state bench s).bench) taken.state;
      memory = ap (λ (s : State). s.memory) taken.state;
      text = rw (← exchange_outcome_lem taken) c.put_exchanged.ensures;
    }
