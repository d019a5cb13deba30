use Rattle.answers.specs.SaidLaws.{packet_outcome_lem}
use mathlib.Core.Path.{ap}
use Rattle.board.specs.State.{State}
use Rattle.answers.specs.Bench.{with_state}
use Rattle.answers.proofs.take_word.Goals as goal

pub returns : goal.returns
returns c = let taken = c.take_packet-answer.ensures in
    let bench = c.args.bench in
    record {
      bench = ap (λ (s : State). (with_state bench s).bench) taken.state;
      memory = ap (λ (s : State). s.memory) taken.state;
      text = rw (← packet_outcome_lem taken) c.put_reply.ensures;
    }
