use Rattle.asking.specs.AskingLaws.{exchange_outcome_lem}
use mathlib.Core.Path.{ap}
use Rattle.board.specs.State.{State}
use Rattle.answers.specs.Bench.{with_state}
use Rattle.waits_lines.proofs.converse.Goals as goal

pub returns : goal.returns
returns c = let taken = c.exchange-returned.ensures in (exchange_outcome_lem taken, ap (λ (s : State). with_state c.args.bench s) taken.state)
