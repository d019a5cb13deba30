-- Laws of what is said to a request: the exchange answers what its promise determines.
use Rattle.std.specs.Prelude.{ℕ, ◌≡◌, List}
use Rattle.board.specs.State.{State}
use Rattle.requests.specs.declared.Request.{Request}
use Rattle.exchange.specs.declared.Returned.{Returned}
use Rattle.exchange_verdict.specs.ExchangeVerdict.{exchange_verdict}
use Rattle.exchange.specs.Exchange.{answered_as, ended_there, ExchangeMeets}
use Rattle.exchange.specs.ExchangeUnique.{told_exchange_unique}

pub exchange_outcome_lem : {request : Request} {s : State} {r : Returned} {after : List ℕ} → ExchangeMeets request s r after
    → r.answer ≡ answered_as (exchange_verdict request s) (ended_there request s)
exchange_outcome_lem {request} {s} {r} meets = told_exchange_unique r.answer (answered_as (exchange_verdict request s) (ended_there request s)) meets.answer
