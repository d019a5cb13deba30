-- What a request leaves of the bench, and what is said to it (the desk's language, `talk`).
use Rattle.std.specs.Prelude.{ℕ, List, Err, Ok, Result}
use Rattle.readings.specs.declared.Outcome.{Outcome}
use Rattle.grounds.specs.declared.Ground.{Ground}
use Rattle.requests.specs.declared.Request.{Request}
use Rattle.exchange_verdict.specs.ExchangeVerdict.{exchange_verdict}
use Rattle.exchange.specs.Exchange.{answered_as, ended_there, exchange_leaves}
use Rattle.refusal_text.specs.RefusalText.{refused_text}
use Rattle.request_text.specs.RequestText.{exchange_text}
use Rattle.answers.specs.declared.Bench.{Bench}
use Rattle.answers.specs.Bench.{Left, port_state, with_state}

-- "A REQUEST alone on its line is sent and its replies read": what the exchange leaves, or all as it was where it is refused
abbrev pub exchanged : Request → Bench → List ℕ → Left
exchanged request bench m = with_state bench (exchange_leaves request (port_state bench m))

-- "the answer is `value V packets N`, .., or `refused N at 0`"
abbrev pub exchanged_text : Result (Outcome × ℕ) Ground → List ℕ
exchanged_text (Ok (outcome, packets)) = exchange_text outcome packets
exchanged_text (Err why) = refused_text why

-- what the exchange answers over what the port is lent
abbrev pub exchange_outcome : Request → Bench → List ℕ → Result (Outcome × ℕ) Ground
exchange_outcome request bench m = answered_as (exchange_verdict request (port_state bench m)) (ended_there request (port_state bench m))

abbrev pub exchange_said : Request → Bench → List ℕ → List ℕ
exchange_said request bench m = exchanged_text (exchange_outcome request bench m)
