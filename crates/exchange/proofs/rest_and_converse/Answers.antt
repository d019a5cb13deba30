use mathlib.Core.Path.{◌∙◌}
use native.Mathlib.Omega.{arith}
use Rattle.exchange.specs.ExchangeLaws.{rested_is_at_rest, conversed_as_promised}
use Rattle.exchange.proofs.rest_and_converse.Goals as goal

pub converse-talked-requires : goal.converse-talked-requires
converse-talked-requires c = let rest = rested_is_at_rest c.requires.0 c.bring_to_rest-rested.ensures.0 in
    (rest.sound, c.requires.1, rest.rest)

pub overflow_cast-talked : goal.overflow_cast-talked
overflow_cast-talked c = let rest = c.bring_to_rest-rested.ensures in
    let met = conversed_as_promised c.requires.0 c.requires.1 rest.0 rest.1 c.converse-talked.ensures in
    omega (arith, met.few)

pub overflow_add-rested : goal.overflow_add-rested
overflow_add-rested c = let rest = c.bring_to_rest-rested.ensures in
    let met = conversed_as_promised c.requires.0 c.requires.1 rest.0 rest.1 c.converse-talked.ensures in
    omega (arith, met.few, met.few_nops)

pub returns : goal.returns
returns c = let rest = c.bring_to_rest-rested.ensures in
    let met = conversed_as_promised c.requires.0 c.requires.1 rest.0 rest.1 c.converse-talked.ensures in
    (c.answer_of.ensures ∙ met.answer, met.state)
