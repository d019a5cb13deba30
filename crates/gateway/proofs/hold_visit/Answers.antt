use native.Mathlib.Omega.{arith}
use Rattle.gateway.specs.GatewayLaws.{held_visit, put_shows}
use Rattle.gateway.proofs.hold_visit.Goals as goal

pub take_lines-over-requires : goal.take_lines-over-requires
take_lines-over-requires c = record { line_is_long = omega arith; shows = put_shows _ _ c.send.ensures }

pub returns : goal.returns
returns c = held_visit c.send.ensures
    c.take_lines-over.ensures c.tell_end.ensures
