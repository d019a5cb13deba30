-- A gateway's visit (docs/gateway.md): "Only what is read to its end is handed over".
use Rattle.std.specs.Prelude.{ℕ, ◌+◌, ◌^◌, Bool, true, false, cond, ◌&&◌, List, eqb, ltb, length, get_or, None, Option, Some}
use Rattle.command.specs.Reply.{bus_error, illegal}
use Rattle.readings.specs.declared.Outcome.{Outcome}
use Rattle.readings.specs.declared.Outcome.TheVariants.{Value, Complete, BusError, Illegal}
use Rattle.visit.specs.declared.Stage.{Stage}
use Rattle.visit.specs.declared.Stage.TheVariants.{Marking, Asking, AsRead, NotRead}
use Rattle.visit.specs.declared.Visit.{Visit}

abbrev pub is_as_read : Stage → Bool
is_as_read (Marking i) = false
is_as_read (Asking sent reader) = false
is_as_read AsRead = true
is_as_read (NotRead reason) = false

-- a note read back
abbrev pub outcome_of : ℕ → Outcome
outcome_of note =
    cond (ltb note (2 ^ 32)) (Value note) (cond (eqb note (2 ^ 32 + bus_error)) BusError (cond (eqb note (2 ^ 32 + illegal)) Illegal Complete))

-- result j, counted from 0
unfoldable pub handed_over : Visit → List ℕ → ℕ → Option Outcome
handed_over v notes j = cond (is_as_read v.stage && (ltb j v.ends && ltb j (length notes))) (Some (outcome_of (get_or notes j 0))) None
