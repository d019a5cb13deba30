use Prim.Native.Nat.{◌-◌, ◌/◌, ◌^◌}
use mathlib.Core.Path.{◌≡◌}
use Rattle.text.specs.NumberText.{width_from}
use Rattle.text.proofs.width_of.Given as goal

abbrev pub invariant-loop-digits : goal.invariant-loop-digits
invariant-loop-digits l = (l.rest ≡ l.value / l.base ^ l.digits) × (width_from l.base l.value (20 - l.digits) l.digits ≡ width_from l.base l.value 19 1)
