use Rattle.std.proofs.Common.{◌≡◌, ◌≤◌, drop}
use Rattle.numbers.specs.Numbers.{numeral}
use Rattle.numbers.specs.NumberLaws.{numeral_from}
use Rattle.numbers.proofs.read_number.Given as goal

abbrev pub invariant-loop-byte : goal.invariant-loop-byte
invariant-loop-byte l = (l.value ≤ 0xFFFFFFFF) × (numeral l.word ≡ numeral_from l.value (drop l.byte-index l.digits))
