-- The text of a refusal (the desk's language): "`refused N at C` with the number of its ground".
use Rattle.std.specs.Prelude.{ℕ, List, ◌++◌}
use Rattle.grounds.specs.declared.Ground.{Ground}
use Rattle.grounds.specs.Grounds.{number}
use Rattle.text.specs.Text.{ascii}
use Rattle.text.specs.NumberText.{decimal_text}

abbrev pub unclear_text : List ℕ
unclear_text = ascii "unclear"

abbrev pub refused_by : ℕ → ℕ → List ℕ
refused_by n cycle = ascii "refused " ++ decimal_text n ++ ascii " at " ++ decimal_text cycle

abbrev pub refused_at : Ground → ℕ → List ℕ
refused_at why cycle = refused_by (number why) cycle

-- only a trace is refused at a cycle
abbrev pub refused_text : Ground → List ℕ
refused_text why = refused_at why 0
