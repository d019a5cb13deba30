-- The text of what requests come to (the desk's language, `pod` and `talk`): the words to send, what was read, what an exchange came to.
use Rattle.std.specs.Prelude.{ℕ, List, [], ◌∷◌, ◌++◌, Err, None, Ok, Option, Result, Some}
use Rattle.grounds.specs.declared.Ground.{Ground}
use Rattle.readings.specs.declared.Outcome.{Outcome}
use Rattle.readings.specs.declared.Outcome.TheVariants.{Value, Complete, BusError, Illegal}
use Rattle.text.specs.Text.{ascii}
use Rattle.text.specs.NumberText.{hex_text, decimal_text}
use Rattle.refusal_text.specs.RefusalText.{refused_text}

-- "V eight digits"
abbrev pub outcome_text : Outcome → List ℕ
outcome_text (Value value) = ascii "value " ++ hex_text 8 value
outcome_text Complete = ascii "complete"
outcome_text BusError = ascii "bus-error"
outcome_text Illegal = ascii "illegal"

-- "five digits each"
abbrev pub each_word : List ℕ → List ℕ
each_word [] = []
each_word (word ∷ words) = ascii " " ++ hex_text 5 word ++ each_word words

-- "`words X X ..`"
abbrev pub words_text : List ℕ → List ℕ
words_text words = ascii "words" ++ each_word words

abbrev pub used_text : ℕ → List ℕ
used_text used = ascii " used " ++ decimal_text used

-- what is read so far
abbrev pub so_far_text : Option Outcome → List ℕ
so_far_text (Some outcome) = outcome_text outcome
so_far_text None = ascii "not-yet"

-- "`value V used N`, `complete used N`, `bus-error used N`, `illegal used N`, `not-yet used N` (.., N decimal); or `refused N at 0`"
abbrev pub reading_text : Result (Option Outcome × ℕ) Ground → List ℕ
reading_text (Ok (outcome, used)) = so_far_text outcome ++ used_text used
reading_text (Err why) = refused_text why

-- "`value V packets N`, `complete packets N`, ..; N decimal"
abbrev pub exchange_text : Outcome → ℕ → List ℕ
exchange_text outcome packets = outcome_text outcome ++ ascii " packets " ++ decimal_text packets
