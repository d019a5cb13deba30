-- The text of a listed trace: its head and its items, as document 01 gives them for P9.
use Rattle.std.specs.Prelude.{ℕ, ◌/◌, ◌%◌, List, ◌++◌}
use Rattle.text.specs.Text.{ascii}
use Rattle.text.specs.NumberText.{decimal_text}

-- `trace cycles=N items=M`
abbrev pub head_text : ℕ → ℕ → List ℕ
head_text cycles items = ascii "trace cycles=" ++ decimal_text cycles ++ ascii " items=" ++ decimal_text items

-- cycle, code and value
abbrev pub item_text : ℕ → ℕ → ℕ → List ℕ
item_text cycle code value = decimal_text cycle ++ ascii " " ++ decimal_text code ++ ascii " " ++ decimal_text value

-- an item from its two words: the first holds its cycle and, in the low 4 bits, its code
abbrev pub words_of_item : ℕ → ℕ → List ℕ
words_of_item word value = item_text (word / 16) (word % 16) value
