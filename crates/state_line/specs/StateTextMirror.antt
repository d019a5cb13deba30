-- A form with values in its places, as the code puts the fields of `state`: a byte up to 8 stands for the next value, in so many digits.
use Rattle.std.specs.Prelude.{ℕ, ◌+◌, cond, List, [], ◌∷◌, ◌++◌, ltb, length, get_or}
use Rattle.text.specs.NumberText.{hex_text}

-- what a byte of the form puts, and the next value after it
abbrev pub mark_text : ℕ → ℕ → List ℕ → List ℕ
mark_text mark next values = cond (ltb 8 mark) (mark ∷ []) (cond (ltb next (length values)) (hex_text mark (get_or values next 0)) [])

abbrev pub next_after : ℕ → ℕ → List ℕ → ℕ
next_after mark next values = cond (ltb 8 mark) next (cond (ltb next (length values)) (next + 1) next)

abbrev pub form_text : List ℕ → ℕ → List ℕ → List ℕ
form_text [] next values = []
form_text (mark ∷ form) next values = mark_text mark next values ++ form_text form (next_after mark next values) values
