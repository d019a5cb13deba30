-- How lines are gathered in a text and written out in parts, each when half of the text is used.
use Rattle.std.specs.Prelude.{ℕ, ◌/◌, cond, List, [], ◌∷◌, ◌++◌, ltb, length}

-- where the next line goes: at the front, where half of the text was used and is written out
abbrev pub place_in : ℕ → ℕ → ℕ
place_in room at = cond (ltb at (room / 2)) at 0

-- the parts that are written out, of what is gathered already and the lines that follow
abbrev pub parts_from : ℕ → List ℕ → List (List ℕ) → List (List ℕ)
parts_from room part [] = part ∷ []
parts_from room part (line ∷ lines) = cond (ltb (length part) (room / 2)) (parts_from room (part ++ line) lines) (part ∷ parts_from room line lines)

abbrev pub parts : ℕ → List (List ℕ) → List (List ℕ)
parts room lines = parts_from room [] lines
