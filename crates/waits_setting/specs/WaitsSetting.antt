-- The page of `waits` (docs/waits.md): what came out at one W held against what is due, and the line that says so.
use Rattle.std.specs.Prelude.{ℕ, suc, ◌%◌, ◌^◌, ◌≡◌, Bool, cond, ◌&&◌, List, [], ◌∷◌, ◌++◌, eqb, get_or, take, drop}
use Rattle.same.specs.SameList.{same}
use Rattle.text.specs.Text.{Puts, ascii}
use Rattle.text.specs.NumberText.{hex_text, decimal_text}
use Rattle.waits_lines.specs.WaitsLines.{line_length}
use Rattle.waits_setting.specs.declared.Judged.{Judged}

-- what is compared: the lines that came out, and memory
pub record Came : Type 0 where
  pub lines : List ℕ
  pub memory : List ℕ

abbrev pub came_of : List ℕ → List ℕ → Came
came_of lines memory = record { lines = lines; memory = memory }

abbrev pub is_same : Came → Came → Bool
is_same due came = same due.lines came.lines && same due.memory came.memory

-- ---- what differs
-- where two lists first do
abbrev pub first_other : List ℕ → List ℕ → ℕ
first_other [] others = 0
first_other (a ∷ list) [] = 0
first_other (a ∷ list) (b ∷ others) = cond (eqb a b) (suc (first_other list others)) 0

-- where the line begins that goes on behind such bytes; so many were before them, and the last line began there
abbrev pub line_start : ℕ → ℕ → List ℕ → ℕ
line_start at start [] = start
line_start at start (byte ∷ bytes) = line_start (suc at) (cond (eqb byte 10) (suc at) start) bytes

-- the line that begins there, without its line end
abbrev pub line_at : ℕ → List ℕ → List ℕ
line_at start text = take (line_length (drop start text)) (drop start text)

-- "the first of the lines above that comes out otherwise, as it comes out at this W"
abbrev pub other_line : List ℕ → List ℕ → List ℕ
other_line due came = line_at (line_start 0 0 (take (first_other due came) came)) came

-- "where it is memory alone that differs, ` differs: memory A X`, the lowest address with another byte, eight digits, and the byte there at this W"
abbrev pub memory_text : List ℕ → List ℕ → List ℕ
memory_text due came =
    ascii " differs: memory " ++ (hex_text 8 (first_other due came % 2 ^ 32) ++ (ascii " " ++ hex_text 2 (get_or came (first_other due came) 0)))

-- ---- the line of one W
abbrev pub judged_text : Came → Came → List ℕ
judged_text due came =
    cond (same due.lines came.lines)
    (cond (same due.memory came.memory) (ascii " same") (memory_text due.memory came.memory))
    (ascii " differs: " ++ other_line due.lines came.lines)

-- "A line for each W from 0 to F, one hexadecimal digit ..: the packets of all requests together, decimal ..; and ` same`"
unfoldable pub setting_text : ℕ → ℕ → Came → Came → List ℕ
setting_text w number due came = ascii "w " ++ (hex_text 1 w ++ (ascii " packets " ++ (decimal_text number ++ (judged_text due came ++ ascii "\n"))))

-- the promise of such lines: what is put, and whether all was the same
pub record JudgedSo (text : List ℕ) (is_same : Bool) (page : List ℕ) (at : ℕ) (r : Judged) (page' : List ℕ) : Type 0 where
  pub puts : Puts page at text page' r.end
  pub verdict : r.same ≡ is_same
