-- The page of `waits` (docs/waits.md): every W held against W = 0, and the verdict.
use Rattle.std.specs.Prelude.{ℕ, zero, suc, ◌≡◌, Bool, true, cond, ◌&&◌, List, [], ◌++◌, leb, length, take}
use Rattle.text.specs.Text.{Puts, written, ascii}
use Rattle.text.specs.NumberText.{decimal_text}
use Rattle.waits_lines.specs.WaitsLines.{line_number}
use Rattle.waits_run.specs.WaitsRun.{told_at, memory_at, packets_at, taken_at, stray_at}
use Rattle.waits_setting.specs.WaitsSetting.{Came, came_of, is_same, setting_text}

-- what comes out at one W: the lines, as far as a buffer of so many bytes has room for them, and a memory of so many
unfoldable pub came_at : ℕ → ℕ → ℕ → List ℕ → Came
came_at room size w input = came_of (take room (told_at size w input)) (memory_at size w input)

-- ---- all sixteen
-- so many settings from W on
unfoldable pub settings : ℕ → ℕ → Came → ℕ → ℕ → List ℕ → List ℕ
settings zero w due room size input = []
settings (suc n) w due room size input =
    setting_text w (packets_at size w input) due (came_at room size w input) ++ settings n (suc w) due room size input

unfoldable pub all_same : ℕ → ℕ → Came → ℕ → ℕ → List ℕ → Bool
all_same zero w due room size input = true
all_same (suc n) w due room size input = is_same due (came_at room size w input) && all_same n (suc w) due room size input

-- "Last `SAME`, if all sixteen are, else `DIFFERENT`."
abbrev pub verdict_text : Bool → List ℕ
verdict_text is_same = cond is_same (ascii "SAME\n") (ascii "DIFFERENT\n")

-- ---- the page
-- the bytes of the buffers that are lent: for the lines and for memory at W = 0, and for those at each W
pub record Room : Type 0 where
  pub due_lines : ℕ
  pub due_memory : ℕ
  pub lines : ℕ
  pub memory : ℕ

abbrev pub room_of : ℕ → ℕ → ℕ → ℕ → Room
room_of due_lines due_memory lines memory = record { due_lines = due_lines; due_memory = due_memory; lines = lines; memory = memory }

abbrev pub room_in : Came → Came → Room
room_in due came = room_of (length due.lines) (length due.memory) (length came.lines) (length came.memory)

abbrev pub due_in : Room → List ℕ → Came
due_in room input = came_at room.due_lines room.due_memory 0 input

abbrev pub compared_text : Room → List ℕ → List ℕ
compared_text room input =
    (due_in room input).lines
    ++ (settings 16 0 (due_in room input) room.lines room.memory input
    ++ verdict_text (all_same 16 0 (due_in room input) room.lines room.memory input))

-- "`unclear line N`", by the bytes before that line
abbrev pub unclear_text : List ℕ → List ℕ
unclear_text before = ascii "unclear line " ++ (decimal_text (line_number before) ++ ascii "\n")

-- "at most 16,384 bytes"; else "`too long`"
unfoldable pub page_text : Room → List ℕ → List ℕ
page_text room input =
    cond (leb (length input) 16384)
    (cond (taken_at room.due_memory 0 input) (compared_text room input) (unclear_text (take (stray_at room.due_memory 0 input) input)))
    (ascii "too long\n")

-- ---- what stands in the buffers that are lent to be worked in
-- after so many settings from W on: the lines of each put over those before, and the memory of the last
unfoldable pub worked_in : ℕ → ℕ → List ℕ → Came → Came
worked_in zero w input buffers = buffers
worked_in (suc n) w input buffers =
    worked_in n (suc w) input
    (came_of (written buffers.lines 0 (told_at (length buffers.memory) w input)) (memory_at (length buffers.memory) w input))

-- W = 0 is run where the file is not too long, and each W where all its lines are taken
abbrev pub due_left : List ℕ → Came → Came
due_left input due = cond (leb (length input) 16384) (worked_in 1 0 input due) due

abbrev pub came_left : List ℕ → Came → Came → Came
came_left input due came =
    cond (leb (length input) 16384) (cond (taken_at (length due.memory) 0 input) (worked_in 16 0 input came) came) came

-- the promise: the page, and each byte of the buffers
pub record WaitsMeets (input before : List ℕ) (lent work : Came) (end : ℕ) (after : List ℕ) (due' came' : Came) : Type 0 where
  pub page : Puts before 0 (page_text (room_in lent work) input) after end
  pub due : due' ≡ due_left input lent
  pub came : came' ≡ came_left input lent work
