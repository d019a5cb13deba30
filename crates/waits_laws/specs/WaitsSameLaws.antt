-- THE LAW of the page of `waits`: a file whose lines are taken comes out the same at every W, and the page says SAME.
use Prim.Native.Nat.{ℕ, zero, suc, ◌+◌, ◌≤◌}
use Rattle.std.proofs.Common.{arith, ◌∙◌}
use Rattle.std.specs.Prelude.{◌≡◌, true, length}
use Rattle.std.proofs.Math.Path.{refl, ap, ap₂}
use mathlib.Core.List.{List, ◌++◌}
use Rattle.std.proofs.Math.ListN.{take}
use Rattle.same.specs.SameListLaws.{equal_same}
use Rattle.answers.specs.Bench.{Left}
use Rattle.text.specs.Text.{ascii}
use Rattle.text.specs.NumberText.{hex_text, decimal_text}
use Rattle.waits_lines.specs.WaitsLines.{file_lines, all_taken, lines_leave, rows}
use Rattle.waits_run.specs.WaitsRun.{start_at, state_line, told_at, memory_at, packets_at, taken_at}
use Rattle.waits_setting.specs.WaitsSetting.{Came, came_of, is_same, setting_text}
use Rattle.waits_page.specs.WaitsPage.{came_at, settings, all_same, verdict_text, room_of, page_text}
use Rattle.waits_page.specs.WaitsPageLaws.{page_compared}
use Rattle.waits_laws.specs.FileSameLaws.{bench_at, SameFile, same_file, start_at_lem, start_stands}

module _ (size w : ℕ) (small : w ≤ 15) (input : List ℕ) where
  file_same : SameFile w (file_lines input) (start_at size 0)
  file_same = same_file w small (file_lines input) (start_at size 0) (start_stands size)

  left_same : lines_leave (file_lines input) (start_at size w) ≡ bench_at w (lines_leave (file_lines input) (start_at size 0))
  left_same = ap (lines_leave (file_lines input)) (start_at_lem size w) ∙ file_same.leaves

  -- the rows, the state told with W = 0, and memory
  pub told_same : told_at size w input ≡ told_at size 0 input
  unfolding told_at
  told_same =
      ap₂ ◌++◌ (ap (rows (file_lines input)) (start_at_lem size w) ∙ file_same.rows) (ap (λ (l : Left). state_line l.bench) left_same)

  pub memory_same : memory_at size w input ≡ memory_at size 0 input
  unfolding memory_at
  memory_same = ap (λ (l : Left). l.memory) left_same

  pub taken_same : taken_at size w input ≡ taken_at size 0 input
  unfolding taken_at
  taken_same = ap (all_taken (file_lines input)) (start_at_lem size w) ∙ file_same.taken

  came_same : (room : ℕ) → came_at room size w input ≡ came_at room size 0 input
  unfolding came_at
  came_same room = ap₂ (λ (told memory : List ℕ). came_of (take room told) memory) told_same memory_same

is_same_lem : (came : Came) → is_same came came ≡ true
is_same_lem came = rw (equal_same came.lines, equal_same came.memory)

-- the line of one W
abbrev pub same_line : ℕ → ℕ → List ℕ
same_line w number = ascii "w " ++ (hex_text 1 w ++ (ascii " packets " ++ (decimal_text number ++ (ascii " same" ++ ascii "\n"))))

setting_same : (w number : ℕ) (came : Came) → setting_text w number came came ≡ same_line w number
unfolding setting_text
setting_same w number came = rw (equal_same came.lines, equal_same came.memory)

-- so many settings from W on, each of them same
unfoldable pub same_lines : ℕ → ℕ → ℕ → List ℕ → List ℕ
same_lines zero w size input = ascii ""
same_lines (suc n) w size input = same_line w (packets_at size w input) ++ same_lines n (suc w) size input

module _ (room size : ℕ) (input : List ℕ) where
  abbrev here : Came
  here = came_at room size 0 input

  all_same_lem : (n w : ℕ) → n + w ≤ 16 → all_same n w here room size input ≡ true
  unfolding all_same
  all_same_lem zero w few = refl
  all_same_lem (suc n) w few =
      rw (came_same size w (omega arith) input room, is_same_lem here) (all_same_lem n (suc w) (omega arith))

  settings_same : (n w : ℕ) → n + w ≤ 16 → settings n w here room size input ≡ same_lines n w size input
  unfolding settings same_lines
  settings_same zero w few = refl
  settings_same (suc n) w few =
      rw (came_same size w (omega arith) input room, setting_same w (packets_at size w input) here)
      (ap (λ (more : List ℕ). same_line w (packets_at size w input) ++ more) (settings_same n (suc w) (omega arith)))

  -- where the buffers at W = 0 are as long as the others, as the program's are
  pub waits_says_same : length input ≤ 16384 → taken_at size 0 input ≡ true
      → page_text (room_of room size room size) input ≡ take room (told_at size 0 input) ++ (same_lines 16 0 size input ++ ascii "SAME\n")
  unfolding came_at
  waits_says_same short taken =
      page_compared (room_of room size room size) input short taken
      ∙ ap₂ (λ (lines : List ℕ) verdict. take room (told_at size 0 input) ++ (lines ++ verdict_text verdict)) (settings_same 16 0 (omega arith))
      (all_same_lem 16 0 (omega arith))
