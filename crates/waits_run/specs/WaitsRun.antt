-- The runs of `waits` (docs/waits.md): what a file's lines come to at one W, from the first to the last.
use Rattle.std.specs.Prelude.{ℕ, ◌≡◌, Bool, false, List, ◌++◌, length}
use Rattle.board.specs.Board.{fresh_board, fresh_place}
use Rattle.board.specs.Setters.{with_w}
use Rattle.text.specs.Text.{Puts, ascii}
use Rattle.state_line.specs.StateText.{state_text}
use Rattle.lent.specs.Lent.{zeros}
use Rattle.answers.specs.declared.Bench.{Bench}
use Rattle.answers.specs.Bench.{Left, left, bench_of}
use Rattle.waits_lines.specs.WaitsLines.{file_lines, all_taken, lines_leave, rows, packets, capped, bytes_before}
use Rattle.waits_run.specs.declared.Ran.{Ran}

-- "on a fresh board of that W, with no bytes lent at first and all bytes zero", of so many bytes
unfoldable pub start_at : ℕ → ℕ → Left
start_at size w = left (bench_of (fresh_board w) fresh_place 0) (zeros size)

-- "What `state` answers behind the last line"; "For this the state is told with `w=0`"
abbrev pub state_line : Bench → List ℕ
state_line bench = state_text (with_w bench.board 0) bench.place ++ ascii "\n"

-- "A line for each request, in their order", and the state's
unfoldable pub told_at : ℕ → ℕ → List ℕ → List ℕ
told_at size w input = rows (file_lines input) (start_at size w) ++ state_line (lines_leave (file_lines input) (start_at size w)).bench

unfoldable pub memory_at : ℕ → ℕ → List ℕ → List ℕ
memory_at size w input = (lines_leave (file_lines input) (start_at size w)).memory

unfoldable pub packets_at : ℕ → ℕ → List ℕ → ℕ
packets_at size w input = capped (packets (file_lines input) (start_at size w))

-- whether every line is taken, and the bytes before the first that is not
unfoldable pub taken_at : ℕ → ℕ → List ℕ → Bool
taken_at size w input = all_taken (file_lines input) (start_at size w)

unfoldable pub stray_at : ℕ → ℕ → List ℕ → ℕ
stray_at size w input = bytes_before (file_lines input) (start_at size w)

-- the promise of a run
pub record RunSo (w : ℕ) (input m text : List ℕ) (r : Ran) (m' text' : List ℕ) : Type 0 where
  pub told : Puts text 0 (told_at (length m) w input) text' r.end
  pub memory : m' ≡ memory_at (length m) w input
  pub packets : r.packets ≡ packets_at (length m) w input
  pub taken : r.taken ≡ taken_at (length m) w input
  pub stray : r.stray ≡ stray_at (length m) w input
