-- Laws of the program's buffers: nothing of a page is cut off.
use Rattle.std.specs.Prelude.{ℕ, zero, suc, ◌+◌, ◌*◌, ◌≤◌, ◌≡◌, true, false, List, [], ◌∷◌, ◌++◌, leb, length, take, Err, Ok, Result}
use Rattle.readings.specs.declared.Outcome.{Outcome}
use Rattle.std.proofs.Common.{arith, ap, ◌∙◌, length-append, take_all, leb-true, leb-false}
use Rattle.laws.specs.TestLaws.{by_test}
use Rattle.board.specs.Setters.{with_w}
use Rattle.words.specs.LineWords.{joined}
use Rattle.console.specs.InputLines.{is_line_end}
use Rattle.text.specs.Text.{Puts, ascii}
use Rattle.text.specs.TextLaws.{told_whole}
use Rattle.text.specs.NumberText.{hex_text, digits_text, width_from, decimal_text}
use Rattle.text.proofs.NumberTextLaws.{digits_length, decimal_length}
use Rattle.grounds.specs.declared.Ground.{Ground}
use Rattle.grounds.specs.declared.Ground.TheVariants as why
use Rattle.state_line.specs.StateText.{state_text}
use Rattle.refusal_text.specs.RefusalText.{refused_text}
use Rattle.readings.specs.declared.Outcome.TheVariants.{Value, Complete, BusError, Illegal}
use Rattle.talk_lines.specs.declared.TalkLine.{TalkLine}
use Rattle.talk_lines.specs.declared.TalkLine.TheVariants.{Board, Ask}
use Rattle.talk_lines.specs.TalkLines.{talk_line}
use Rattle.answers.specs.Bench.{Left}
use Rattle.said_laws.specs.SaidLengthLaws.{state_length}
use Rattle.waits_lines.specs.WaitsLines.{file_lines, line_number, answer_in, result_text, row_text, row_as, taken_in, left_by, lines_leave, rows}
use Rattle.waits_run.specs.WaitsRun.{start_at, state_line, told_at, packets_at, taken_at, stray_at}
use Rattle.waits_page.specs.WaitsPage.{Room, room_of, unclear_text, page_text}
use Rattle.waits_page.specs.WaitsPageLaws.{page_long, page_stray}
use Rattle.waits_laws.specs.WaitsSameLaws.{same_line, same_lines, waits_says_same}

-- ---- the rows
refused_short : (g : Ground) → length (refused_text g) ≤ 15
unfolding digits_text width_from
refused_short why.WordTooLarge = omega arith
refused_short why.WaitTooLarge = omega arith
refused_short why.MemoryTooLong = omega arith
refused_short why.EventWhileHalted = omega arith
refused_short why.OddPc = omega arith
refused_short why.ReservedSize = omega arith
refused_short why.TraceTooLong = omega arith
refused_short why.ReservedPst = omega arith
refused_short why.MarkerTooSoon = omega arith
refused_short why.TraceCutShort = omega arith
refused_short why.BufferTooShort = omega arith
refused_short why.StateOutOfRange = omega arith
refused_short why.RequestOutOfRange = omega arith
refused_short why.ImpossibleReply = omega arith

result_short : (answer : Result (Outcome × ℕ) Ground) → length (result_text answer) ≤ 15
result_short (Ok (Value value, n)) = omega (arith, length-append (ascii "value ") (hex_text 8 value), digits_length 16 8 value)
result_short (Ok (Complete, n)) = omega arith
result_short (Ok (BusError, n)) = omega arith
result_short (Ok (Illegal, n)) = omega arith
result_short (Err g) = refused_short g

row_length : (line : List ℕ) (answer : Result (Outcome × ℕ) Ground) → length (row_text line answer) ≤ 18 * (length line + 1)
row_length line answer = simp length-append (omega (arith, result_short answer))

-- the bytes of lines, with a line end for each
abbrev pub total : List (List ℕ) → ℕ
total [] = 0
total (line ∷ lines) = length line + 1 + total lines

asked_length : (line : List ℕ) (asked : TalkLine) (l : Left) → length (row_as line asked l) ≤ 18 * (length line + 1)
asked_length line (Board asked) l = omega arith
asked_length line (Ask request) l = row_length line (answer_in request l)

rows_length : (lines : List (List ℕ)) (l : Left) → length (rows lines l) ≤ 18 * total lines
unfolding rows
rows_length [] l = omega arith
rows_length (line ∷ lines) l =
    by_test (taken_in line l)
    (λ t.
    let row = row_as line (talk_line line) l in
    let more = rows lines (left_by line l) in
    rw t (omega (arith, length-append row more, asked_length line (talk_line line) l, rows_length lines (left_by line l))))
    (λ t. rw t (omega arith))

joined_total : (byte : ℕ) (lines : List (List ℕ)) (n : ℕ) → total lines ≤ n + 1 → total (joined byte lines) ≤ n + 2
joined_total byte [] n h = omega arith
joined_total byte (line ∷ lines) n h = omega arith

pub lines_total : (input : List ℕ) → total (file_lines input) ≤ length input + 1
lines_total [] = omega arith
lines_total (byte ∷ bytes) =
    let more = lines_total bytes in
    by_test (is_line_end byte) (λ t. rw t (omega (arith, more)))
    (λ t. rw t (omega (arith, joined_total byte (file_lines bytes) (length bytes) more)))

-- ---- all that comes out at one W
pub told_length : (size w : ℕ) (input : List ℕ) → length input ≤ 16384 → length (told_at size w input) ≤ 295955
unfolding told_at
told_length size w input short =
    let lines = file_lines input in
    let after = (lines_leave lines (start_at size w)).bench in
    let board = with_w after.board 0 in
    omega (
      arith,
      length-append (rows lines (start_at size w)) (state_line after),
      length-append (state_text board after.place) (ascii "\n"),
      rows_length lines (start_at size w),
      lines_total input,
      state_length board after.place,
    )

-- ---- the page
same_line_length : (w number : ℕ) → length (same_line w number) ≤ 38
same_line_length w number =
    let tail = ascii " same" ++ ascii "\n" in
    omega (
      arith,
      length-append (hex_text 1 w) (ascii " packets " ++ (decimal_text number ++ tail)),
      length-append (decimal_text number) tail,
      digits_length 16 1 w,
      decimal_length number,
    )

same_lines_length : (n w size : ℕ) (input : List ℕ) → length (same_lines n w size input) ≤ 38 * n
unfolding same_lines
same_lines_length zero w size input = omega arith
same_lines_length (suc n) w size input =
    let line = same_line w (packets_at size w input) in
    let more = same_lines n (suc w) size input in
    omega (arith, length-append line more, same_line_length w (packets_at size w input), same_lines_length n (suc w) size input)

unclear_length : (before : List ℕ) → length (unclear_text before) ≤ 40
unclear_length before = omega (arith, length-append (decimal_text (line_number before)) (ascii "\n"), decimal_length (line_number before))

-- the buffers of the program
abbrev pub program_room : Room
program_room = room_of 327680 65552 327680 65552

-- THE LAW: what the program prints of a file whose lines are taken, with nothing cut off
pub waits_prints : (input : List ℕ) → length input ≤ 16384 → taken_at 65552 0 input ≡ true
    → page_text program_room input ≡ told_at 65552 0 input ++ (same_lines 16 0 65552 input ++ ascii "SAME\n")
waits_prints input short taken =
    let size : ℕ = 65552 in
    let told = told_at size 0 input in
    let whole = take_all 327680 told (omega (arith, told_length size 0 input short)) in
    waits_says_same 327680 size input short taken
    ∙ ap (λ (lines : List ℕ). lines ++ (same_lines 16 0 size input ++ ascii "SAME\n")) whole

page_length : (input : List ℕ) → length (page_text program_room input) ≤ 331776
page_length input =
    by_test (leb (length input) 16384)
    (λ h. by_test (taken_at 65552 0 input) (compared (leb-true _ _ h)) (stray (leb-true _ _ h)))
    (λ h. rw (page_long program_room input (leb-false _ _ h)) (omega arith))
  where
    compared : length input ≤ 16384 → taken_at 65552 0 input ≡ true → length (page_text program_room input) ≤ 331776
    compared short t =
        let told = told_at 65552 0 input in
        let lines = same_lines 16 0 65552 input in
        rw (waits_prints input short t)
        (omega (
          arith,
          length-append told (lines ++ ascii "SAME\n"),
          length-append lines (ascii "SAME\n"),
          told_length 65552 0 input short,
          same_lines_length 16 0 65552 input,
        ))

    stray : length input ≤ 16384 → taken_at 65552 0 input ≡ false → length (page_text program_room input) ≤ 331776
    stray short t = rw (page_stray program_room input short t) (omega (arith, unclear_length (take (stray_at 65552 0 input) input)))

-- what stands in the program's buffer up to its end is the page
pub page_read : (input : List ℕ) {page page' : List ℕ} {end : ℕ} → length page ≡ 331776 → Puts page 0 (page_text program_room input) page' end
    → take end page' ≡ page_text program_room input
page_read input long puts = told_whole puts (omega (arith, long, page_length input))
