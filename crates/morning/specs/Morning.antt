-- The morning's check (docs/morning.md): P1 to P9 of document 01, "What the desk checks by eye", each with what is due.
use Rattle.std.specs.Prelude.{ℕ, ◌≡◌, List, [], ◌∷◌, ◌++◌, map, take}
use Prim.Native.String.{String}
use Rattle.text.specs.Text.{Puts, ascii}
use Rattle.board.specs.Board.{fresh_board, fresh_place}
use Rattle.answers.specs.declared.Bench.{Bench}
use Rattle.answers.specs.Bench.{Left, left, bench_of}
use Rattle.morning_page.specs.MorningPage.{Check, check_of, checks_text, bad_from}
use Rattle.scripts.specs.declared.Checked.{Checked}
use Rattle.scripts.specs.Script.{lines, leaves, room, came_whole}
use Rattle.listed.specs.Listed.{listed_text}

-- a check of the board's: `-` marks a line that prepares, `+` one whose answer is shown
pub record Planned : Type 0 where
  pub title : List ℕ
  pub script : List ℕ
  pub due : List ℕ

abbrev pub script_of : List String → List ℕ
script_of [] = []
script_of (line ∷ more) = ascii line ++ ascii "\n" ++ script_of more

abbrev pub planned : String → List String → String → Planned
planned title script due = record { title = ascii title; script = script_of script; due = ascii due }

abbrev pub p1 : Planned
p1 =
    planned "READ of the longword at 4, with W 1"
    ("-make 1" ∷ "-memory 10" ∷ "-bytes 0 000102030405060708090A0B0C0D0E0F"
    ∷ "+packet 1980" ∷ "+packet 0" ∷ "+packet 4" ∷ "+packet 0" ∷ "+packet 0" ∷ "+packet 0" ∷ [])
    "reply 0FFFF, reply 10000, reply 10000, reply 10000, reply 00405, reply 00607"

abbrev pub p2 : Planned
p2 = planned "then DUMP of a byte" ("+packet 1D00" ∷ "+packet 0" ∷ "+packet 0" ∷ []) "reply 0FFFF, reply 10000, reply 00008"

abbrev pub p3 : Planned
p3 =
    planned "CSR of a fresh board, read twice" ("-make 0" ∷ "+rdmreg 0" ∷ "+rdmreg 0" ∷ [])
    "value 01100000 packets 3, value 00100000 packets 3"

abbrev pub p4 : Planned
p4 =
    planned "PC breakpoint at 1000 under mask F: at 1010, at 100E, then CSR"
    ("-make 0" ∷ "-wdmreg 8 1000" ∷ "-wdmreg 9 F" ∷ "-wdmreg 7 40002002" ∷ "-go" ∷ "+event 1010" ∷ "+event 100E" ∷ "+rdmreg 0" ∷ [])
    "event level 0 halted 0 interrupt 0 pc none, event level 1 halted 1 interrupt 0 pc none, value 24100000 packets 3"

abbrev pub p5 : Planned
p5 =
    planned "two levels, the same event twice, CSR after each"
    ("-make 0" ∷ "-wdmreg 8 1000" ∷ "-wdmreg D 2000" ∷ "-wdmreg 6 5" ∷ "-wdmreg 7 20042002" ∷ "-go"
    ∷ "+event 1000 2000 5 0" ∷ "+rdmreg 0" ∷ "+event 1000 2000 5 0" ∷ "+rdmreg 0" ∷ [])
    "event level 1 halted 0 interrupt 0 pc none, value 50100000 packets 3, event level 2 halted 0 interrupt 0 pc none, value 60100000 packets 3"

abbrev pub p6 : Planned
p6 =
    planned "byte READ at 0 without memory" ("-make 0" ∷ "-memory 0" ∷ "+packet 1900" ∷ "+packet 0" ∷ "+packet 0" ∷ "+packet 0" ∷ [])
    "reply 0FFFF, reply 10000, reply 10000, reply 10001"

abbrev pub p7 : Planned
p7 =
    planned "FILL after READ" ("-make 0" ∷ "-memory 10" ∷ "+packet 1900" ∷ "+packet 0" ∷ "+packet 0" ∷ "+packet 1C00" ∷ "+packet 0" ∷ [])
    "reply 0FFFF, reply 10000, reply 10000, reply 00000, reply 1FFFF"

abbrev pub p8 : Planned
p8 = planned "the word 19C0" ("-make 0" ∷ "+packet 19C0" ∷ "+packet 0" ∷ []) "reply 0FFFF, reply 1FFFF"

abbrev pub later : List Planned
later = p5 ∷ p6 ∷ p7 ∷ p8 ∷ []

abbrev pub boards : List Planned
boards = p1 ∷ p2 ∷ p3 ∷ p4 ∷ later

-- each with all that came out: "the bench goes on from one check to the next"
unfoldable pub whole_of : List Planned → Left → List Check
whole_of [] l = []
whole_of (p ∷ more) l = check_of p.title p.due (came_whole p.script l) ∷ whole_of more (leaves (lines p.script) l)

-- "what came out has room for 4,096 bytes"
abbrev pub cut : Check → Check
cut check = check_of check.title check.due (take room check.came)

-- so they are judged and put on the page
unfoldable pub checks_of : List Planned → Left → List Check
checks_of ps l = map cut (whole_of ps l)

-- P9: the lister's lines, over room for 36 words
abbrev pub p9_trace : List ℕ
p9_trace = 0x10 ∷ 0x50 ∷ 0x90 ∷ 0x04 ∷ 0x03 ∷ 0x02 ∷ 0x11 ∷ 0xF0 ∷ 0xF0 ∷ []

abbrev pub p9_whole : Check
p9_whole =
    check_of (ascii "the trace 10 50 90 04 03 02 11 F0 F0") (ascii "trace cycles=9 items=5, 0 1 0, 1 5 0, 6 9 4660, 6 1 0, 7 15 0")
    (listed_text p9_trace 36)

abbrev pub p9 : Check
p9 = cut p9_whole

-- the bench as it starts: `make 0`, and no memory lent
abbrev pub first : Bench
first = bench_of (fresh_board 0) fresh_place 0

-- the nine, from the bench as it starts and from what memory holds: with all that came out, and as they are judged
abbrev pub nine_whole : List ℕ → List Check
nine_whole m = whole_of boards (left first m) ++ (p9_whole ∷ [])

abbrev pub nine : List ℕ → List Check
nine m = checks_of boards (left first m) ++ (p9 ∷ [])

-- checks put on the page, from so many on
pub record PagedSo (number : ℕ) (checks : List Check) (before : Checked) (page : List ℕ) (r : Checked) (page' : List ℕ) : Type 0 where
  pub lines : Puts page before.end (checks_text number checks) page' r.end
  pub count : r.bad ≡ bad_from before.bad checks

-- none is judged, and the page is empty
abbrev pub unjudged : Bench → Checked
unjudged bench = record { bench = bench; end = 0; bad = 9 }
