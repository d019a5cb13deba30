-- Laws of the file that `waits` is given: its bytes one by one, its lines one after another, and how long a result is.
use Rattle.std.specs.Prelude.{ℕ, suc, ◌+◌, ◌-◌, ◌≤◌, ◌<◌, ◌≡◌, refl, Bool, true, false, cond, List, [], ◌∷◌, ◌++◌, eqb, length, get_or, take, drop, Err, Ok}
use Rattle.std.specs.Prelude.{Result}
use Rattle.readings.specs.declared.Outcome.{Outcome}
use Rattle.grounds.specs.declared.Ground.{Ground}
use Rattle.std.proofs.Common.{true≢false, arith, suc-add, length-append, length-take, length-drop, drop_of_length-le, drop-drop, ap}
use Rattle.std.specs.Prelude.{Some, None, ltb, position}
use Rattle.std.specs.Option.{unwrap_or}
use Rattle.std.proofs.lemmas.Bool.Decides.{nat_tests}
use Rattle.std.proofs.lemmas.List.Recursion.{is_position_or_len}
use Rattle.words.specs.LineWords.{joined}
use Rattle.words.specs.LineWordLaws.{from_here}
use Rattle.console.specs.InputLines.{is_line_end}
use Rattle.grounds.specs.Grounds.{number}
use Rattle.text.specs.Text.{Puts, ascii}
use Rattle.text.specs.TextLaws.{◌then◌, nothing}
use Rattle.text.specs.NumberText.{decimal_text, hex_text}
use Rattle.text.proofs.NumberTextLaws.{digits_length, decimal_length}
use Rattle.readings.specs.declared.Outcome.TheVariants.{Value, Complete, BusError, Illegal}
use Rattle.talk_lines.specs.TalkLines.{talk_line}
use Rattle.answers.specs.declared.Bench.{Bench}
use Rattle.answers.specs.Bench.{Left, left}
use Rattle.waits_lines.specs.declared.Gone.{Gone}
use Rattle.waits_lines.specs.WaitsLines.{file_lines, line_length, ends_one, numbered, result_text, row_as, packets_as, taken_in, left_by}
use Rattle.waits_lines.specs.WaitsLines.{all_taken, lines_leave, rows, packets, capped, bytes_before, LinesTaken}

-- ---- how long a result is
-- "value " and eight digits, "bus-error", or "refused N at C"
pub result_length : (answer : Result (Outcome × ℕ) Ground) → length (result_text answer) ≤ 64
result_length (Ok (Value value, n)) = omega (arith, length-append (ascii "value ") (hex_text 8 value), digits_length 16 8 value)
result_length (Ok (Complete, n)) = omega arith
result_length (Ok (BusError, n)) = omega arith
result_length (Ok (Illegal, n)) = omega arith
result_length (Err why) =
    omega (
      arith,
      length-append (decimal_text (number why) ++ ascii " at ") (decimal_text 0),
      length-append (decimal_text (number why)) (ascii " at "),
      decimal_length (number why),
      decimal_length 0,
    )

-- ---- the bytes of the file one by one
-- the number of the line behind one byte more
pub numbered_on : (n : ℕ) (afterCr : Bool) (before : List ℕ) (i : ℕ) → i < length before
    → numbered n afterCr (drop i before)
    ≡ numbered (cond (ends_one afterCr (get_or before i 0)) (suc n) n) (eqb (get_or before i 0) 13) (drop (i + 1) before)
numbered_on n afterCr before i h = rw (from_here before i h)

pub numbered_out : (n : ℕ) (afterCr : Bool) (before : List ℕ) (i : ℕ) → length before ≤ i → numbered n afterCr (drop i before) ≡ n
numbered_out n afterCr before i h = rw (drop_of_length-le before h)

-- a line ends at its line end, or where the file does
pub line_stops : (input : List ℕ) (i : ℕ) → i < length input → is_line_end (get_or input i 0) ≡ true → line_length (drop i input) ≡ 0
line_stops input i h e = rw (from_here input i h, e)

pub line_goes_on : (input : List ℕ) (i : ℕ) → i < length input → is_line_end (get_or input i 0) ≡ false
    → line_length (drop i input) ≡ suc (line_length (drop (i + 1) input))
line_goes_on input i h e = rw (from_here input i h, e)

pub line_out : (input : List ℕ) (i : ℕ) → length input ≤ i → line_length (drop i input) ≡ 0
line_out input i h = rw (drop_of_length-le input h)

pub line_within : (bytes : List ℕ) → line_length bytes ≤ length bytes
line_within [] = omega arith
line_within (byte ∷ bytes) = by_test (line_within bytes) (is_line_end byte)
  where
    by_test : line_length bytes ≤ length bytes → (t : Bool) → cond t 0 (suc (line_length bytes)) ≤ suc (length bytes)
    by_test h true = omega arith
    by_test h false = omega arith

-- and the bytes before it are as many as its place says, or all
counted : (byte : ℕ) (bytes : List ℕ) → line_length (byte ∷ bytes) ≡ cond (is_line_end byte) 0 (1 + line_length bytes)
counted byte bytes =
    let e : suc (line_length bytes) ≡ 1 + line_length bytes = omega arith in ap (λ (n : ℕ). cond (is_line_end byte) 0 n) e

by_place : (bytes : List ℕ) (n : ℕ) → n ≤ length bytes → unwrap_or (cond (ltb n (length bytes)) (Some n) None) (length bytes) ≡ n
by_place bytes n h = grind (arith, nat_tests)

pub line_length_found : (bytes : List ℕ) → unwrap_or (position is_line_end bytes) (length bytes) ≡ line_length bytes
line_length_found bytes =
    rw (← is_position_or_len line_length is_line_end refl counted bytes) (by_place bytes (line_length bytes) (line_within bytes))

pub line_end_within : (input : List ℕ) (from end : ℕ) → from ≤ length input → end ≡ from + line_length (drop from input) → end ≤ length input
line_end_within input from end h e = omega (arith, line_within (drop from input), length-drop from input)

-- the first line, and the lines after it
lines_cut : (byte : ℕ) (bytes : List ℕ)
    → file_lines (byte ∷ bytes) ≡ take (line_length (byte ∷ bytes)) (byte ∷ bytes) ∷ file_lines (drop (line_length (byte ∷ bytes) + 1) (byte ∷ bytes))
lines_cut byte [] = by_test (is_line_end byte)
  where
    by_test : (t : Bool) → cond t ([] ∷ file_lines []) (joined byte (file_lines []))
        ≡ take (cond t 0 (suc 0)) (byte ∷ []) ∷ file_lines (drop (cond t 0 (suc 0) + 1) (byte ∷ []))
    by_test true = refl
    by_test false = refl
lines_cut byte (next ∷ bytes) = by_test (lines_cut next bytes) (is_line_end byte)
  where
    by_test : file_lines (next ∷ bytes)
        ≡ take (line_length (next ∷ bytes)) (next ∷ bytes) ∷ file_lines (drop (line_length (next ∷ bytes) + 1) (next ∷ bytes)) → (t : Bool)
        → cond t ([] ∷ file_lines (next ∷ bytes)) (joined byte (file_lines (next ∷ bytes)))
        ≡ take (cond t 0 (suc (line_length (next ∷ bytes)))) (byte ∷ next ∷ bytes)
        ∷ file_lines (drop (cond t 0 (suc (line_length (next ∷ bytes))) + 1) (byte ∷ next ∷ bytes))
    by_test h true = refl
    by_test h false = rw (h, suc-add (line_length (next ∷ bytes)) 1)

lines_on : (input : List ℕ) (from end : ℕ) → from < length input → end ≡ from + line_length (drop from input)
    → file_lines (drop from input) ≡ take (end - from) (drop from input) ∷ file_lines (drop (end + 1) input)
lines_on input from end h e =
    let k : end - from ≡ line_length (drop from input) = omega arith in
    let f : end + 1 ≡ from + (line_length (drop from input) + 1) = omega arith in
    rw (k, f, ← drop-drop (line_length (drop from input) + 1) from input)
    (rw (from_here input from h) (lines_cut (get_or input from 0) (drop (from + 1) input)))

-- ---- the lines one after another
-- what lines come to whose rows stand from a place on, behind packets and bytes of the file
pub record TakenFrom (lines : List (List ℕ)) (l : Left) (at sent from : ℕ) (text : List ℕ) (r : Gone) (text' memory' : List ℕ) : Type 0 where
  pub stands : left r.bench memory' ≡ lines_leave lines l
  pub puts : Puts text at (rows lines l) text' r.end
  pub count : r.packets ≡ capped (sent + packets lines l)
  pub whole : r.taken ≡ all_taken lines l
  pub first : r.stray ≡ from + bytes_before lines l

-- whatever the file comes to from one of its lines on, the whole of it comes to
abbrev pub Rests : List ℕ → Left → List ℕ → ℕ → Left → ℕ → ℕ → List ℕ → Type 0
Rests input l₀ text₀ from l at sent text =
    (r : Gone) (text' m' : List ℕ) → TakenFrom (file_lines (drop from input)) l at sent from text r text' m'
    → LinesTaken (file_lines input) l₀ text₀ r text' m'

pub rests_whole : (input : List ℕ) (l : Left) (text : List ℕ) → Rests input l text 0 l 0 0 text
rests_whole input l text r text' m' p =
    record {
      stands = p.stands;
      rows = p.puts;
      packets = omega (arith, p.count);
      taken = p.whole;
      stray = omega (arith, p.first);
    }

-- a line that is taken, and the lines after it
taken_on : {line : List ℕ} {lines : List (List ℕ)} {l l' : Left} {at at' sent n from end : ℕ} {text text' text'' m' : List ℕ} {r : Gone}
    → taken_in line l ≡ true → l' ≡ left_by line l → Puts text at (row_as line (talk_line line) l) text' at' → n ≡ packets_as (talk_line line) l
    → end ≡ from + length line → TakenFrom lines l' at' (capped (sent + n)) (end + 1) text' r text'' m'
    → TakenFrom (line ∷ lines) l at sent from text r text'' m'
unfolding lines_leave rows packets all_taken bytes_before
taken_on {line} {lines} {l} {sent = sent} {r = r} t stands puts count e more =
    record {
      stands = rw (t, ← stands) more.stands;
      puts = rw (t, ← stands) (puts then more.puts);
      count = rw (t, ← stands, ← count) (omega (arith, more.count));
      whole = rw (t, ← stands) more.whole;
      first = rw (t, ← stands) (omega (arith, more.first));
    }

-- a line that is not taken
taken_stray : {line : List ℕ} {lines : List (List ℕ)} {bench : Bench} {m : List ℕ} (at sent from : ℕ) (text : List ℕ)
    → sent ≤ 0xFFFFFFFFFFFFFFFF → taken_in line (left bench m) ≡ false
    → TakenFrom (line ∷ lines) (left bench m) at sent from text
    (record { bench = bench; end = at; packets = sent; taken = false; stray = from }) text m
unfolding lines_leave rows packets all_taken bytes_before
taken_stray at sent from text some t =
    record {
      stands = rw t;
      puts = rw t (nothing text at);
      count = rw t (omega arith);
      whole = rw t;
      first = rw t (omega arith);
    }

taken_none : (bench : Bench) (m : List ℕ) (at sent from : ℕ) (text : List ℕ) → sent ≤ 0xFFFFFFFFFFFFFFFF
    → TakenFrom [] (left bench m) at sent from text (record { bench = bench; end = at; packets = sent; taken = true; stray = from }) text m
unfolding lines_leave rows packets all_taken bytes_before
taken_none bench m at sent from text some =
    record { stands = refl; puts = nothing text at; count = omega arith; whole = refl; first = omega arith }

module _ (input : List ℕ) (l₀ : Left) (text₀ : List ℕ) where
  pub rests_on : (from end : ℕ) (l : Left) {l' : Left} {at at' sent n : ℕ} {text text' : List ℕ} → from < length input
      → end ≡ from + line_length (drop from input) → Rests input l₀ text₀ from l at sent text → taken_in (take (end - from) (drop from input)) l ≡ true
      → l' ≡ left_by (take (end - from) (drop from input)) l
      → Puts text at (row_as (take (end - from) (drop from input)) (talk_line (take (end - from) (drop from input))) l) text' at'
      → n ≡ packets_as (talk_line (take (end - from) (drop from input))) l → Rests input l₀ text₀ (end + 1) l' at' (capped (sent + n)) text'
  rests_on from end l h e all t stands puts count r text'' m'' more =
      let within : end ≤ length input = line_end_within input from end (omega arith) e in
      let long : end ≡ from + length (take (end - from) (drop from input)) = omega (
        arith,
        length-take (end - from) (drop from input),
        length-drop from input,
      ) in
      all r text'' m'' (rw (lines_on input from end h e) (taken_on t stands puts count long more))

  pub rests_stray : (from end : ℕ) (bench : Bench) {at sent : ℕ} {text m : List ℕ} → from < length input
      → end ≡ from + line_length (drop from input) → Rests input l₀ text₀ from (left bench m) at sent text → sent ≤ 0xFFFFFFFFFFFFFFFF
      → taken_in (take (end - from) (drop from input)) (left bench m) ≡ false
      → LinesTaken (file_lines input) l₀ text₀ (record { bench = bench; end = at; packets = sent; taken = false; stray = from }) text m
  rests_stray from end bench h e all some t = all _ _ _ (rw (lines_on input from end h e) (taken_stray _ _ from _ some t))

  pub rests_out : (from : ℕ) (bench : Bench) {at sent : ℕ} {text m : List ℕ} → length input ≤ from → Rests input l₀ text₀ from (left bench m) at sent text
      → sent ≤ 0xFFFFFFFFFFFFFFFF
      → LinesTaken (file_lines input) l₀ text₀ (record { bench = bench; end = at; packets = sent; taken = true; stray = from }) text m
  rests_out from bench h all some = all _ _ _ (rw (drop_of_length-le input h) (taken_none bench _ _ _ from _ some))

-- ---- where the first line begins that is not taken
-- all lines, each with its line end
abbrev bytes_of : List (List ℕ) → ℕ
bytes_of [] = 0
bytes_of (line ∷ lines) = length line + 1 + bytes_of lines

joined_bytes : (byte : ℕ) (lines : List (List ℕ)) (n : ℕ) → bytes_of lines ≤ n + 1 → bytes_of (joined byte lines) ≤ suc n + 1
joined_bytes byte [] n h = omega arith
joined_bytes byte (line ∷ lines) n h = omega arith

-- the last line may lack its line end
lines_within : (input : List ℕ) → bytes_of (file_lines input) ≤ length input + 1
lines_within [] = omega arith
lines_within (byte ∷ bytes) = by_test (lines_within bytes) (is_line_end byte)
  where
    by_test : bytes_of (file_lines bytes) ≤ length bytes + 1 → (t : Bool)
        → bytes_of (cond t ([] ∷ file_lines bytes) (joined byte (file_lines bytes))) ≤ suc (length bytes) + 1
    by_test h true = omega arith
    by_test h false = joined_bytes byte (file_lines bytes) (length bytes) h

before_stray : (lines : List (List ℕ)) (l : Left) → all_taken lines l ≡ false → bytes_before lines l < bytes_of lines
unfolding all_taken bytes_before
before_stray [] l e = absurd (true≢false e)
before_stray (line ∷ lines) l e = by_test (before_stray lines (left_by line l)) (taken_in line l) e
  where
    by_test : (all_taken lines (left_by line l) ≡ false → bytes_before lines (left_by line l) < bytes_of lines) → (t : Bool)
        → cond t (all_taken lines (left_by line l)) false ≡ false
        → cond t (length line + 1 + bytes_before lines (left_by line l)) 0 < length line + 1 + bytes_of lines
    by_test ih true f = omega (arith, ih f)
    by_test ih false f = omega arith

-- it begins within the file
pub stray_within : (input : List ℕ) (l : Left) → all_taken (file_lines input) l ≡ false → bytes_before (file_lines input) l ≤ length input
stray_within input l e = omega (arith, before_stray (file_lines input) l e, lines_within input)
