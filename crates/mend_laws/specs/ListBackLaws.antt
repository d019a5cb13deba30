-- What mend prints is what unmend reads: its numbers, its lines and its head are read back, and with the mended trace behind it the list is taken.
use Rattle.std.specs.Prelude.{◌≡◌, refl, ℕ, zero, suc, ◌+◌, ◌-◌, ◌*◌, ◌/◌, ◌%◌, ◌^◌, ◌≤◌, ◌<◌, Bool, true, false, cond, List, [], ◌∷◌, ◌++◌, ltb, length, drop}
use Rattle.std.specs.Prelude.{Some}
use Rattle.std.proofs.Common.{ap, sym, ◌∙◌, append_assoc, add-zero, div-le_self, div-one, mod-lt, add-one, arith, length-append, take_at, drop_at}
use Rattle.std.proofs.Common.{drop-drop, lt-ltb, le-ltb, eq-eqb, ne_eqb}
use Rattle.std.proofs.Math.Nat.{div-add-mod, div-eq_of_lt, pow-zero}
use Rattle.std.proofs.Math.Seq.{drop-append-add}
use Rattle.same.specs.SameListLaws.{equal_same}
use Rattle.text.specs.Text.{ascii}
use Rattle.text.specs.NumberText.{digit_text, digits_text, width_from, width, decimal_text}
use Rattle.text.proofs.NumberTextLaws.{digits_length, left_next, width_holds}
use Rattle.list_lines.specs.ListLines.{digits, number, named, line_word, listed, lines_in, list_behind, list_in}
use Rattle.list_lines.specs.ListInLaws.{some_lines}
use Rattle.mending.specs.Mending.{mended_pst, mended, changes}
use Rattle.mending.specs.MendingStoreLaws.{retold_length, changes_at_most}
use Rattle.mend_text.specs.MendText.{change_line, change_lines, list_text}
use Rattle.unmend_text.specs.UnmendText.{recorded_at, unmended, input_after}
use Rattle.unmend_text.specs.UnmendTextLaws.{its}
use Rattle.mend_laws.specs.ChangeListLaws.{Rising, listed_in_order}
use Rattle.mend_laws.specs.PutBackLaws.{its_list_taken, put_back_recorded}
use Rattle.mend_laws.specs.MendRoomLaws.{rising_below, list_enough}

-- a digit that is written is read, behind those that have made the number before it
digit_back : (most end before used d : ℕ) (bytes : List ℕ) → end < 48 → d < 10 → before * 10 + d ≤ most
    → digits most end before used (digit_text d ∷ bytes) ≡ digits most end (before * 10 + d) (used + 1) bytes
unfolding digits digit_text
digit_back most end before used d bytes low small fits =
    let e : 48 + d - 48 ≡ d = omega arith in
    rw (
      lt-ltb d 10 small,
      ne_eqb (48 + d) end (λ same. omega arith),
      le-ltb (48 + d) 48 (omega arith),
      le-ltb 57 (48 + d) (omega arith),
      e,
      le-ltb most (before * 10 + d) fits,
    )

-- and so the last digits of a number behind its others, up to the byte that ends them
digits_back : (most end used n k : ℕ) (rest : List ℕ) → n ≤ most → end < 48
    → digits most end (n / 10 ^ k) used (digits_text 10 k n ++ end ∷ rest) ≡ Some (n, used + k + 1)
unfolding digits digits_text
digits_back most end used n zero rest fits low = rw (eq-eqb end end refl, pow-zero, div-one, add-zero used)
digits_back most end used n (suc k) rest fits low =
    let d = n / 10 ^ k % 10 in
    let above : n / 10 ^ k / 10 ≡ n / 10 ^ suc k = rw (add-one k) at (left_next 10 n k) in
    let whole : n / 10 ^ suc k * 10 + d ≡ n / 10 ^ k = omega (arith, div-add-mod (n / 10 ^ k) 10, above) in
    let small : d < 10 = mod-lt (n / 10 ^ k) (omega arith) in
    let count : used + 1 + k + 1 ≡ used + suc k + 1 = omega arith in
    digit_back most end (n / 10 ^ suc k) used d (digits_text 10 k n ++ end ∷ rest) low small (omega (arith, whole, div-le_self n (10 ^ k)))
    ∙ rw (whole, ← count) (digits_back most end (used + 1) n k rest fits low)

-- a number has as many digits as are asked for at least
width_least : (base n more k : ℕ) → k ≤ width_from base n more k
unfolding width_from
width_least base n zero k = omega arith
width_least base n (suc more) k = by_test (ltb n (base ^ k)) (width_least base n more (suc k))
  where
    by_test : (t : Bool) → suc k ≤ width_from base n more (suc k) → k ≤ cond t k (width_from base n more (suc k))
    by_test true next = omega arith
    by_test false next = omega arith

-- a number with a digit begins with that, and not with the byte that ends it
begins : (most end n k : ℕ) (rest : List ℕ) → 0 < k → end < 48
    → number most end (digits_text 10 k n ++ rest) ≡ digits most end 0 0 (digits_text 10 k n ++ rest)
unfolding number digits_text digit_text
begins most end n zero rest some low = absurd (omega arith)
begins most end n (suc k) rest some low =
    let d = n / 10 ^ k % 10 in
    let small : d < 10 = mod-lt (n / 10 ^ k) (omega arith) in
    rw (lt-ltb d 10 small, ne_eqb (48 + d) end (λ same. omega arith))

-- a number as it is written is read back, with the byte that ends it
number_back : (most end n : ℕ) (rest : List ℕ) → n ≤ most → n < 10 ^ 20 → end < 48
    → number most end (decimal_text n ++ end ∷ rest) ≡ Some (n, length (decimal_text n) + 1)
number_back most end n rest fits wide low =
    let none : n / 10 ^ width 10 n ≡ 0 = div-eq_of_lt (width_holds 10 n 19 1 wide) in
    let whole = digits_back most end 0 n (width 10 n) rest fits low in
    let count : 0 + width 10 n + 1 ≡ length (decimal_text n) + 1 = omega (arith, digits_length 10 (width 10 n) n) in
    begins most end n (width 10 n) (end ∷ rest) (omega (arith, width_least 10 n 19 1)) low ∙ rw (none, count) at whole

-- a name with its number
named_back : (name : List ℕ) (most end n : ℕ) (rest : List ℕ) → n ≤ most → n < 10 ^ 20 → end < 48
    → named name most end (name ++ (decimal_text n ++ end ∷ rest)) ≡ Some (n, length name + (length (decimal_text n) + 1))
unfolding named
named_back name most end n rest fits wide low =
    let behind = decimal_text n ++ end ∷ rest in
    rw (take_at name behind (length name) refl, drop_at name behind (length name) refl, equal_same name, number_back most end n rest fits wide low)

-- what stands behind a text and the byte that ends it
past : (text : List ℕ) (end : ℕ) (rest : List ℕ) → drop (length text + 1) (text ++ end ∷ rest) ≡ rest
past text end rest = drop-append-add text (end ∷ rest) 1

-- .. and behind a name in front of it
past_name : (name text : List ℕ) (end : ℕ) (rest : List ℕ) → drop (length name + (length text + 1)) (name ++ (text ++ end ∷ rest)) ≡ rest
past_name name text end rest = drop-append-add name (text ++ end ∷ rest) (length text + 1) ∙ past text end rest

-- a line of the list: its cycle and its PST
line_back : (word : ℕ) (rest : List ℕ) → word / 16 < 65536 → line_word (change_line word ++ rest) ≡ Some (word, length (change_line word))
unfolding line_word
line_back word rest below =
    let C = decimal_text (word / 16) in
    let P = decimal_text (word % 16) in
    let apart : change_line word ++ rest ≡ C ++ 32 ∷ (P ++ 10 ∷ rest) = simp append_assoc in
    let cycle = number_back 65535 32 (word / 16) (P ++ 10 ∷ rest) (omega arith) (omega arith) (omega arith) in
    let pst = number_back 15 10 (word % 16) rest (omega arith) (omega arith) (omega arith) in
    let is : word / 16 * 16 + word % 16 ≡ word = omega arith in
    let count : length C + 1 + (length P + 1) ≡ length (change_line word) = simp length-append (omega arith) in
    rw (apart, cycle, past C 32 (P ++ 10 ∷ rest), pst, is, count)

-- line by line, all of them
lines_back : (from to : ℕ) (words rest : List ℕ) → to ≤ 65536 → Rising from to words
    → lines_in (length words) (change_lines words ++ rest) ≡ listed words (length (change_lines words)) true
unfolding lines_in
lines_back from to [] rest h r = refl
lines_back from to (word ∷ words) rest h r =
    let below = rising_below (word / 16 + 1) to words r.1 in
    rw (
      append_assoc (change_line word) (change_lines words) rest,
      line_back word (change_lines words ++ rest) (omega arith),
      drop_at (change_line word) (change_lines words ++ rest) (length (change_line word)) refl,
      lines_back (word / 16 + 1) to words rest h r.1,
      length-append (change_line word) (change_lines words),
    )

-- THE LAW: a list as it is printed is read back, with its counts and its words, and ends where the trace begins
pub list_back : (room cycles from to : ℕ) (words trace : List ℕ) → cycles ≤ 65536 → length words ≤ 65536 → length words ≤ room
    → to ≤ 65536 → Rising from to words
    → list_in room (list_text cycles words ++ trace)
    ≡ record { clear = true; cycles = cycles; changed = length words; from = length (list_text cycles words); words = words }
list_back room cycles from to words trace n k fits h r =
    ap (list_in room) apart ∙ some_lines room bytes head changed fits ∙ ap (list_behind cycles (length words) (used + more)) lines ∙ rw count
  where
    N : List ℕ
    N = decimal_text cycles

    K : List ℕ
    K = decimal_text (length words)

    behind : List ℕ
    behind = change_lines words ++ trace

    second : List ℕ
    second = ascii "changed=" ++ (K ++ 10 ∷ behind)

    bytes : List ℕ
    bytes = ascii "mended cycles=" ++ (N ++ 32 ∷ second)

    apart : list_text cycles words ++ trace ≡ bytes
    apart = simp append_assoc

    used : ℕ
    used = length (ascii "mended cycles=") + (length N + 1)

    more : ℕ
    more = length (ascii "changed=") + (length K + 1)

    head : named (ascii "mended cycles=") 65536 32 bytes ≡ Some (cycles, used)
    head = named_back (ascii "mended cycles=") 65536 32 cycles second n (omega arith) (omega arith)

    behind_head : drop used bytes ≡ second
    behind_head = past_name (ascii "mended cycles=") N 32 second

    changed : named (ascii "changed=") 65536 10 (drop used bytes) ≡ Some (length words, more)
    changed = ap (named (ascii "changed=") 65536 10) behind_head ∙ named_back (ascii "changed=") 65536 10 (length words) behind k (omega arith) (omega arith)

    behind_both : drop (used + more) bytes ≡ behind
    behind_both = sym (drop-drop more used bytes) ∙ ap (drop more) behind_head ∙ past_name (ascii "changed=") K 10 behind

    lines : lines_in (length words) (drop (used + more) bytes) ≡ listed words (length (change_lines words)) true
    lines = ap (lines_in (length words)) behind_both ∙ lines_back from to words trace h r

    count : used + more + length (change_lines words) ≡ length (list_text cycles words)
    count = simp length-append (omega arith)

-- a text in front of a mended trace that is read as its list
module _ (list trace : List ℕ) (short : length trace ≤ 65536) (room : length list ≤ 600000)
    (read : list_in 65536 (list ++ mended trace)
    ≡ record { clear = true; cycles = length trace; changed = length (changes trace); from = length list; words = changes trace }) where
  -- the list is taken
  taken : unmended 65536 (list ++ mended trace) ≡ recorded_at (length list) (length (changes trace))
  taken =
      let mended-length = retold_length (mended_pst trace) trace (length trace) in
      let within : length (list ++ mended trace) ≡ length list + length trace = omega (arith, length-append list (mended trace)) in
      let behind = drop_at list (mended trace) (length list) refl in
      its 65536 (list ++ mended trace) (omega arith) (rw read) (rw read (omega arith)) (rw (read, behind) (its_list_taken trace short)) ∙ rw read

  -- and with its PSTs put back the trace stands behind it as it was recorded
  recorded : input_after 65536 (list ++ mended trace) (recorded_at (length list) (length (changes trace))) ≡ list ++ trace
  recorded =
      rw (read, take_at list (mended trace) (length list) refl, drop_at list (mended trace) (length list) refl, put_back_recorded trace)

-- what `mend` prints of a trace
abbrev pub printed : List ℕ → List ℕ
printed trace = list_text (length trace) (changes trace)

-- THE LAW: what `mend` prints, with the mended trace behind it, is taken, and the trace behind the list is then as it was recorded
pub unmend_takes_mend : (trace : List ℕ) → length trace ≤ 65536
    → (unmended 65536 (printed trace ++ mended trace) ≡ recorded_at (length (printed trace)) (length (changes trace)))
    × (input_after 65536 (printed trace ++ mended trace) (recorded_at (length (printed trace)) (length (changes trace))) ≡ printed trace ++ trace)
unmend_takes_mend trace short =
    let few : length (changes trace) ≤ 65536 = omega (arith, changes_at_most trace (length trace)) in
    let order = listed_in_order trace (length trace) (omega arith) in
    let read = list_back 65536 (length trace) 0 (length trace) (changes trace) (mended trace) short few few short order in
    let room = list_enough trace short in
    (taken (printed trace) trace short room read, recorded (printed trace) trace short room read)
