-- Laws of lines that are a name and one number, as it is typed: what they are heard as in `stand_in` and in `talk`.
use Rattle.std.specs.Prelude.{ℕ, ◌+◌, ◌^◌, ◌≤◌, ◌<◌, ◌≡◌, refl, Bool, true, false, cond, ◌&&◌, not, List, [], ◌∷◌, ◌++◌, leb, eqb, length, take, drop, Some}
use Rattle.std.proofs.Common.{ap, sym, ◌∙◌, arith, length-append, le-leb, eqb-true}
use Rattle.std.proofs.Math.Bool.{and-false}
use Rattle.laws.specs.TestLaws.{both_hold}
use Rattle.words.specs.declared.LineKind.TheVariants.{Clear}
use Rattle.words.specs.LineWords.{ascii, is_gap, is_silent, kind_of, words, lower, same}
use Rattle.words.specs.LineWordLaws.{same_equal}
use Rattle.words.specs.CaseLaws.{gap_lower, same_lower}
use Rattle.words.specs.GapLaws.{words_apart, has_no_gap, word_alone}
use Rattle.numbers.specs.Numbers.{digit, is_digit, all_digits, prefix_length, digits_of, value, is_numeral, numeral}
use Rattle.numbers.specs.NumberLaws.{numeral_value}
use Rattle.common_lines.specs.declared.CommonLine.TheVariants.{Other}
use Rattle.common_lines.specs.CommonLines.{common_line}
use Rattle.board_lines.specs.declared.BoardLine.TheVariants.{Packet}
use Rattle.board_lines.specs.BoardLines.{board_of_one, board_words, board_line}
use Rattle.reply_lines.specs.declared.ReplyLine.TheVariants.{Reply}
use Rattle.reply_lines.specs.ReplyLines.{reply_of_one, reply_words, reply_line}
use Rattle.memory.specs.declared.Size.TheVariants.{Long}
use Rattle.requests.specs.declared.Request.{Request}
use Rattle.requests.specs.declared.Request.TheVariants.{Rdreg, Read}
use Rattle.request_lines.specs.RequestLines.{size_behind, register_read, request_of_one}
use Rattle.talk_lines.specs.declared.TalkLine.TheVariants.{Ask}
use Rattle.talk_lines.specs.TalkLines.{either_line, talk_line}
use Rattle.text.specs.NumberText.{digits_text, hex_text, number_text}
use Rattle.text.proofs.NumberTextLaws.{number_length}
use Rattle.text_laws.specs.ReadBackLaws.{hex_numeral, number_numeral}

-- a line of two words, however they are parted, the second of them a number, however it is typed
pub record OneNumber (line name : List ℕ) (n : ℕ) : Type 0 where
  pub word : List ℕ
  pub kind : kind_of line ≡ Clear
  pub apart : words line ≡ name ∷ word ∷ []
  pub number : numeral word ≡ Some n

module _ {line name : List ℕ} {n : ℕ} (typed : OneNumber line name n) where
  -- it is neither `help` nor `quit`
  pub not_common : common_line line ≡ Other
  unfolding common_line
  not_common = rw (typed.kind, typed.apart)

  -- in `stand_in` it is what the name asks of one number
  pub board_heard : same name (ascii "bytes") ≡ false → same name (ascii "event") ≡ false → board_line line ≡ board_of_one name n
  unfolding board_line board_words
  board_heard e f = rw (typed.kind, typed.apart, e, f, typed.number)

  -- and in `talk`, where it asks for a request
  pub request_heard : (request : Request) → request_of_one name n ≡ Some request → talk_line line ≡ Ask request
  unfolding either_line
  request_heard request e = rw (typed.kind, typed.apart, typed.number, e)

-- `packet X`; "Case does not matter"
pub packet_heard : {line name : List ℕ} {n : ℕ} → OneNumber line name n → same name (ascii "packet") ≡ true → board_line line ≡ Packet n
unfolding board_of_one lower
packet_heard {line} {name} {n} typed e =
    board_heard typed (named (ascii "bytes")) (named (ascii "event")) ∙ rw (named (ascii "make"), named (ascii "memory"), e)
  where
    named : (other : List ℕ) → same name other ≡ same (ascii "packet") other
    named other = sym (same_lower name other) ∙ ap (λ (small : List ℕ). same small other) (same_equal name (ascii "packet") e)

-- a digit is no space or tab, and so a number has none
digit_no_gap : (byte : ℕ) → is_digit byte ≡ true → is_gap byte ≡ false
unfolding is_gap digit
digit_no_gap byte e = by_test (eqb byte 32) (eqb byte 9) refl refl
  where
    by_test : (t u : Bool) → eqb byte 32 ≡ t → eqb byte 9 ≡ u → is_gap byte ≡ false
    by_test true u p q = cc (e, ap is_digit (eqb-true byte 32 p))
    by_test false true p q = cc (e, ap is_digit (eqb-true byte 9 q))
    by_test false false p q = rw (p, q)

digits_no_gap : (word : List ℕ) → all_digits word ≡ true → has_no_gap word ≡ true
digits_no_gap [] e = refl
digits_no_gap (byte ∷ word) e =
    let both = both_hold (is_digit byte) (all_digits word) e in
    rw (digit_no_gap byte both.0) (digits_no_gap word both.1)

prefix_no_gap : (word : List ℕ) → same (take 2 word) (ascii "0x") ≡ true → all_digits (drop 2 word) ≡ true → has_no_gap word ≡ true
unfolding is_gap
prefix_no_gap [] p e = cc
prefix_no_gap (a ∷ []) p e = cc (p, and-false (eqb (lower a) 48))
prefix_no_gap (a ∷ b ∷ word) p e =
    let both = both_hold (eqb (lower a) 48) (eqb (lower b) 120 && true) p in
    let zero : is_gap a ≡ false = sym (gap_lower a) ∙ ap is_gap (eqb-true (lower a) 48 both.0) in
    let x : is_gap b ≡ false = sym (gap_lower b) ∙ ap is_gap (eqb-true (lower b) 120 (both_hold (eqb (lower b) 120) true both.1).0) in
    rw (zero, x) (digits_no_gap word e)

numeral_no_gap : (word : List ℕ) → is_numeral word ≡ true → has_no_gap word ≡ true
unfolding prefix_length
numeral_no_gap word e = by_test (same (take 2 word) (ascii "0x")) refl (both_hold (all_digits (digits_of word)) (leb (value word) 0xFFFFFFFF) rest).0
  where
    rest : all_digits (digits_of word) && leb (value word) 0xFFFFFFFF ≡ true
    rest = (both_hold (leb 1 (length (digits_of word))) (all_digits (digits_of word) && leb (value word) 0xFFFFFFFF) e).1

    by_test : (t : Bool) → same (take 2 word) (ascii "0x") ≡ t → all_digits (drop (cond t 2 0) word) ≡ true → has_no_gap word ≡ true
    by_test true p d = prefix_no_gap word p d
    by_test false p d = digits_no_gap word d

numeral_alone : (word : List ℕ) (n : ℕ) → numeral word ≡ Some n → words word ≡ word ∷ []
unfolding prefix_length
numeral_alone [] n e = let z : ◌≡◌ {A = ℕ} 0 1 = cc (numeral_value [] n e).0 in absurd (omega arith)
numeral_alone (byte ∷ word) n e = word_alone byte word (numeral_no_gap (byte ∷ word) (numeral_value (byte ∷ word) n e).0)

asks_on : (byte : ℕ) (name more : List ℕ) → has_no_gap (byte ∷ name) ≡ true → is_silent (byte ∷ name) ≡ false → is_silent (byte ∷ name ++ more) ≡ false
asks_on byte name more g s = by_test (is_gap byte) g s
  where
    by_test : (t : Bool) → not t && has_no_gap name ≡ true → cond t (is_silent name) (eqb byte 35) ≡ false
        → cond t (is_silent (name ++ more)) (eqb byte 35) ≡ false
    by_test true g s = cc
    by_test false g s = s

-- a name and a number behind a space
pub one_number : (name word : List ℕ) (n : ℕ) → has_no_gap name ≡ true → is_silent name ≡ false → length name + length word ≤ 4095 → numeral word ≡ Some n
    → OneNumber (name ++ 32 ∷ word) name n
unfolding kind_of is_gap
one_number [] word n g s h e = let z : ◌≡◌ {A = ℕ} 0 1 = cc in absurd (omega arith)
one_number (byte ∷ name) word n g s h e =
    let short : length (byte ∷ name ++ 32 ∷ word) ≤ 4096 = rw (length-append name (32 ∷ word)) (omega (arith, h)) in
    record {
      word = word;
      kind = rw (asks_on byte name (32 ∷ word) g s, le-leb (length (byte ∷ name ++ 32 ∷ word)) 4096 short);
      apart = words_apart (byte ∷ name) 32 word refl ∙ rw (word_alone byte name g, numeral_alone word n e);
      number = e;
    }

-- .. as numbers are written
pub number_typed : (name : List ℕ) (n : ℕ) → has_no_gap name ≡ true → is_silent name ≡ false → length name ≤ 4075 → n ≤ 0xFFFFFFFF
    → OneNumber (name ++ 32 ∷ number_text n) name n
number_typed name n g s h fits = one_number name (number_text n) n g s (omega (arith, number_length n)) (number_numeral n fits)

-- THE LAW: `packet X`, its number as numbers are written, is heard as that packet; with five digits too
pub packet_typed : (n : ℕ) → n ≤ 0xFFFFFFFF → board_line (ascii "packet " ++ number_text n) ≡ Packet n
unfolding is_gap lower
packet_typed n fits = packet_heard (number_typed (ascii "packet") n refl refl (omega arith) fits) refl

pub packet_of_five_digits : (n : ℕ) → n < 16 ^ 5 → board_line (ascii "packet " ++ hex_text 5 n) ≡ Packet n
unfolding is_gap lower digits_text
packet_of_five_digits n fits =
    packet_heard (one_number (ascii "packet") (hex_text 5 n) n refl refl (omega arith) (hex_numeral 5 n (omega arith) fits (omega arith))) refl

-- and `rdreg R`, `read.l A` in `talk` as these requests
pub register_typed : (n : ℕ) → n ≤ 0xFFFFFFFF → talk_line (ascii "rdreg " ++ number_text n) ≡ Ask (Rdreg n)
unfolding is_gap lower size_behind register_read
register_typed n fits = request_heard (number_typed (ascii "rdreg") n refl refl (omega arith) fits) (Rdreg n) refl

pub read_typed : (n : ℕ) → n ≤ 0xFFFFFFFF → talk_line (ascii "read.l " ++ number_text n) ≡ Ask (Read Long n)
unfolding is_gap lower size_behind
read_typed n fits = request_heard (number_typed (ascii "read.l") n refl refl (omega arith) fits) (Read Long n) refl

-- what stand_in answers to a packet is read by gateway as that reply, and so is every line that is `reply` and a number
pub reply_heard : {line name : List ℕ} {n : ℕ} → OneNumber line name n → same name (ascii "reply") ≡ true → reply_line line ≡ Reply n
unfolding reply_line reply_words reply_of_one
reply_heard typed e = rw (typed.kind, typed.apart, typed.number, e)

pub reply_of_five_digits : (n : ℕ) → n < 16 ^ 5 → reply_line (ascii "reply " ++ hex_text 5 n) ≡ Reply n
unfolding is_gap lower digits_text
reply_of_five_digits n fits =
    reply_heard (one_number (ascii "reply") (hex_text 5 n) n refl refl (omega arith) (hex_numeral 5 n (omega arith) fits (omega arith))) refl
