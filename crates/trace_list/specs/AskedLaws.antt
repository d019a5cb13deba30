-- Laws of FROM's word: one byte after the other; a number as it is written is read back.
use Rattle.std.specs.Prelude.{◌≡◌, ℕ, zero, suc, ◌+◌, ◌-◌, ◌*◌, ◌/◌, ◌%◌, ◌^◌, ◌≤◌, ◌<◌, Bool, true, false, cond, List, [], ◌∷◌, eqb, length, get_or, drop}
use Rattle.std.proofs.Math.Path.{refl}
use Rattle.std.proofs.Common.{ap, sym, ◌∙◌, div-le_self, div-one, mod-lt, add-one, arith, drop_of_length-le, drop-cons}
use Rattle.std.proofs.Math.Nat.{div-add-mod, div-eq_of_lt, pow-zero}
use borrow.Author.Tests.{lt-ltb, le-ltb, eq-eqb, eqb-true}
use Rattle.text.specs.NumberText.{digit_text, digits_text, width_from, width, decimal_text}
use Rattle.text.proofs.NumberTextLaws.{left_next, width_holds}
use Rattle.trace_list.specs.declared.asked.Asked.{Asked}
use Rattle.trace_list.specs.declared.asked.Asked.TheVariants.{Whole, From, Unclear}
use Rattle.trace_list.specs.Asked.{decimal, multiple, from_of, AskedMeets, none, one, more}

-- the bytes from a place on, by the first of them
module _ (word : List ℕ) (n i : ℕ) (h : i < length word) where
  first_of : decimal n (drop i word) ≡ decimal n (get_or word i 0 ∷ drop (i + 1) word)
  first_of = rw (add-one i) (ap (decimal n) (drop-cons word i 0 h))

  pub below_digits : get_or word i 0 < 48 → decimal n (drop i word) ≡ Unclear
  unfolding decimal
  below_digits b = first_of ∙ rw (lt-ltb (get_or word i 0) 48 b) refl

  module _ (b : 48 ≤ get_or word i 0) where
    pub above_digits : 57 < get_or word i 0 → decimal n (drop i word) ≡ Unclear
    unfolding decimal
    above_digits a = first_of ∙ rw (le-ltb (get_or word i 0) 48 b, lt-ltb 57 (get_or word i 0) a) refl

    module _ (a : get_or word i 0 ≤ 57) where
      pub too_wide : 0xFFFFFFFF < n * 10 + (get_or word i 0 - 48) → decimal n (drop i word) ≡ Unclear
      unfolding decimal
      too_wide w = first_of ∙ rw (le-ltb (get_or word i 0) 48 b, le-ltb 57 (get_or word i 0) a, lt-ltb 0xFFFFFFFF (n * 10 + (get_or word i 0 - 48)) w) refl

      pub one_digit_more : n * 10 + (get_or word i 0 - 48) ≤ 0xFFFFFFFF
          → decimal n (drop i word) ≡ decimal (n * 10 + (get_or word i 0 - 48)) (drop (i + 1) word)
      unfolding decimal
      one_digit_more w = first_of
          ∙ rw (le-ltb (get_or word i 0) 48 b, le-ltb 57 (get_or word i 0) a, le-ltb 0xFFFFFFFF (n * 10 + (get_or word i 0 - 48)) w) refl

pub no_byte_left : (word : List ℕ) (n i : ℕ) → length word ≤ i → decimal n (drop i word) ≡ From n
unfolding decimal
no_byte_left word n i h = ap (decimal n) (drop_of_length-le word h)

-- a word with a byte is its number, where that is a multiple
pub some_word : (word : List ℕ) → (length word ≡ 0 → ⊥) → from_of word ≡ multiple (decimal 0 word)
unfolding from_of
some_word [] h = absurd (h refl)
some_word (byte ∷ bytes) h = refl

pub no_word : (word : List ℕ) → length word ≡ 0 → from_of word ≡ Unclear
unfolding from_of
no_word [] e = refl
no_word (byte ∷ bytes) e = absurd (omega (arith, e))

-- a digit that is written is read, behind those that have made the number before it
digit_read : (before d : ℕ) (bytes : List ℕ) → d < 10 → before * 10 + d ≤ 0xFFFFFFFF → decimal before (digit_text d ∷ bytes) ≡ decimal (before * 10 + d) bytes
unfolding decimal digit_text
digit_read before d bytes h fits =
    let e : 48 + d - 48 ≡ d = omega arith in
    rw (lt-ltb d 10 h, le-ltb (48 + d) 48 (omega arith), le-ltb 57 (48 + d) (omega arith), e, le-ltb 0xFFFFFFFF (before * 10 + d) fits)

-- and so the last digits of a number behind its others
digits_read : (k n : ℕ) → n ≤ 0xFFFFFFFF → decimal (n / 10 ^ k) (digits_text 10 k n) ≡ From n
unfolding decimal digits_text
digits_read zero n fits = rw (pow-zero, div-one)
digits_read (suc k) n fits =
    let d = n / 10 ^ k % 10 in
    let above : n / 10 ^ k / 10 ≡ n / 10 ^ suc k = rw (add-one k) at (left_next 10 n k) in
    let whole : n / 10 ^ suc k * 10 + d ≡ n / 10 ^ k = omega (arith, div-add-mod (n / 10 ^ k) 10, above) in
    let small : d < 10 = mod-lt (n / 10 ^ k) (omega arith) in
    digit_read (n / 10 ^ suc k) d (digits_text 10 k n) small (omega (arith, whole, div-le_self n (10 ^ k)))
    ∙ rw whole (digits_read k n fits)

-- THE LAW: a number as it is written is read back, where it has a place of 32 bits
pub decimal_read : (n : ℕ) → n ≤ 0xFFFFFFFF → decimal 0 (decimal_text n) ≡ From n
decimal_read n fits =
    let none : n / 10 ^ width 10 n ≡ 0 = div-eq_of_lt (width_holds 10 n 19 1 (omega arith)) in
    rw none at (digits_read (width 10 n) n fits)

-- .. and FROM is that number where it is a multiple of 256
pub from_read : (n : ℕ) → n ≤ 0xFFFFFFFF → n % 256 ≡ 0 → from_of (decimal_text n) ≡ From n
unfolding from_of decimal digits_text width_from
from_read n fits e = by_text (decimal_text n) refl
  where
    by_text : (text : List ℕ) → decimal_text n ≡ text → from_of text ≡ From n
    by_text [] p =
        let none : From n ≡ From 0 = sym (decimal_read n fits) ∙ ap (decimal 0) p in
        let first : n ≡ 0 = cc none in
        absurd (omega (arith, ap length (rw first at p)))
    by_text (byte ∷ bytes) p = ap multiple (ap (decimal 0) (sym p) ∙ decimal_read n fits) ∙ rw (eq-eqb (n % 256) 0 e)

-- so that a cycle that is asked for is a multiple of 256
multiple_so : (asked : Asked) (cycle : ℕ) → multiple asked ≡ From cycle → cycle % 256 ≡ 0
multiple_so Whole cycle e = let z : ◌≡◌ {A = ℕ} 0 1 = cc in absurd (omega arith)
multiple_so Unclear cycle e = let z : ◌≡◌ {A = ℕ} 0 1 = cc in absurd (omega arith)
multiple_so (From n) cycle e = by_test (eqb (n % 256) 0) refl e
  where
    by_test : (t : Bool) → eqb (n % 256) 0 ≡ t → cond t (From n) Unclear ≡ From cycle → cycle % 256 ≡ 0
    by_test true p e = let same : n ≡ cycle = cc in rw (← same) (eqb-true (n % 256) 0 p)
    by_test false p e = let z : ◌≡◌ {A = ℕ} 0 1 = cc in absurd (omega arith)

pub from_multiple : (word : List ℕ) (cycle : ℕ) → from_of word ≡ From cycle → cycle % 256 ≡ 0
unfolding from_of
from_multiple [] cycle e = let z : ◌≡◌ {A = ℕ} 0 1 = cc in absurd (omega arith)
from_multiple (byte ∷ bytes) cycle e = multiple_so (decimal 0 (byte ∷ bytes)) cycle e

pub asked_multiple : {asked : Asked} → AskedMeets asked → (cycle : ℕ) → asked ≡ From cycle → cycle % 256 ≡ 0
asked_multiple none cycle e = let z : ◌≡◌ {A = ℕ} 0 1 = cc in absurd (omega arith)
asked_multiple (one word) cycle e = from_multiple word cycle e
asked_multiple more cycle e = let z : ◌≡◌ {A = ℕ} 0 1 = cc in absurd (omega arith)
