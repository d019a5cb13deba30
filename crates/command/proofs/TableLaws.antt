-- Laws of the code's table of command words: a test of each word, and that the table then gives what the definitions give.
use Rattle.std.specs.Prelude.{◌≡◌, refl, ℕ, zero, suc, ◌+◌, ◌*◌, ◌-◌, ◌/◌, ◌%◌, ◌<◌, ◌≤◌, Bool, true, false, cond, ◌&&◌, ◌||◌, List, [], ◌∷◌, eqb, ltb}
use Rattle.std.proofs.Common.{sym, ap, ◌∙◌, not-suc-le-zero, arith, ne_eqb, eqb-true, ltb-true, ltb-false}
use Rattle.std.proofs.lemmas.Bool.{eqb-false}
use Rattle.memory.specs.declared.Size.{Size}
use Rattle.memory.specs.declared.Size.TheVariants.{Byte, Word, Long}
use Rattle.command.specs.declared.Command.{Command}
use Rattle.command.specs.declared.Command.TheVariants.{Unknown, Nop, Load, Store, Show, Change}
use Rattle.command.specs.Command.{Row, table, looked_up, rdreg, wdreg, decoded_word, decoded, operand_words, result_words}
use Rattle.command.proofs.CommandWordLaws.{same, same_is_equal}
use Rattle.command.specs.TableMirror.{operand_digits, takes, allowed, Allows, size_in, words_for, counts_in, counts_of}
use Rattle.laws.specs.TestLaws.{by_test, both_hold}

abbrev kept_if : Bool → Row → List Row → List Row
kept_if true r rs = r ∷ rs
kept_if false r rs = rs

-- the rows of an upper byte, so that the test of a word asks few
unfoldable pub under : ℕ → List Row → List Row
under upper [] = []
under upper (r ∷ rs) = kept_if (eqb (r.word / 256) upper) r (under upper rs)

abbrev decoded_by : List Row → ℕ → Command
decoded_by rows w = cond (eqb (w / 16) 0x218) (rdreg (w % 16)) (cond (eqb (w / 16) 0x208) (wdreg (w % 16)) (looked_up w rows))

looked_up_under : (w : ℕ) (rows : List Row) → looked_up w rows ≡ looked_up w (under (w / 256) rows)
unfolding under
looked_up_under w [] = refl
looked_up_under w (r ∷ rs) =
    by_test (eqb (r.word / 256) (w / 256))
    (λ match. rw (match) (ap (cond (eqb w r.word) r.command) (looked_up_under w rs)))
    (λ other. rw (other, ne_eqb w r.word (λ e. eqb-false (r.word / 256) (w / 256) other (ap (λ (x : ℕ). x / 256) (sym e)))) (looked_up_under w rs))

decoded_under : (w : ℕ) → decoded_by (under (w / 256) table) w ≡ decoded w
unfolding decoded decoded_word
decoded_under w =
    ap (λ (c : Command). cond (eqb (w / 16) 0x218) (rdreg (w % 16)) (cond (eqb (w / 16) 0x208) (wdreg (w % 16)) c)) (sym (looked_up_under w table))

-- a test of every number below n
abbrev each_below : ℕ → (ℕ → Bool) → Bool
each_below zero test = true
each_below (suc n) test = test n && each_below n test

each_below_lem : (n : ℕ) (test : ℕ → Bool) → each_below n test ≡ true → (k : ℕ) → k < n → test k ≡ true
each_below_lem zero test h k below = absurd (not-suc-le-zero below)
each_below_lem (suc n) test h k below =
    by_test (eqb k n) (λ last. ap test (eqb-true k n last) ∙ (both_hold (test n) (each_below n test) h).0)
    (λ other. each_below_lem n test (both_hold (test n) (each_below n test) h).1 k (omega (arith, eqb-false k n other, below)))

-- the counts that a line has for a lower byte
abbrev operands_in : ℕ → ℕ → ℕ
operands_in line lower = cond (takes line lower) (words_for (operand_digits line) (size_in lower)) 0

abbrev results_in : ℕ → ℕ → ℕ
results_in line lower = cond (takes line lower) (words_for line (size_in lower)) 0

-- an entry is right for a word: it gives the decoder's command, and its line that command's counts
pub record RightEntry (line : ℕ) (gives : ℕ → Command) (w : ℕ) : Type 0 where
  pub command : allowed line (w % 256) (gives (w % 256)) ≡ decoded w
  pub operands : operands_in line (w % 256) ≡ operand_words (decoded w)
  pub results : results_in line (w % 256) ≡ result_words (decoded w)

abbrev agrees : ℕ → (ℕ → Command) → ℕ → Command → Bool
agrees line gives lower c =
    same (allowed line lower (gives lower)) c && (eqb (operands_in line lower) (operand_words c) && eqb (results_in line lower) (result_words c))

-- THE TEST of an entry: each word with its upper byte
abbrev pub entry_agrees : ℕ → (ℕ → Command) → ℕ → Bool
entry_agrees line gives upper = each_below 256 (λ lower. agrees line gives lower (decoded_by (under upper table) (upper * 256 + lower)))

agreed : (line : ℕ) (gives : ℕ → Command) (w : ℕ) (c : Command) → agrees line gives (w % 256) c ≡ true → c ≡ decoded w → RightEntry line gives w
agreed line gives w c h e =
    let lower = w % 256 in
    let operands = eqb (operands_in line lower) (operand_words c) in
    let results = eqb (results_in line lower) (result_words c) in
    let parts = both_hold (same (allowed line lower (gives lower)) c) (operands && results) h in
    let counts = both_hold operands results parts.1 in
    record {
      command = same_is_equal (allowed line lower (gives lower)) c parts.0 ∙ e;
      operands = eqb-true (operands_in line lower) (operand_words c) counts.0 ∙ ap operand_words e;
      results = eqb-true (results_in line lower) (result_words c) counts.1 ∙ ap result_words e;
    }

whole : (w : ℕ) → w / 256 * 256 + w % 256 ≡ w
whole w = omega arith

at_its_upper_byte : (line : ℕ) (gives : ℕ → Command) (w : ℕ) → entry_agrees line gives (w / 256) ≡ true → RightEntry line gives w
at_its_upper_byte line gives w h =
    let rows = under (w / 256) table in
    let found = decoded_by rows (w / 256 * 256 + w % 256) in
    agreed line gives w found
    (each_below_lem 256 (λ lower. agrees line gives lower (decoded_by rows (w / 256 * 256 + lower))) h (w % 256) (omega arith))
    (ap (decoded_by rows) (whole w) ∙ decoded_under w)

upper_byte : (w key : ℕ) → w - w % 256 ≡ key → key / 256 ≡ w / 256
upper_byte w key e = omega (arith, e)

-- an entry stands by the first of the words that have its upper byte
pub entry : {line lower key : ℕ} {c r : Command} (w : ℕ) (gives : ℕ → Command) → Allows line lower c r →
    w - w % 256 ≡ key → lower ≡ w % 256 → c ≡ gives lower → entry_agrees line gives (key / 256) ≡ true → r ≡ decoded w
entry {line} {lower} {key} w gives answered here low given h =
    answered.answer ∙ ap (allowed line lower) given ∙ ap (λ (k : ℕ). allowed line k (gives k)) low
    ∙ (at_its_upper_byte line gives w (ap (entry_agrees line gives) (sym (upper_byte w key here)) ∙ h)).command

-- "Words of 0x10000 and above" are no command
abbrev within : List Row → Bool
within [] = true
within (r ∷ rs) = ltb r.word 0x10000 && within rs

looked_up_beyond : (w : ℕ) (rows : List Row) → 0x10000 ≤ w → within rows ≡ true → looked_up w rows ≡ Unknown
looked_up_beyond w [] beyond h = refl
looked_up_beyond w (r ∷ rs) beyond h =
    let both = both_hold (ltb r.word 0x10000) (within rs) h in
    rw (ne_eqb w r.word (λ e. omega (arith, beyond, e, ltb-true r.word 0x10000 both.0))) (looked_up_beyond w rs beyond both.1)

no_word_beyond : (w : ℕ) → 0x10000 ≤ w → decoded w ≡ Unknown
unfolding decoded decoded_word
no_word_beyond w beyond =
    rw (ne_eqb (w / 16) 0x218 (λ e. omega (arith, beyond, e)), ne_eqb (w / 16) 0x208 (λ e. omega (arith, beyond, e)))
    (looked_up_beyond w table beyond refl)

abbrev is_unknown : Command → Bool
is_unknown Unknown = true
is_unknown Nop = false
is_unknown (Load size base) = false
is_unknown (Store size base) = false
is_unknown (Show from) = false
is_unknown (Change to) = false

unknown_only : (c : Command) → is_unknown c ≡ true → c ≡ Unknown
unknown_only Unknown h = refl
unknown_only Nop h = cc
unknown_only (Load size base) h = cc
unknown_only (Store size base) h = cc
unknown_only (Show from) h = cc
unknown_only (Change to) h = cc

abbrev any_of : List ℕ → ℕ → Bool
any_of [] x = false
any_of (k ∷ ks) x = eqb x k || any_of ks x

-- the same test under an upper byte that has no entry: none of its words is a command
abbrev is_gap : ℕ → Bool
is_gap upper = each_below 256 (λ lower. is_unknown (decoded_by (under upper table) (upper * 256 + lower)))

-- THE TEST of the fill: each upper byte that is none of the entries'
abbrev pub fill_agrees : List ℕ → Bool
fill_agrees keys = each_below 256 (λ upper. any_of keys (upper * 256) || is_gap upper)

or_second : (x y : Bool) → x ≡ false → (x || y) ≡ true → y ≡ true
or_second x y none h = rw none at h

in_a_gap : (w : ℕ) → is_gap (w / 256) ≡ true → decoded w ≡ Unknown
in_a_gap w h =
    let rows = under (w / 256) table in
    let found = each_below_lem 256 (λ lower. is_unknown (decoded_by rows (w / 256 * 256 + lower))) h (w % 256) (omega arith) in
    sym (decoded_under w) ∙ ap (decoded_by rows) (sym (whole w)) ∙ unknown_only (decoded_by rows (w / 256 * 256 + w % 256)) found

pub fill : (w : ℕ) (keys : List ℕ) → any_of keys (w - w % 256) ≡ false → fill_agrees keys ≡ true → decoded w ≡ Unknown
fill w keys none h =
    by_test (ltb w 0x10000)
    (λ below.
    let upper = w / 256 in
    let here = each_below_lem 256 (λ upper. any_of keys (upper * 256) || is_gap upper) h upper (omega (arith, ltb-true w 0x10000 below)) in
    in_a_gap w (or_second (any_of keys (upper * 256)) (is_gap upper) (ap (any_of keys) (omega arith) ∙ none) here))
    (λ beyond. no_word_beyond w (omega (arith, ltb-false w 0x10000 beyond)))

abbrev counts_agree : ℕ → Command → Size → Bool
counts_agree line c size = eqb (words_for (operand_digits line) size) (operand_words c) && eqb (words_for line size) (result_words c)

pub counts_in_lem : (line : ℕ) (c : Command) (size : Size) → counts_agree line c size ≡ true → counts_in line size ≡ counts_of c
counts_in_lem line c size h =
    let both = both_hold (eqb (words_for (operand_digits line) size) (operand_words c)) (eqb (words_for line size) (result_words c)) h in
    rw (eqb-true (words_for (operand_digits line) size) (operand_words c) both.0, eqb-true (words_for line size) (result_words c) both.1)

-- a line whose command has a size is tried at each
pub counts_in_each : (line : ℕ) (command : Size → Command) (size : Size) →
    (counts_agree line (command Byte) Byte && (counts_agree line (command Word) Word && counts_agree line (command Long) Long)) ≡ true →
    counts_in line size ≡ counts_of (command size)
counts_in_each line command Byte h = counts_in_lem line (command Byte) Byte (both_hold _ _ h).0
counts_in_each line command Word h =
    counts_in_lem line (command Word) Word (both_hold _ _ (both_hold (counts_agree line (command Byte) Byte) _ h).1).0
counts_in_each line command Long h =
    counts_in_lem line (command Long) Long (both_hold (counts_agree line (command Word) Word) _ (both_hold (counts_agree line (command Byte) Byte) _ h).1).1
