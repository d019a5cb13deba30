-- Laws of room: the buffers that the program `mend` has are never too short, so that only 7 is refused and all that is told stands there.
use Rattle.std.specs.Prelude.{◌≡◌, refl, ℕ, zero, suc, ◌+◌, ◌*◌, ◌/◌, ◌%◌, ◌^◌, ◌≤◌, ◌<◌, Bool, true, false, cond, List, [], ◌∷◌, ◌++◌, ltb, eqb, length, take}
use Rattle.std.proofs.Common.{ap, sym, ◌∙◌, arith, length-append, take_at, ltb-false, eqb-true}
use Rattle.std.proofs.lemmas.Bool.{eqb-false}
use Rattle.trace.specs.TraceReading.{counted}
use Rattle.text.specs.Text.{ascii, Puts}
use Rattle.text.specs.TextLaws.{told_whole}
use Rattle.text.specs.NumberText.{width_from, width, decimal_text}
use Rattle.text.proofs.NumberTextLaws.{digits_length}
use Rattle.mending.specs.Mending.{mended_pst, mended, changes}
use Rattle.mending.specs.MendingAnswer.{mending}
use Rattle.mending.specs.MendingAnswerLaws.{mending_done}
use Rattle.mending.specs.MendingStoreLaws.{retold_length, changes_at_most}
use Rattle.mend_text.specs.declared.Said.{Said}
use Rattle.mend_text.specs.MendText.{counts_line, change_line, change_lines, list_text, judged_for, MendSaid}
use Rattle.mend_laws.specs.ChangeListLaws.{Rising, listed_in_order}

-- a number below a power of ten has no more digits than that
width_below : (n d more k : ℕ) → n < 10 ^ d → k ≤ d → width_from 10 n more k ≤ d
unfolding width_from
width_below n d zero k below h = h
width_below n d (suc more) k below h = by_test (ltb n (10 ^ k)) refl (λ l. width_below n d more (suc k) below l)
  where
    by_test : (t : Bool) → ltb n (10 ^ k) ≡ t → (suc k ≤ d → width_from 10 n more (suc k) ≤ d) → cond t k (width_from 10 n more (suc k)) ≤ d
    by_test true e next = h
    by_test false e next = next (by_place (eqb k d) refl)
      where
        by_place : (t : Bool) → eqb k d ≡ t → suc k ≤ d
        by_place true f = absurd (omega (arith, ltb-false n (10 ^ k) e, ap (λ (m : ℕ). 10 ^ m) (eqb-true k d f)))
        by_place false f = omega (arith, eqb-false k d f)

decimal_below : (n d : ℕ) → n < 10 ^ d → 1 ≤ d → length (decimal_text n) ≤ d
decimal_below n d below h = omega (arith, digits_length 10 (width 10 n) n, width_below n d 19 1 below h)

-- a line of the list: a cycle below 65,536, and a PST
line_length : (word : ℕ) → word / 16 < 65536 → length (change_line word) ≤ 9
line_length word h =
    let C = decimal_text (word / 16) in
    let P = decimal_text (word % 16) in
    omega (
      arith,
      decimal_below (word / 16) 5 (omega arith) (omega arith),
      decimal_below (word % 16) 2 (omega arith) (omega arith),
      length-append C (ascii " "),
      length-append (C ++ ascii " ") P,
      length-append (C ++ ascii " " ++ P) (ascii "\n"),
    )

pub rising_below : (from to : ℕ) (words : List ℕ) → Rising from to words → from ≤ to
rising_below from to [] r = r
rising_below from to (word ∷ words) r = omega (arith, r.0, rising_below (word / 16 + 1) to words r.1)

lines_length : (from to : ℕ) (words : List ℕ) → to ≤ 65536 → Rising from to words → length (change_lines words) ≤ 9 * length words
lines_length from to [] h r = omega arith
lines_length from to (word ∷ words) h r =
    let below = rising_below (word / 16 + 1) to words r.1 in
    omega (
      arith,
      length-append (change_line word) (change_lines words),
      line_length word (omega arith),
      lines_length (word / 16 + 1) to words h r.1,
    )

-- the head: two counts of at most 65,536
head_length : (cycles changed : ℕ) → cycles ≤ 65536 → changed ≤ 65536 → length (counts_line (ascii "mended") cycles changed) ≤ 34
head_length cycles changed h k =
    let N = decimal_text cycles in
    let K = decimal_text changed in
    omega (
      arith,
      decimal_below cycles 5 (omega arith) (omega arith),
      decimal_below changed 5 (omega arith) (omega arith),
      length-append (ascii "mended" ++ ascii " cycles=") N,
      length-append (ascii "mended" ++ ascii " cycles=" ++ N) (ascii " changed="),
      length-append (ascii "mended" ++ ascii " cycles=" ++ N ++ ascii " changed=") K,
      length-append (ascii "mended" ++ ascii " cycles=" ++ N ++ ascii " changed=" ++ K) (ascii "\n"),
    )

module _ (trace : List ℕ) (short : length trace ≤ 65536) where
  -- with a place for each cycle nothing is refused
  pub room_enough : mending trace 65536 65536 ≡ counted (length (changes trace))
  room_enough = mending_done trace 65536 65536 short short (omega (arith, changes_at_most trace (length trace)))

  -- a text of 600,000 bytes holds the longest list: its head has 34 at most, each line 9
  pub list_enough : length (list_text (length trace) (changes trace)) ≤ 600000
  list_enough =
      omega (
        arith,
        changes_at_most trace (length trace),
        length-append (counts_line (ascii "mended") (length trace) (length (changes trace))) (change_lines (changes trace)),
        head_length (length trace) (length (changes trace)) short (omega (arith, changes_at_most trace (length trace))),
        lines_length 0 (length trace) (changes trace) short (listed_in_order trace (length trace) (omega arith)),
      )

  -- so with buffers of these lengths the whole list stands in the text, and the mended trace goes out
  pub mend_says : {text bytes words text' bytes' words' : List ℕ} {r : Said} → length text ≡ 600000 → length bytes ≡ 65536 → length words ≡ 65536
      → MendSaid trace text bytes words r text' bytes' words'
      → (take r.end text' ≡ list_text (length trace) (changes trace)) × (take r.cycles bytes' ≡ mended trace)
  mend_says {text} {bytes} {words} {text'} {bytes'} {words'} {r} t b w m =
      let done : judged_for trace bytes words ≡ counted (length (changes trace)) = rw (b, w) room_enough in (
        told_whole (rw done at m.told) (omega (arith, t, list_enough)),
        rw (m.writes, m.cycles, done) (take_at (mended trace) _ (length trace) (retold_length (mended_pst trace) trace (length trace))),
      )
