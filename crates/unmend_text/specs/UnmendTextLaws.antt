-- Laws of what an input comes to: too long, without a list, with one that is not its trace's, and with its own.
use Rattle.std.specs.Prelude.{◌≡◌, refl, ℕ, ◌-◌, ◌≤◌, ◌<◌, Bool, true, false, cond, Result, Err, List, ◌++◌, length, take, drop}
use Rattle.std.proofs.Common.{ap, sym, ◌∙◌, append-nil, arith, length-drop, drop_of_length-le, take-append-drop, take_at, take_all, lt-ltb, le-ltb}
use Rattle.std.proofs.Common.{eq-eqb, ne_eqb}
use Rattle.std.proofs.lemmas.List.Edits.{sets}
use Rattle.laws.specs.StoreLaws.{sets_front}
use Rattle.list_lines.specs.declared.ListRead.{ListRead}
use Rattle.list_lines.specs.ListLines.{ListIn, list_in}
use Rattle.list_lines.specs.ListInLaws.{clear_list, Handed}
use Rattle.unmending.specs.Unmending.{put_back, is_its_list, UnmendingMeets}
use Rattle.unmend_text.specs.declared.Recorded.{Recorded}
use Rattle.unmend_text.specs.declared.NotUnmended.{NotUnmended}
use Rattle.unmend_text.specs.declared.NotUnmended.TheVariants.{Unclear, NotItsList}
use Rattle.unmend_text.specs.UnmendText.{recorded_at, taken_by, unmended, input_after, words_after, BehindMeets, UnmendedMeets}

-- the promise, from the answer alone
pub unmended_meets : (input words : List ℕ) {r : Result Recorded NotUnmended} {input' words' : List ℕ} → r ≡ unmended (length words) input
    → input' ≡ input_after (length words) input r → words' ≡ words_after input words → UnmendedMeets input words r input' words'
unmended_meets input words e f g = record { answer = e; bytes = f ∙ ap (input_after (length words) input) e; list = g }

pub too_long : (room : ℕ) (input : List ℕ) → 700000 < length input → unmended room input ≡ Err Unclear
unfolding unmended
too_long room input h = rw (lt-ltb 700000 (length input) h)

module _ (room : ℕ) (input : List ℕ) (short : length input ≤ 700000) where
  judged : unmended room input ≡ taken_by input (list_in room input)
  unfolding unmended
  judged = rw (le-ltb 700000 (length input) short)

  pub no_list : (list_in room input).clear ≡ false → unmended room input ≡ Err Unclear
  no_list e = judged ∙ rw e

  module _ (e : (list_in room input).clear ≡ true) where
    pub other_length : (length input - (list_in room input).from ≡ (list_in room input).cycles → ⊥) → unmended room input ≡ Err NotItsList
    other_length f = judged ∙ rw (e, ne_eqb _ _ f)

    module _ (f : length input - (list_in room input).from ≡ (list_in room input).cycles) where
      pub not_its : is_its_list (drop (list_in room input).from input) (list_in room input).words ≡ false → unmended room input ≡ Err NotItsList
      not_its g = judged ∙ rw (e, eq-eqb _ _ f, g)

      pub its : is_its_list (drop (list_in room input).from input) (list_in room input).words ≡ true
          → unmended room input ≡ recorded_at (list_in room input).from (list_in room input).changed
      its g = judged ∙ rw (e, eq-eqb _ _ f, g)

-- the words of a list that is clear, at the front of their buffer
pub words_front : (input before : List ℕ) {after : List ℕ} {r : ListRead} → Handed (list_in (length before) input) r
    → after ≡ sets before 0 (list_in (length before) input).words → take r.changed after ≡ (list_in (length before) input).words
words_front input before h put =
    let clear = clear_list (length before) input h.clear in
    let words = (list_in (length before) input).words in
    rw (h.changed, put, sets_front words before (omega (arith, clear.count, clear.fits)))
    (take_at words (drop (length words) before) (list_in (length before) input).changed clear.count)

-- and so what is lent behind the list, and in the buffer, is there
pub trace_behind : (input before : List ℕ) {r : ListRead} → Handed (list_in (length before) input) r
    → (r.from ≤ length input) × (r.changed ≤ length before)
trace_behind input before h =
    let clear = clear_list (length before) input h.clear in (omega (arith, clear.within, h.from), omega (arith, clear.fits, h.changed))

pub words_stay : (input before : List ℕ) → 700000 < length input → before ≡ words_after input before
words_stay input before h = rw (lt-ltb 700000 (length input) h)

pub words_put : (input before : List ℕ) {after : List ℕ} → length input ≤ 700000 → after ≡ sets before 0 (list_in (length before) input).words
    → after ≡ words_after input before
words_put input before h put = rw (le-ltb 700000 (length input) h) put

-- a part up to the end, lent and given back: what stands from there on, with what is before it
pub behind_part : (input : List ℕ) (from : ℕ) → take (length input - from) (drop from input) ≡ drop from input
behind_part input from = take_all (length input - from) (drop from input) (omega (arith, length-drop from input))

pub behind_meets : (input : List ℕ) (from : ℕ) {words after : List ℕ} {r : Bool} → UnmendingMeets (drop from input) words r after
    → BehindMeets input from words r (take from input ++ (after ++ drop (length input - from) (drop from input)))
behind_meets input from {words} {after} {r} m =
    record {
      answer = m.answer;
      bytes =
          rw (drop_of_length-le (drop from input) {i = length input - from} (omega (arith, length-drop from input)), append-nil after)
          (ap (λ (back : List ℕ). take from input ++ back) m.cycles ∙ by_answer (is_its_list (drop from input) words));
    }
  where
    by_answer : (t : Bool) → take from input ++ cond t (put_back (drop from input) words) (drop from input)
        ≡ cond t (take from input ++ put_back (drop from input) words) input
    by_answer true = refl
    by_answer false = take-append-drop from input

-- the answer as it is handed over
pub same_recorded : {told : ListIn} {r : ListRead} → Handed told r
    → recorded_at r.from r.changed ≡ recorded_at told.from told.changed
same_recorded h = rw (h.from, h.changed)

pub recorded_put : (input before : List ℕ) {input' : List ℕ} {r : ListRead} {t : Bool} → Handed (list_in (length before) input) r
    → BehindMeets input (list_in (length before) input).from (list_in (length before) input).words t input' → t ≡ true
    → input' ≡ input_after (length before) input (recorded_at r.from r.changed)
recorded_put input before h b e = rw h.from (b.bytes ∙ rw (sym b.answer ∙ e))

pub other_stays : {input words input' : List ℕ} {from : ℕ} {t : Bool} → BehindMeets input from words t input' → t ≡ false → input' ≡ input
other_stays b e = b.bytes ∙ rw (sym b.answer ∙ e)
