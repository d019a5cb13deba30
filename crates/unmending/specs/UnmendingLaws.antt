-- Laws of putting back: word by word, that the length stays, and how both are compared once they are mended again.
use Rattle.std.specs.Prelude.{◌≡◌, refl, ℕ, ◌+◌, ◌≤◌, ◌<◌, Bool, false, cond, ◌&&◌, List, [], ◌∷◌, ◌++◌, length, get_or, take, drop, Ok, Result}
use Rattle.grounds.specs.declared.Ground.{Ground}
use Rattle.std.proofs.Common.{ap, sym, ◌∙◌, length-set, drop_of_length-le, take_at, le-leb}
use Rattle.std.proofs.lemmas.Bool.{lt-leb}
use Rattle.laws.specs.StoreLaws.{sets_front}
use Rattle.laws.specs.PlaceLaws.{from_here}
use Rattle.text.specs.Text.{Puts}
use Rattle.same.specs.SameList.{same}
use Rattle.mending.specs.Mending.{mended, changes}
use Rattle.mending.specs.MendingAnswerLaws.{MendedInto}
use Rattle.unmending.specs.Unmending.{put_word, put_back, is_its_list, UnmendingMeets}

module _ (trace words : List ℕ) (k : ℕ) where
  -- the words from one on: that one, and then those behind it
  pub put_next : k < length words → put_back trace (drop k words) ≡ put_back (put_word trace (get_or words k 0)) (drop (k + 1) words)
  unfolding put_back
  put_next h = rw (from_here words k h)

  pub put_none : length words ≤ k → put_back trace (drop k words) ≡ trace
  unfolding put_back
  put_none h = rw (drop_of_length-le words h)

pub put_word_length : (trace : List ℕ) (word : ℕ) → length (put_word trace word) ≡ length trace
put_word_length trace word = simp length-set

pub put_back_length : (trace words : List ℕ) → length (put_back trace words) ≡ length trace
unfolding put_back
put_back_length trace [] = refl
put_back_length trace (word ∷ words) = put_back_length (put_word trace word) words ∙ put_word_length trace word

-- first the one list, then the other
pub put_append : (trace words more : List ℕ) → put_back trace (words ++ more) ≡ put_back (put_back trace words) more
unfolding put_back
put_append trace [] more = refl
put_append trace (word ∷ words) more = put_append (put_word trace word) words more

-- the trace at the front of a copy, and the copy's front once the PSTs are put back there
pub copied_front : {trace before after : List ℕ} {end : ℕ} → Puts before 0 trace after end → length trace ≤ length before → take (length trace) after ≡ trace
copied_front {trace} {before} p room = rw (p.bytes, sets_front trace before room) (take_at trace (drop (length trace) before) (length trace) refl)

pub back_length : {back : List ℕ} (trace words : List ℕ) → back ≡ put_back trace words → length back ≡ length trace
back_length trace words put = ap length put ∙ put_back_length trace words

pub back_front : {back : List ℕ} (trace words rest : List ℕ) → back ≡ put_back trace words → take (length trace) (back ++ rest) ≡ put_back trace words
back_front {back} trace words rest put = take_at back rest (length trace) (back_length trace words put) ∙ put

-- a list of a trace that is not too long, judged; of a longer one there is none
pub its_list_judged : (trace words : List ℕ) → length trace ≤ 65536
    → is_its_list trace words ≡ (same (mended (put_back trace words)) trace && same (changes (put_back trace words)) words)
unfolding is_its_list
its_list_judged trace words h = rw (le-leb (length trace) 65536 h)

pub no_list_of_longer : (trace words : List ℕ) → 65536 < length trace → is_its_list trace words ≡ false
unfolding is_its_list
no_list_of_longer trace words h = rw (lt-leb (length trace) 65536 h)

-- the promise, from the answer alone
pub unmending_meets : (trace words after : List ℕ) (r : Bool) → r ≡ is_its_list trace words → after ≡ cond r (put_back trace words) trace
    → UnmendingMeets trace words r after
unmending_meets trace words after r e f = record { answer = e; cycles = f ∙ ap (λ (t : Bool). cond t (put_back trace words) trace) e }

-- what was mended into buffers that are long enough, compared with a trace and a list
pub changed_count : {recorded bytes words : List ℕ} {r : Result ℕ Ground} {n : ℕ} → MendedInto recorded r bytes words → r ≡ Ok n → n ≡ length (changes recorded)
changed_count m e = let same_answer = sym e ∙ m.answer in cc

pub both_compared : {recorded bytes words : List ℕ} {r : Result ℕ Ground} {n : ℕ} (trace list : List ℕ) → MendedInto recorded r bytes words → r ≡ Ok n
    → (same (take (length recorded) bytes) trace && same (take n words) list) ≡ (same (mended recorded) trace && same (changes recorded) list)
both_compared trace list m e = rw (changed_count m e, m.cycles, m.list)
