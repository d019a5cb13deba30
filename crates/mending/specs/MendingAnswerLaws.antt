-- Laws of mending's answer: each refusal where its turn comes, the promise from the answer alone, and what stands in buffers that are long enough.
use Rattle.std.specs.Prelude.{◌≡◌, refl, ℕ, ◌≤◌, ◌<◌, Bool, true, false, cond, List, ◌++◌, ltb, length, take, drop, Ok, Result}
use Rattle.grounds.specs.declared.Ground.{Ground}
use Rattle.std.proofs.Common.{ap, sym, ◌∙◌, arith, length-append, take_at, lt-ltb, le-ltb}
use Rattle.trace.specs.TraceReading.{Told, refusal, counted, too_long, too_short}
use Rattle.trace.proofs.TraceReadingLaws.{short_so, room_so, same_count}
use Rattle.mending.specs.Mending.{mended_pst, mended, changes}
use Rattle.mending.specs.MendingStoreLaws.{retold_length, changes_at_most}
use Rattle.mending.specs.MendingUnique.{told_mending_unique}
use Rattle.mending.specs.MendingAnswer.{told_mending, mending, put_front, MendingMeets}

module _ (trace : List ℕ) (bytes words : ℕ) where
  pub mending_long : 65536 < length trace → mending trace bytes words ≡ refusal 7 0
  unfolding mending too_long
  mending_long h = rw (lt-ltb 65536 (length trace) h)

  module _ (short : length trace ≤ 65536) where
    judged_on : mending trace bytes words
        ≡ too_short (length trace) bytes (too_short (length (changes trace)) words (counted (length (changes trace))))
    unfolding mending too_long
    judged_on = rw (le-ltb 65536 (length trace) short)

    pub no_room_for_trace : bytes < length trace → mending trace bytes words ≡ refusal 11 0
    no_room_for_trace h = judged_on ∙ short_so (length trace) bytes _ h

    module _ (room : length trace ≤ bytes) where
      pub no_room_for_list : words < length (changes trace) → mending trace bytes words ≡ refusal 11 0
      no_room_for_list h = judged_on ∙ room_so (length trace) bytes _ room ∙ short_so (length (changes trace)) words _ h

      pub mending_done : length (changes trace) ≤ words → mending trace bytes words ≡ counted (length (changes trace))
      mending_done h = judged_on ∙ room_so (length trace) bytes _ room ∙ room_so (length (changes trace)) words _ h

-- what is counted are the changed cycles
passed_by : (t : Bool) (k c n : ℕ) (told : Told) → cond t (refusal k c) told ≡ counted n → told ≡ counted n
passed_by true k c n told e = let z : ◌≡◌ {A = ℕ} 0 1 = cc in absurd (omega arith)
passed_by false k c n told e = e

pub mending_counted : (trace : List ℕ) (bytes words n : ℕ) → mending trace bytes words ≡ counted n → n ≡ length (changes trace)
unfolding mending too_long too_short
mending_counted trace bytes words n e =
    let long = ltb 65536 (length trace) in
    let no_room = ltb bytes (length trace) in
    let no_place = ltb words (length (changes trace)) in
    same_count _ n (passed_by no_place 11 0 n _ (passed_by no_room 11 0 n _ (passed_by long 7 0 n _ e)))

-- so where cycles were changed, as many words stand at the front of the buffer, and are the list
pub record ListPut (trace words : List ℕ) (n : ℕ) : Type 0 where
  pub fits : n ≤ length words
  pub list : take n words ≡ changes trace

pub list_put : {trace bytes words bytes' words' : List ℕ} {r : Result ℕ Ground} {n : ℕ} → MendingMeets trace bytes words r bytes' words'
    → mending trace (length bytes) (length words) ≡ counted n → ListPut trace words' n
list_put {trace} {bytes} {words} {bytes'} {words'} {r} {n} m e =
    let stands : words' ≡ changes trace ++ drop (length (changes trace)) words = rw e at m.list in
    let count = mending_counted trace (length bytes) (length words) n e in
    record {
      fits = omega (arith, ap length stands ∙ length-append (changes trace) (drop (length (changes trace)) words));
      list = rw stands (take_at (changes trace) (drop (length (changes trace)) words) n (sym count));
    }

-- the promise, from the answer alone
pub mending_meets : (trace bytes words bytes' words' : List ℕ) (r : Result ℕ Ground) → told_mending r ≡ mending trace (length bytes) (length words)
    → bytes' ≡ put_front (mended trace) bytes (told_mending r) → words' ≡ put_front (changes trace) words (told_mending r)
    → MendingMeets trace bytes words r bytes' words'
mending_meets trace bytes words bytes' words' r e f g =
    record { answer = e; cycles = f ∙ ap (put_front (mended trace) bytes) e; list = g ∙ ap (put_front (changes trace) words) e }

-- with room for as many bytes and words as there are cycles, only 7 is refused; what was put stands at the front
pub record MendedInto (trace : List ℕ) (r : Result ℕ Ground) (bytes words : List ℕ) : Type 0 where
  pub answer : r ≡ Ok (length (changes trace))
  pub cycles : take (length trace) bytes ≡ mended trace
  pub list : take (length (changes trace)) words ≡ changes trace

pub mended_into : {trace bytes words bytes' words' : List ℕ} {r : Result ℕ Ground} → MendingMeets trace bytes words r bytes' words'
    → length trace ≤ 65536 → length trace ≤ length bytes → length trace ≤ length words → MendedInto trace r bytes' words'
mended_into {trace} {bytes} {words} {bytes'} {words'} {r} m short room places =
    let done = mending_done trace (length bytes) (length words) short room (omega (arith, changes_at_most trace (length trace))) in
    record {
      answer = told_mending_unique r (Ok (length (changes trace))) (m.answer ∙ done);
      cycles = rw (m.cycles, done) (take_at (mended trace) _ (length trace) (retold_length (mended_pst trace) trace (length trace)));
      list = rw (m.list, done) (take_at (changes trace) _ (length (changes trace)) refl);
    }
