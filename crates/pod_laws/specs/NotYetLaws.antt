-- Laws of reading: it is "not yet" until, and only until, the closing reply is in, and what comes after that changes nothing.
use Rattle.std.specs.Prelude.{ℕ, zero, suc, ◌+◌, ◌≤◌, ◌<◌, ◌≡◌, refl, true, false, cond, List, [], ◌∷◌, ◌++◌, length, take, Option, None, Ok, Result, Err, Some}
use Rattle.grounds.specs.declared.Ground.{Ground}
use Rattle.readings.specs.declared.Outcome.{Outcome}
use Rattle.memory.specs.declared.Size.{Size}
use Rattle.std.proofs.Common.{zero-add, arith, sym, ap, ◌∙◌}
use Rattle.std.proofs.Math.Seq.{take-nil}
use Rattle.laws.specs.TestLaws.{by_test}
use Rattle.readings.specs.declared.Reader.{Reader}
use Rattle.readings.specs.declared.Reader.TheVariants.{First, Second, Closed, Bad}
use Rattle.readings.specs.Reader.{after_reply, after_replies, done, used}
use Rattle.readings.specs.Reading.{answered, reading_of}
use Rattle.readings.specs.ReaderLaws.{done_stays, done_uses_none}

-- "not yet" is what a reader answers that is not done, and nothing else is
open_answer : (d : Reader) (n : ℕ) → done d ≡ false → answered d n ≡ Ok (None, n)
open_answer First n h = refl
open_answer (Second upper) n h = refl
open_answer (Closed outcome) n h = cc
open_answer (Bad why) n h = cc

-- 1 where no outcome has been read
abbrev is_open : Result (Option Outcome × ℕ) Ground → ℕ
is_open (Ok (Some outcome, n)) = 0
is_open (Ok (None, n)) = 1
is_open (Err why) = 0

pub not_yet_open : (d : Reader) (n m : ℕ) → answered d n ≡ Ok (None, m) → done d ≡ false
not_yet_open First n m e = refl
not_yet_open (Second upper) n m e = refl
not_yet_open (Closed outcome) n m e = let z : ◌≡◌ {A = ℕ} 0 1 = ap is_open e in absurd (omega arith)
not_yet_open (Bad why) n m e = cc

open_uses_all : (k : Option Size) (d : Reader) (rs : List ℕ) → done (after_replies k d rs) ≡ false → used k d rs ≡ length rs
open_uses_all k d [] h = refl
open_uses_all k d (r ∷ rs) h =
    by_test (done d)
    (λ g. let z : true ≡ false = sym g ∙ sym (ap done (done_stays k d (r ∷ rs) g)) ∙ h in cc)
    (λ g. rw g (omega (arith, open_uses_all k (after_reply k d r) rs h)))

-- .. and then every reply is used
pub open_is_not_yet : (k : Option Size) (rs : List ℕ) → done (after_replies k First rs) ≡ false → reading_of k rs ≡ Ok (None, length rs)
open_is_not_yet k rs h = open_answer (after_replies k First rs) (used k First rs) h ∙ ap (λ (n : ℕ). Ok (None, n)) (open_uses_all k First rs h)

-- the words that a reading used
abbrev words_read : Result (Option Outcome × ℕ) Ground → ℕ
words_read (Ok (outcome, n)) = n
words_read (Err why) = 0

-- "all of them for not yet"
pub not_yet_uses_all : (k : Option Size) (rs : List ℕ) (n : ℕ) → reading_of k rs ≡ Ok (None, n) → n ≡ length rs
not_yet_uses_all k rs n e =
    let h = not_yet_open (after_replies k First rs) (used k First rs) n e in
    let e' : ◌≡◌ {A = Result (Option Outcome × ℕ) Ground} (Ok (None, used k First rs)) (Ok (None, n)) =
    sym (open_answer (after_replies k First rs) (used k First rs) h) ∙ e in
    let same : used k First rs ≡ n = ap words_read e' in
    sym same ∙ open_uses_all k First rs h

-- the reader and the words used are the same for two lists of replies
abbrev Same : Option Size → Reader → List ℕ → List ℕ → Type 0
Same k d xs ys = (after_replies k d xs ≡ after_replies k d ys) × (used k d xs ≡ used k d ys)

-- .. and stay so with one reply before both
same_before : (k : Option Size) (d : Reader) (r : ℕ) (xs ys : List ℕ) → Same k (after_reply k d r) xs ys → Same k d (r ∷ xs) (r ∷ ys)
same_before k d r xs ys same = (same.0, ap (λ n. cond (done d) 0 (1 + n)) same.1)

done_further : (k : Option Size) (d : Reader) (xs ys : List ℕ) → done (after_replies k d xs) ≡ true → Same k d (xs ++ ys) xs
done_further k d [] ys h = (done_stays k d ys h, done_uses_none k d ys h)
done_further k d (x ∷ xs) ys h = same_before k d x (xs ++ ys) xs (done_further k (after_reply k d x) xs ys h)

-- once the closing reply is in, further replies change nothing
pub further_replies : (k : Option Size) (xs ys : List ℕ) → done (after_replies k First xs) ≡ true → reading_of k (xs ++ ys) ≡ reading_of k xs
further_replies k xs ys h = let same = done_further k First xs ys h in rw (same.0, same.1)

pub after_append : (k : Option Size) (d : Reader) (xs ys : List ℕ) → after_replies k d (xs ++ ys) ≡ after_replies k (after_replies k d xs) ys
after_append k d [] ys = refl
after_append k d (x ∷ xs) ys = after_append k (after_reply k d x) xs ys

used_append : (k : Option Size) (d : Reader) (xs ys : List ℕ) → used k d (xs ++ ys) ≡ used k d xs + used k (after_replies k d xs) ys
used_append k d [] ys = sym (zero-add (used k d ys))
used_append k d (x ∷ xs) ys =
    by_test (done d)
    (λ h. rw (h, done_stays k d (x ∷ xs) h, done_uses_none k d ys h))
    (λ h. rw h (omega (arith, used_append k (after_reply k d x) xs ys)))

-- one reply more, while it is not yet, is one step of the reader
pub one_more : (k : Option Size) (rs : List ℕ) (r n : ℕ) → reading_of k rs ≡ Ok (None, n)
    → reading_of k (rs ++ r ∷ []) ≡ answered (after_reply k (after_replies k First rs) r) (n + 1)
one_more k rs r n e =
    let h = not_yet_open (after_replies k First rs) (used k First rs) n e in
    rw (after_append k First rs (r ∷ []), used_append k First rs (r ∷ []), h, open_uses_all k First rs h, not_yet_uses_all k rs n e)

-- a reader that took a word was not done
took_open : (k : Option Size) (d : Reader) (rs : List ℕ) → 0 < used k d rs → done d ≡ false
took_open k d rs h = by_test (done d) (λ g. absurd (omega (arith, done_uses_none k d rs g))) (λ g. g)

open_until : (k : Option Size) (d : Reader) (rs : List ℕ) (m : ℕ) → m < used k d rs
    → (done (after_replies k d (take m rs)) ≡ false) × (used k d (take m rs) ≡ m)
open_until k d [] m h = absurd (omega arith)
open_until k d (r ∷ rs) zero h = (took_open k d (r ∷ rs) h, refl)
open_until k d (r ∷ rs) (suc m) h =
    let g = took_open k d (r ∷ rs) (omega arith) in
    let rest = open_until k (after_reply k d r) rs m (omega (arith, rw g at h)) in
    (rest.0, rw g (omega (arith, rest.1)))

-- until the closing reply is in
pub not_yet_until : (k : Option Size) (rs : List ℕ) (m : ℕ) → m < used k First rs → reading_of k (take m rs) ≡ Ok (None, m)
not_yet_until k rs m h =
    let before = open_until k First rs m h in
    open_answer (after_replies k First (take m rs)) (used k First (take m rs)) before.0 ∙ ap (λ x. Ok (None, x)) before.1

settled_from : (k : Option Size) (d : Reader) (rs : List ℕ) (m : ℕ) → used k d rs ≤ m → Same k d (take m rs) rs
settled_from k d [] m h = rw (take-nil m) (refl, refl)
settled_from k d (r ∷ rs) zero h =
    by_test (done d) (λ g. (sym (done_stays k d (r ∷ rs) g), sym (done_uses_none k d (r ∷ rs) g))) (λ g. absurd (omega (arith, rw g at h)))
settled_from k d (r ∷ rs) (suc m) h = same_before k d r (take m rs) rs (settled_from k (after_reply k d r) rs m below)
  where
    below : used k (after_reply k d r) rs ≤ m
    below =
        by_test (done d)
        (λ g. omega (arith, done_uses_none k (after_reply k d r) rs (ap done (done_stays k d (r ∷ []) g) ∙ g)))
        (λ g. omega (arith, rw g at h))

-- and only until
pub settled_once_in : (k : Option Size) (rs : List ℕ) (m : ℕ) → used k First rs ≤ m → reading_of k (take m rs) ≡ reading_of k rs
settled_once_in k rs m h = let same = settled_from k First rs m h in rw (same.0, same.1)
