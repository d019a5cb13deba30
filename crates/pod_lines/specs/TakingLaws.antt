-- Laws of taking numbers: counting and putting them one by one.
use Rattle.std.specs.Prelude.{ℕ, suc, ◌+◌, ◌≤◌, ◌<◌, ◌≡◌, refl, Bool, true, false, cond, List, [], ◌∷◌, ◌++◌, length, drop, set, Err, Ok, Result}
use Rattle.std.proofs.Common.{arith, zero-add, add-suc, suc-add, add-one, ap, ◌∙◌, le-leb}
use Rattle.std.proofs.lemmas.List.Edits.{sets}
use Rattle.std.proofs.lemmas.Bool.{lt-leb}
use Rattle.laws.specs.TestLaws.{both_hold}
use Rattle.laws.specs.StoreLaws.{sets_front}
use Rattle.pod_lines.specs.declared.NotTaken.{NotTaken}
use Rattle.pod_lines.specs.declared.NotTaken.TheVariants.{TooMany, NotAllNumbers}
use Rattle.numbers.specs.Numbers.{value, is_numeral}
use Rattle.pod_lines.specs.Taking.{all_numerals, values, counted, TakingMeets}

-- counting on from a count
abbrev pub counted_from : ℕ → List (List ℕ) → Result ℕ NotTaken
counted_from n words = cond (all_numerals words) (Ok (n + length words)) (Err NotAllNumbers)

pub count_begins : (words : List (List ℕ)) → counted words ≡ counted_from 0 words
count_begins words = rw zero-add

pub count_goes_on : (n : ℕ) (word : List ℕ) (words : List (List ℕ)) → is_numeral word ≡ true → counted_from n (word ∷ words) ≡ counted_from (n + 1) words
count_goes_on n word words e = rw (e, add-suc n (length words), add-one n, suc-add n (length words))

pub count_stops : (n : ℕ) (word : List ℕ) (words : List (List ℕ)) → is_numeral word ≡ false → counted_from n (word ∷ words) ≡ Err NotAllNumbers
count_stops n word words e = rw e

-- what a count says of the words
pub count_tells : (words : List (List ℕ)) (n : ℕ) → counted words ≡ Ok n → (all_numerals words ≡ true) × (length words ≡ n)
count_tells words n e = by_test (all_numerals words) e
  where
    by_test : (t : Bool) → cond t (Ok (length words)) (Err NotAllNumbers) ≡ Ok n → (t ≡ true) × (length words ≡ n)
    by_test true e = (refl, cc)
    by_test false e = (cc, cc)

-- putting on from a place
pub put_goes_on : (buffer : List ℕ) (n : ℕ) (word : List ℕ) (words : List (List ℕ))
    → sets buffer n (values (word ∷ words)) ≡ sets (set buffer n (value word)) (n + 1) (values words)
put_goes_on buffer n word words = rw (add-one n)

-- a number for each word
pub values_length : (words : List (List ℕ)) → length (values words) ≡ length words
values_length [] = refl
values_length (word ∷ words) = ap suc (values_length words)

-- all of them at the front, and the rest as it was
pub put_all : (words : List (List ℕ)) (before : List ℕ) → length words ≤ length before
    → sets before 0 (values words) ≡ values words ++ drop (length words) before
put_all words before h = rw (values_length words) at (sets_front (values words) before (omega (arith, values_length words)))

-- what is known of words that are all numbers
pub first_numeral : (word : List ℕ) (words : List (List ℕ)) → all_numerals (word ∷ words) ≡ true → (is_numeral word ≡ true) × (all_numerals words ≡ true)
first_numeral word words e = both_hold (is_numeral word) (all_numerals words) e

-- the promise, for each way that taking goes
module _ (words : List (List ℕ)) (before : List ℕ) (n : ℕ) where
  pub takes_all : counted words ≡ Ok n → n ≤ length before → (after : List ℕ) → after ≡ sets before 0 (values words)
      → TakingMeets words before (Ok n) after
  takes_all e h after p =
      let l : length words ≡ n = (count_tells words n e).1 in
      record { answer = rw (e, le-leb n (length before) h); buffer = p ∙ put_all words before (omega arith) ∙ rw (e, l, le-leb n (length before) h) }

  pub takes_none : counted words ≡ Ok n → length before < n → TakingMeets words before (Err TooMany) before
  takes_none e h = record { answer = rw (e, lt-leb n (length before) h); buffer = rw (e, lt-leb n (length before) h) }

module _ (words : List (List ℕ)) (before : List ℕ) where
  pub takes_none_of_too_many : counted words ≡ Err TooMany → TakingMeets words before (Err TooMany) before
  takes_none_of_too_many e = record { answer = rw e; buffer = rw e }

  pub takes_none_of_others : counted words ≡ Err NotAllNumbers → TakingMeets words before (Err NotAllNumbers) before
  takes_none_of_others e = record { answer = rw e; buffer = rw e }

  pub takes_none_uncounted : (why : NotTaken) → counted words ≡ Err why → TakingMeets words before (Err why) before
  takes_none_uncounted why e = record { answer = rw e; buffer = rw e }
