-- Laws of words that a reader may expect: a space or tab parts, however many they are, and nothing else is lost or made.
use Rattle.std.specs.Prelude.{ℕ, suc, ◌+◌, ◌*◌, ◌≤◌, ◌≡◌, refl, Bool, true, false, cond, ◌&&◌, not, List, [], ◌∷◌, ◌++◌, length}
use Rattle.std.proofs.Common.{arith, ap}
use Rattle.words.specs.LineWords.{is_gap, joined, parts, full, words}

full_both : (ps qs : List (List ℕ)) → full (ps ++ qs) ≡ full ps ++ full qs
full_both [] qs = refl
full_both ([] ∷ ps) qs = full_both ps qs
full_both ((byte ∷ part) ∷ ps) qs = ap (λ (ws : List (List ℕ)). (byte ∷ part) ∷ ws) (full_both ps qs)

-- there is a first part, which a byte before it goes on with
joined_both : (byte : ℕ) (bytes : List ℕ) (qs : List (List ℕ)) → joined byte (parts bytes ++ qs) ≡ joined byte (parts bytes) ++ qs
joined_both byte [] qs = refl
joined_both byte (next ∷ bytes) qs = by_test (parts bytes) (is_gap next)
  where
    by_test : (ps : List (List ℕ)) (t : Bool) → joined byte (cond t ([] ∷ ps) (joined next ps) ++ qs) ≡ joined byte (cond t ([] ∷ ps) (joined next ps)) ++ qs
    by_test ps true = refl
    by_test [] false = refl
    by_test (p ∷ ps) false = refl

parts_apart : (before : List ℕ) (gap : ℕ) (after : List ℕ) → is_gap gap ≡ true → parts (before ++ gap ∷ after) ≡ parts before ++ parts after
parts_apart [] gap after e = rw e
parts_apart (byte ∷ before) gap after e = by_test (parts_apart before gap after e) (is_gap byte)
  where
    by_test : parts (before ++ gap ∷ after) ≡ parts before ++ parts after → (t : Bool)
        → cond t ([] ∷ parts (before ++ gap ∷ after)) (joined byte (parts (before ++ gap ∷ after)))
        ≡ cond t ([] ∷ parts before) (joined byte (parts before)) ++ parts after
    by_test h true = ap (λ (ps : List (List ℕ)). [] ∷ ps) h
    by_test h false = rw h (joined_both byte before (parts after))

-- a space or tab parts: the words of a line are those before it and those behind it
pub words_apart : (before : List ℕ) (gap : ℕ) (after : List ℕ) → is_gap gap ≡ true → words (before ++ gap ∷ after) ≡ words before ++ words after
words_apart before gap after e = rw (parts_apart before gap after e) (full_both (parts before) (parts after))

-- nothing else parts: a line without them is one word
abbrev pub has_no_gap : List ℕ → Bool
has_no_gap [] = true
has_no_gap (byte ∷ bytes) = not (is_gap byte) && has_no_gap bytes

one_part : (word : List ℕ) → has_no_gap word ≡ true → parts word ≡ word ∷ []
one_part [] e = refl
one_part (byte ∷ word) e = by_test (one_part word) (is_gap byte) e
  where
    by_test : (has_no_gap word ≡ true → parts word ≡ word ∷ []) → (t : Bool) → not t && has_no_gap word ≡ true
        → cond t ([] ∷ parts word) (joined byte (parts word)) ≡ (byte ∷ word) ∷ []
    by_test ih true e = cc
    by_test ih false e = rw (ih e)

pub word_alone : (byte : ℕ) (word : List ℕ) → has_no_gap (byte ∷ word) ≡ true → words (byte ∷ word) ≡ (byte ∷ word) ∷ []
word_alone byte word e = rw (one_part (byte ∷ word) e)

-- what parts and the bytes between them take of a line: a byte more for each than it has, as if one parted the last too
abbrev weight : List (List ℕ) → ℕ
weight [] = 0
weight (part ∷ more) = suc (length part) + weight more

parts_weigh : (line : List ℕ) → weight (parts line) ≡ suc (length line)
parts_weigh [] = refl
parts_weigh (byte ∷ bytes) = by_test (parts bytes) (parts_weigh bytes) (is_gap byte)
  where
    by_test : (ps : List (List ℕ)) → weight ps ≡ suc (length bytes) → (t : Bool) → weight (cond t ([] ∷ ps) (joined byte ps)) ≡ suc (suc (length bytes))
    by_test ps h true = omega arith
    by_test [] h false = omega arith
    by_test (p ∷ ps) h false = omega arith

words_weigh : (ps : List (List ℕ)) → 2 * length (full ps) ≤ weight ps
words_weigh [] = omega arith
words_weigh ([] ∷ ps) = omega (arith, words_weigh ps)
words_weigh ((byte ∷ part) ∷ ps) = omega (arith, words_weigh ps)

-- each word takes two bytes of its line, but for the last
pub words_few : (line : List ℕ) → 2 * length (words line) ≤ length line + 1
words_few line = omega (arith, words_weigh (parts line), parts_weigh line)
