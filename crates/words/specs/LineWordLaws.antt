-- Laws of words: where they start and end in their line, and how they are compared, byte by byte.
use Rattle.std.specs.Prelude.{ℕ, zero, suc, ◌+◌, ◌-◌, ◌<◌, ◌≤◌, ◌≡◌, refl, Bool, true, false, cond, ◌&&◌, not, List, [], ◌∷◌, map, leb, eqb, length}
use Rattle.std.specs.Prelude.{get_or, take, drop}
use Rattle.std.proofs.Common.{arith, ap, ◌∙◌, length-drop, drop_of_length-le, drop-drop, leb-true, leb-false, eq-eqb, ne_eqb, eqb-true}
use Rattle.std.proofs.Math.Bool.{and-false}
use Rattle.std.specs.List.{take_while}
use Rattle.std.proofs.lemmas.List.{length-map}
use Rattle.std.proofs.lemmas.List.Sums.{take_while-cons}
pub use Rattle.laws.specs.PlaceLaws.{from_here}
use Rattle.words.specs.declared.LineKind.TheVariants.{Silent, Clear, TooLong}
use Rattle.words.specs.LineWords.{is_gap, is_silent, kind_of, joined, parts, full, words, words_from, gap_length, word_length, last_end, lower, same}

-- spaces and tabs passed one by one
pub gap_goes_on : (line : List ℕ) (i : ℕ) → i < length line → is_gap (get_or line i 0) ≡ true → gap_length (drop i line) ≡ suc (gap_length (drop (i + 1) line))
gap_goes_on line i h e = rw (from_here line i h, e)

pub gap_stops : (line : List ℕ) (i : ℕ) → i < length line → is_gap (get_or line i 0) ≡ false → gap_length (drop i line) ≡ 0
gap_stops line i h e = rw (from_here line i h, e)

pub gap_out : (line : List ℕ) (i : ℕ) → length line ≤ i → gap_length (drop i line) ≡ 0
gap_out line i h = rw (drop_of_length-le line h)

-- the bytes of a word passed one by one
pub word_goes_on : (line : List ℕ) (i : ℕ) → i < length line → is_gap (get_or line i 0) ≡ false
    → word_length (drop i line) ≡ suc (word_length (drop (i + 1) line))
word_goes_on line i h e = rw (from_here line i h, e)

pub word_stops : (line : List ℕ) (i : ℕ) → i < length line → is_gap (get_or line i 0) ≡ true → word_length (drop i line) ≡ 0
word_stops line i h e = rw (from_here line i h, e)

pub word_out : (line : List ℕ) (i : ℕ) → length line ≤ i → word_length (drop i line) ≡ 0
word_out line i h = rw (drop_of_length-le line h)

-- the spaces and tabs before the first word, and the bytes of a word, as what is taken from the front
pub gap_length_is : (bytes : List ℕ) → gap_length bytes ≡ length (take_while is_gap bytes)
gap_length_is [] = refl
gap_length_is (byte ∷ bytes) = rw (take_while-cons is_gap byte bytes) (by_test (gap_length_is bytes) (is_gap byte))
  where
    by_test : gap_length bytes ≡ length (take_while is_gap bytes) → (t : Bool)
        → cond t (suc (gap_length bytes)) 0 ≡ length (cond t (byte ∷ take_while is_gap bytes) [])
    by_test h true = ap suc h
    by_test h false = refl

pub word_length_is : (bytes : List ℕ) → word_length bytes ≡ length (take_while (λ byte. not (is_gap byte)) bytes)
word_length_is [] = refl
word_length_is (byte ∷ bytes) = rw (take_while-cons (λ b. not (is_gap b)) byte bytes) (by_test (word_length_is bytes) (is_gap byte))
  where
    by_test : word_length bytes ≡ length (take_while (λ b. not (is_gap b)) bytes) → (t : Bool)
        → cond t 0 (suc (word_length bytes)) ≡ length (cond (not t) (byte ∷ take_while (λ b. not (is_gap b)) bytes) [])
    by_test h true = refl
    by_test h false = ap suc h

word_length_bound : (bytes : List ℕ) → word_length bytes ≤ length bytes
word_length_bound [] = omega arith
word_length_bound (byte ∷ bytes) = by_test (word_length_bound bytes) (is_gap byte)
  where
    by_test : word_length bytes ≤ length bytes → (t : Bool) → cond t 0 (suc (word_length bytes)) ≤ suc (length bytes)
    by_test h true = omega arith
    by_test h false = omega arith

-- spaces and tabs before the first word do not count
words_skip : (bytes : List ℕ) → words bytes ≡ words (drop (gap_length bytes) bytes)
words_skip [] = refl
words_skip (byte ∷ bytes) = by_test (words_skip bytes) (is_gap byte) refl
  where
    by_test : words bytes ≡ words (drop (gap_length bytes) bytes) → (t : Bool) → is_gap byte ≡ t
        → words (byte ∷ bytes) ≡ words (drop (gap_length (byte ∷ bytes)) (byte ∷ bytes))
    by_test h true e = rw e h
    by_test h false e = rw (e, e)

-- what comes before the first word is passed
word_begins : (bytes : List ℕ) → gap_length bytes < length bytes → 0 < word_length (drop (gap_length bytes) bytes)
word_begins [] h = omega arith
word_begins (byte ∷ bytes) h = by_test (word_begins bytes) (is_gap byte) refl
  where
    by_test : (gap_length bytes < length bytes → 0 < word_length (drop (gap_length bytes) bytes)) → (t : Bool) → is_gap byte ≡ t
        → 0 < word_length (drop (gap_length (byte ∷ bytes)) (byte ∷ bytes))
    by_test ih true e = rw e (ih (omega (arith, rw e at h)))
    by_test ih false e = rw (e, e) (omega arith)

-- the parts behind the first
abbrev behind : List ℕ → List (List ℕ)
behind [] = []
behind (byte ∷ bytes) = cond (is_gap byte) (parts bytes) (behind bytes)

parts_cut : (bytes : List ℕ) → parts bytes ≡ take (word_length bytes) bytes ∷ behind bytes
parts_cut [] = refl
parts_cut (byte ∷ bytes) = by_test (parts_cut bytes) (is_gap byte)
  where
    by_test : parts bytes ≡ take (word_length bytes) bytes ∷ behind bytes → (t : Bool)
        → cond t ([] ∷ parts bytes) (joined byte (parts bytes)) ≡ take (cond t 0 (suc (word_length bytes))) (byte ∷ bytes) ∷ cond t (parts bytes) (behind bytes)
    by_test h true = refl
    by_test h false = rw h

behind_words : (bytes : List ℕ) → full (behind bytes) ≡ words (drop (word_length bytes) bytes)
behind_words [] = refl
behind_words (byte ∷ bytes) = by_test (behind_words bytes) (is_gap byte) refl
  where
    by_test : full (behind bytes) ≡ words (drop (word_length bytes) bytes) → (t : Bool) → is_gap byte ≡ t
        → full (behind (byte ∷ bytes)) ≡ words (drop (word_length (byte ∷ bytes)) (byte ∷ bytes))
    by_test h true e = rw (e, e)
    by_test h false e = rw e h

-- the first word and the words behind it
first_word : (bytes : List ℕ) → 0 < word_length bytes → words bytes ≡ take (word_length bytes) bytes ∷ words (drop (word_length bytes) bytes)
first_word [] h = absurd (omega arith)
first_word (byte ∷ bytes) h = by_test (is_gap byte) refl
  where
    by_test : (t : Bool) → is_gap byte ≡ t
        → words (byte ∷ bytes) ≡ take (word_length (byte ∷ bytes)) (byte ∷ bytes) ∷ words (drop (word_length (byte ∷ bytes)) (byte ∷ bytes))
    by_test true e = absurd (omega (arith, rw e at h))
    by_test false e = rw (e, parts_cut bytes) (ap (λ (ws : List (List ℕ)). (byte ∷ take (word_length bytes) bytes) ∷ ws) (behind_words bytes))

-- a word of a line by its places: it starts behind the spaces and tabs at a place, and stops where its bytes end
module _ (line : List ℕ) (at start : ℕ) (p : start ≡ at + gap_length (drop at line)) where
  from_start : words_from line at ≡ words_from line start
  from_start = words_skip (drop at line) ∙ rw (drop-drop (gap_length (drop at line)) at line, p)

  pub no_word : length line ≤ start → words_from line at ≡ []
  no_word h = from_start ∙ rw (drop_of_length-le line h)

  begins : start < length line → 0 < word_length (drop start line)
  begins h =
      let inside : gap_length (drop at line) < length (drop at line) = omega (arith, length-drop at line) in
      rw (p, ← drop-drop (gap_length (drop at line)) at line) (word_begins (drop at line) inside)

  pub word_bounds : (stop : ℕ) → start < length line → stop ≡ start + word_length (drop start line) → (at ≤ start) × (start < stop) × (stop ≤ length line)
  word_bounds stop h q = (omega arith, omega (arith, begins h), omega (arith, word_length_bound (drop start line), length-drop start line))

  pub next_word : (stop : ℕ) → start < length line → stop ≡ start + word_length (drop start line)
      → words_from line at ≡ take (stop - start) (drop start line) ∷ words_from line stop
  next_word stop h q =
      let size : stop - start ≡ word_length (drop start line) = omega arith in
      from_start ∙ first_word (drop start line) (begins h) ∙ rw (drop-drop (word_length (drop start line)) start line, size, q)

-- a line whose last word is known: nothing but spaces and tabs comes behind it
last_of_none : (bytes : List ℕ) → length bytes ≤ gap_length bytes → last_end bytes ≡ 0
last_of_none [] h = refl
last_of_none (byte ∷ bytes) h = by_test (last_of_none bytes) (is_gap byte) refl
  where
    by_test : (length bytes ≤ gap_length bytes → last_end bytes ≡ 0) → (t : Bool) → is_gap byte ≡ t → last_end (byte ∷ bytes) ≡ 0
    by_test ih true e = rw (e, ih (omega (arith, rw e at h)))
    by_test ih false e = absurd (omega (arith, rw e at h))

last_of_one : (bytes : List ℕ) → length (drop (word_length bytes) bytes) ≤ gap_length (drop (word_length bytes) bytes) → last_end bytes ≡ word_length bytes
last_of_one [] h = refl
last_of_one (byte ∷ bytes) h = by_test (last_of_one bytes) (is_gap byte) refl
  where
    by_test : (length (drop (word_length bytes) bytes) ≤ gap_length (drop (word_length bytes) bytes) → last_end bytes ≡ word_length bytes) → (t : Bool)
        → is_gap byte ≡ t → last_end (byte ∷ bytes) ≡ word_length (byte ∷ bytes)
    by_test ih true e = last_of_none (byte ∷ bytes) (rw e at h) ∙ rw e
    by_test ih false e = rw (e, ih (rw e at h))

last_behind : (line : List ℕ) (at : ℕ) → 0 < last_end (drop at line) → last_end line ≡ at + last_end (drop at line)
last_behind line zero h = omega arith
last_behind [] (suc at) h = absurd (omega arith)
last_behind (byte ∷ bytes) (suc at) h =
    let ih = last_behind bytes at h in
    let some : last_end bytes ≡ 0 → ⊥ = λ e. omega (arith, ih, h, e) in
    rw (ne_eqb (last_end bytes) 0 some, and-false) (omega (arith, ih))

pub last_end_lem : (line : List ℕ) (at start close : ℕ) → start ≡ at + gap_length (drop at line) → start < length line
    → close ≡ start + word_length (drop start line)
    → length line ≤ close + gap_length (drop close line) → last_end line ≡ close
last_end_lem line at start close p h q none =
    let behind = drop-drop (word_length (drop start line)) start line in
    let rest : length (drop (word_length (drop start line)) (drop start line)) ≤ gap_length (drop (word_length (drop start line)) (drop start line)) =
    rw (behind, ← q) (omega (arith, length-drop close line)) in
    let last = last_of_one (drop start line) rest in
    last_behind line start (omega (arith, last, begins line at start p h)) ∙ omega (arith, last)

pub none_behind : (line : List ℕ) (at : ℕ) → words_from line at ≡ [] → length line ≤ at + gap_length (drop at line)
none_behind line at e = by_test (leb (length line) start) refl
  where
    start : ℕ
    start = at + gap_length (drop at line)

    by_test : (t : Bool) → leb (length line) start ≡ t → length line ≤ start
    by_test true q = leb-true (length line) start q
    by_test false q = let cut = next_word line at start refl (start + word_length (drop start line)) (leb-false (length line) start q) refl in cc (e, cut)

-- comparing a word with a name byte by byte
pub same_goes_on : (word name : List ℕ) (i : ℕ) → i < length word → i < length name → lower (get_or word i 0) ≡ get_or name i 0
    → same (drop i word) (drop i name) ≡ same (drop (i + 1) word) (drop (i + 1) name)
same_goes_on word name i h g e = rw (from_here word i h, from_here name i g, eq-eqb _ _ e)

pub same_differs : (word name : List ℕ) (i : ℕ) → i < length word → i < length name → (lower (get_or word i 0) ≡ get_or name i 0 → ⊥)
    → same (drop i word) (drop i name) ≡ false
same_differs word name i h g e = rw (from_here word i h, from_here name i g, ne_eqb _ _ e)

pub same_ends : (word name : List ℕ) (i : ℕ) → length word ≤ i → length name ≤ i → same (drop i word) (drop i name) ≡ true
same_ends word name i h g = rw (drop_of_length-le word h, drop_of_length-le name g)

-- a word is a name where it is that name but for its case, and nowhere else
pub same_equal : (word name : List ℕ) → same word name ≡ true → map lower word ≡ name
same_equal [] [] e = refl
same_equal [] (b ∷ name) e = cc
same_equal (a ∷ word) [] e = cc
same_equal (a ∷ word) (b ∷ name) e = by_test (same_equal word name) (eqb (lower a) b) refl e
  where
    by_test : (same word name ≡ true → map lower word ≡ name) → (t : Bool) → eqb (lower a) b ≡ t → t && same word name ≡ true → map lower (a ∷ word) ≡ b ∷ name
    by_test ih true p q = cc (eqb-true (lower a) b p, ih q)
    by_test ih false p q = cc

pub equal_same : (word : List ℕ) → same word (map lower word) ≡ true
equal_same [] = refl
equal_same (a ∷ word) = rw (eq-eqb (lower a) (lower a) refl, equal_same word)

pub same_length : (word name : List ℕ) → (length word ≡ length name → ⊥) → same word name ≡ false
same_length word name h = by_test (same word name) refl
  where
    by_test : (t : Bool) → same word name ≡ t → t ≡ false
    by_test true e = absurd (h (omega (arith, length-map word lower, ap length (same_equal word name e))))
    by_test false e = refl

-- the byte that the first word begins with tells whether a line asks anything
silent_skip : (bytes : List ℕ) → is_silent bytes ≡ is_silent (drop (gap_length bytes) bytes)
silent_skip [] = refl
silent_skip (byte ∷ bytes) = by_test (silent_skip bytes) (is_gap byte) refl
  where
    by_test : is_silent bytes ≡ is_silent (drop (gap_length bytes) bytes) → (t : Bool) → is_gap byte ≡ t
        → is_silent (byte ∷ bytes) ≡ is_silent (drop (gap_length (byte ∷ bytes)) (byte ∷ bytes))
    by_test h true e = rw e h
    by_test h false e = rw (e, e)

gap_ends : (bytes : List ℕ) → gap_length bytes < length bytes → is_gap (get_or bytes (gap_length bytes) 0) ≡ false
gap_ends [] h = absurd (omega arith)
gap_ends (byte ∷ bytes) h = by_test (gap_ends bytes) (is_gap byte) refl
  where
    by_test : (gap_length bytes < length bytes → is_gap (get_or bytes (gap_length bytes) 0) ≡ false) → (t : Bool) → is_gap byte ≡ t
        → is_gap (get_or (byte ∷ bytes) (gap_length (byte ∷ bytes)) 0) ≡ false
    by_test ih true e = rw e (ih (omega (arith, rw e at h)))
    by_test ih false e = rw (e, e)

pub silent_empty : (line : List ℕ) (start : ℕ) → start ≡ 0 + gap_length (drop 0 line) → length line ≤ start → is_silent line ≡ true
silent_empty line start p h =
    let all : length line ≤ gap_length line = omega arith in
    let none : drop (gap_length line) line ≡ [] = drop_of_length-le line all in
    silent_skip line ∙ rw none

pub silent_first : (line : List ℕ) (start : ℕ) → start ≡ 0 + gap_length (drop 0 line) → start < length line → is_silent line ≡ eqb (get_or line start 0) 35
silent_first line start p h =
    let here : start ≡ gap_length line = omega arith in
    let word = gap_ends line (omega arith) in
    silent_skip line ∙ rw (from_here line (gap_length line) (omega arith), word, here)

-- a line that is clear has room in a buffer of 4,096 bytes
pub clear_short : (line : List ℕ) → kind_of line ≡ Clear → length line ≤ 4096
unfolding kind_of
clear_short line e = by_test (is_silent line) (leb (length line) 4096) refl e
  where
    by_test : (t u : Bool) → leb (length line) 4096 ≡ u → cond t Silent (cond u Clear TooLong) ≡ Clear → length line ≤ 4096
    by_test true u p e = let z : ◌≡◌ {A = ℕ} 0 1 = cc in omega arith
    by_test false true p e = leb-true (length line) 4096 p
    by_test false false p e = let z : ◌≡◌ {A = ℕ} 0 1 = cc in omega arith
