-- Laws of case: it does not matter, whether a word is a name, where words are parted, nor whether a line is silent.
use Rattle.std.specs.Prelude.{ℕ, ◌+◌, ◌≤◌, ◌<◌, ◌≡◌, refl, Bool, true, false, cond, List, [], ◌∷◌, map, leb, eqb, length, ◌==◌}
use Rattle.std.proofs.Common.{arith, ap, sym, ◌∙◌, le-leb, leb-true, leb-false, ne_eqb}
use Rattle.std.proofs.Math.Bool.{and-false}
use Rattle.std.proofs.lemmas.List.{length-map}
use Rattle.std.proofs.lemmas.Bool.{lt-leb}
use Rattle.std.specs.Char.{to_ascii_lowercase}
use Rattle.std.specs.List.{list_all, zip}
use Rattle.std.proofs.lemmas.Str.Ascii.{lowercase_is}
use Rattle.words.specs.LineWords.{is_gap, is_silent, kind_of, joined, parts, full, words, last_end, lower, same}

-- a byte is a capital, which becomes another byte, or stays
lower_cases : (byte : ℕ) → (65 ≤ byte → byte ≤ 90 → lower byte ≡ byte + 32) × ((byte < 65 → lower byte ≡ byte) × (90 < byte → lower byte ≡ byte))
unfolding lower
lower_cases byte = (λ l h. rw (le-leb 65 byte l, le-leb byte 90 h), (λ h. rw (lt-leb 65 byte h), λ h. rw (lt-leb byte 90 h, and-false)))

-- what holds of a capital's small letter, and of any byte that is none
pub by_case : (P : ℕ → Type 0) (byte : ℕ) → (65 ≤ byte → byte ≤ 90 → P (byte + 32)) → ((byte < 65 → P byte) × (90 < byte → P byte)) → P (lower byte)
by_case P byte capital other = by_test (leb 65 byte) (leb byte 90) refl refl
  where
    by_test : (t u : Bool) → leb 65 byte ≡ t → leb byte 90 ≡ u → P (lower byte)
    by_test true true p q = rw ((lower_cases byte).0 (leb-true 65 byte p) (leb-true byte 90 q)) (capital (leb-true 65 byte p) (leb-true byte 90 q))
    by_test false u p q = rw ((lower_cases byte).1.0 (leb-false 65 byte p)) (other.0 (leb-false 65 byte p))
    by_test true false p q = rw ((lower_cases byte).1.1 (leb-false byte 90 q)) (other.1 (leb-false byte 90 q))

-- small letters stay
pub lower_lower : (byte : ℕ) → lower (lower byte) ≡ lower byte
lower_lower byte =
    by_case (λ b. lower b ≡ b) byte
    (λ l h. (lower_cases (byte + 32)).1.1 (omega arith))
    (λ h. (lower_cases byte).1.0 h, λ h. (lower_cases byte).1.1 h)

pub same_lower : (word name : List ℕ) → same (map lower word) name ≡ same word name
same_lower [] [] = refl
same_lower [] (b ∷ name) = refl
same_lower (a ∷ word) [] = refl
same_lower (a ∷ word) (b ∷ name) = rw (lower_lower a, same_lower word name)

-- as the library makes small letters, and compares byte by byte
lower_is : (byte : ℕ) → lower byte ≡ to_ascii_lowercase byte
lower_is byte =
    let known = lowercase_is byte in
    by_case (λ b. b ≡ to_ascii_lowercase byte) byte (λ l h. sym (known.0 (l, h))) (λ h. sym (known.1 h), λ h. sym (known.2 h))

pub same_is : (word name : List ℕ) → length word ≡ length name → same word name ≡ list_all (λ pair. to_ascii_lowercase pair.0 == pair.1) (zip word name)
same_is [] [] h = refl
same_is [] (b ∷ name) h = absurd (omega (arith, h))
same_is (a ∷ word) [] h = absurd (omega (arith, h))
same_is (a ∷ word) (b ∷ name) h = rw (lower_is a, same_is word name (omega (arith, h)))

-- a space, a tab and `#` are no letters
no_letter : (byte n : ℕ) → n < 65 → eqb (lower byte) n ≡ eqb byte n
no_letter byte n s =
    by_case (λ b. eqb b n ≡ eqb byte n) byte
    (λ l h. ne_eqb (byte + 32) n (λ e. omega (arith, l, s, e)) ∙ sym (ne_eqb byte n (λ e. omega (arith, l, s, e))))
    (λ h. refl, λ h. refl)

pub gap_lower : (byte : ℕ) → is_gap (lower byte) ≡ is_gap byte
unfolding is_gap
gap_lower byte = rw (no_letter byte 32 (omega arith), no_letter byte 9 (omega arith))

silent_lower : (line : List ℕ) → is_silent (map lower line) ≡ is_silent line
silent_lower [] = refl
silent_lower (byte ∷ line) = rw (gap_lower byte, no_letter byte 35 (omega arith), silent_lower line)

pub kind_lower : (line : List ℕ) → kind_of (map lower line) ≡ kind_of line
unfolding kind_of
kind_lower line = rw (silent_lower line, length-map line lower)

joined_lower : (byte : ℕ) (ps : List (List ℕ)) → joined (lower byte) (map (map lower) ps) ≡ map (map lower) (joined byte ps)
joined_lower byte [] = refl
joined_lower byte (p ∷ ps) = refl

parts_lower : (line : List ℕ) → parts (map lower line) ≡ map (map lower) (parts line)
parts_lower [] = refl
parts_lower (byte ∷ line) = by_test (parts_lower line) (is_gap byte) (gap_lower byte)
  where
    by_test : parts (map lower line) ≡ map (map lower) (parts line) → (t : Bool) → is_gap (lower byte) ≡ t
        → cond (is_gap (lower byte)) ([] ∷ parts (map lower line)) (joined (lower byte) (parts (map lower line)))
        ≡ map (map lower) (cond t ([] ∷ parts line) (joined byte (parts line)))
    by_test h true e = rw (e, h)
    by_test h false e = rw (e, h) (joined_lower byte (parts line))

full_lower : (ps : List (List ℕ)) → full (map (map lower) ps) ≡ map (map lower) (full ps)
full_lower [] = refl
full_lower ([] ∷ ps) = full_lower ps
full_lower ((byte ∷ part) ∷ ps) = ap (λ (ws : List (List ℕ)). map lower (byte ∷ part) ∷ ws) (full_lower ps)

-- the words of a line in small letters are its words in small letters
pub words_lower : (line : List ℕ) → words (map lower line) ≡ map (map lower) (words line)
words_lower line = rw (parts_lower line) (full_lower (parts line))

pub last_end_lower : (line : List ℕ) → last_end (map lower line) ≡ last_end line
last_end_lower [] = refl
last_end_lower (byte ∷ line) = rw (gap_lower byte, last_end_lower line)
