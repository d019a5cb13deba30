-- Laws of lines: cut one after the other, on whatever bytes have come, they are the lines of the input.
use Rattle.std.specs.Prelude.{ℕ, ◌+◌, ◌<◌, ◌≤◌, ◌≡◌, refl, Bool, true, false, cond, List, [], ◌∷◌, ◌++◌, length, get_or, drop}
use Rattle.std.proofs.Common.{add-one, ap, drop_of_length-le}
use Rattle.words.specs.LineWordLaws.{from_here}
use Rattle.words.specs.LineWords.{joined}
use Rattle.console.specs.InputLines.{is_line_end, lines_of, first_line, has_ended, left_over}

-- the last line, whose end is that of the input
pub lines_end : (bytes : List ℕ) → has_ended bytes ≡ false → lines_of bytes ≡ bytes ∷ []
lines_end [] e = refl
lines_end (byte ∷ bytes) e = by_test (lines_end bytes) (is_line_end byte) e
  where
    by_test : (has_ended bytes ≡ false → lines_of bytes ≡ bytes ∷ []) → (t : Bool) → cond t true (has_ended bytes) ≡ false
        → cond t ([] ∷ lines_of bytes) (joined byte (lines_of bytes)) ≡ (byte ∷ bytes) ∷ []
    by_test ih true e = cc
    by_test ih false e = rw (ih e)

-- .. and which takes all of them
pub open_line : (bytes : List ℕ) → has_ended bytes ≡ false → (first_line bytes ≡ bytes) × (left_over bytes ≡ [])
open_line [] e = (refl, refl)
open_line (byte ∷ bytes) e = by_test (open_line bytes) (is_line_end byte) e
  where
    by_test : (has_ended bytes ≡ false → (first_line bytes ≡ bytes) × (left_over bytes ≡ [])) → (t : Bool) → cond t true (has_ended bytes) ≡ false
        → (cond t [] (byte ∷ first_line bytes) ≡ byte ∷ bytes) × (cond t bytes (left_over bytes) ≡ [])
    by_test ih true e = (cc, cc)
    by_test ih false e = (ap (λ (l : List ℕ). byte ∷ l) (ih e).0, (ih e).1)

-- bytes that have come in pieces: a piece without a line end goes on with the line of the next
pub pieces_join : (piece more : List ℕ) → has_ended piece ≡ false
    → (first_line (piece ++ more) ≡ piece ++ first_line more) × (has_ended (piece ++ more) ≡ has_ended more) × (left_over (piece ++ more) ≡ left_over more)
pieces_join [] more e = (refl, refl, refl)
pieces_join (byte ∷ piece) more e = by_test (pieces_join piece more) (is_line_end byte) refl e
  where
    by_test : (has_ended piece ≡ false
        → (first_line (piece ++ more) ≡ piece ++ first_line more) × (has_ended (piece ++ more) ≡ has_ended more) × (left_over (piece ++ more) ≡ left_over more))
        → (t : Bool) → is_line_end byte ≡ t → cond t true (has_ended piece) ≡ false
        → (cond t [] (byte ∷ first_line (piece ++ more)) ≡ byte ∷ piece ++ first_line more)
        × (cond t true (has_ended (piece ++ more)) ≡ has_ended more)
        × (cond t (piece ++ more) (left_over (piece ++ more)) ≡ left_over more)
    by_test ih true p e = (cc, cc, cc)
    by_test ih false p e = (ap (λ (l : List ℕ). byte ∷ l) (ih e).0, (ih e).1, (ih e).2)

-- a line's bytes passed one by one
pub line_goes_on : (bytes : List ℕ) (i : ℕ) → i < length bytes → is_line_end (get_or bytes i 0) ≡ false
    → (first_line (drop i bytes) ≡ get_or bytes i 0 ∷ first_line (drop (i + 1) bytes)) × (has_ended (drop i bytes) ≡ has_ended (drop (i + 1) bytes))
line_goes_on bytes i h e = (rw (from_here bytes i h, e), rw (from_here bytes i h, e))

pub line_stops : (bytes : List ℕ) (i : ℕ) → i < length bytes → is_line_end (get_or bytes i 0) ≡ true
    → (first_line (drop i bytes) ≡ []) × (has_ended (drop i bytes) ≡ true)
line_stops bytes i h e = (rw (from_here bytes i h, e), rw (from_here bytes i h, e))

pub line_out : (bytes : List ℕ) (i : ℕ) → length bytes ≤ i → (first_line (drop i bytes) ≡ []) × (has_ended (drop i bytes) ≡ false)
line_out bytes i h = (rw (drop_of_length-le bytes h), rw (drop_of_length-le bytes h))

-- what is left lies behind the line and its end
pub left_behind : (bytes : List ℕ) → has_ended bytes ≡ true → drop (length (first_line bytes) + 1) bytes ≡ left_over bytes
left_behind [] e = cc
left_behind (byte ∷ bytes) e = rw (add-one (length (first_line (byte ∷ bytes)))) (by_test (left_behind bytes) (is_line_end byte) e)
  where
    by_test : (has_ended bytes ≡ true → drop (length (first_line bytes) + 1) bytes ≡ left_over bytes) → (t : Bool) → cond t true (has_ended bytes) ≡ true
        → drop (length (cond t [] (byte ∷ first_line bytes))) bytes ≡ cond t bytes (left_over bytes)
    by_test ih true e = refl
    by_test ih false e = rw (add-one (length (first_line bytes))) at (ih e)

-- a line that has ended, and what came behind it, whatever comes yet
pub ended_line : (bytes more : List ℕ) → has_ended bytes ≡ true → lines_of (bytes ++ more) ≡ first_line bytes ∷ lines_of (left_over bytes ++ more)
ended_line [] more e = cc
ended_line (byte ∷ bytes) more e = by_test (ended_line bytes more) (is_line_end byte) e
  where
    by_test : (has_ended bytes ≡ true → lines_of (bytes ++ more) ≡ first_line bytes ∷ lines_of (left_over bytes ++ more)) → (t : Bool)
        → cond t true (has_ended bytes) ≡ true
        → cond t ([] ∷ lines_of (bytes ++ more)) (joined byte (lines_of (bytes ++ more)))
        ≡ cond t [] (byte ∷ first_line bytes) ∷ lines_of (cond t bytes (left_over bytes) ++ more)
    by_test ih true e = refl
    by_test ih false e = rw (ih e)
