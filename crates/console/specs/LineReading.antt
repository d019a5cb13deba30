-- The desk's language: what is promised of reading lines, over whatever bytes the reads have brought.
use Rattle.std.specs.Prelude.{ℕ, suc, ◌+◌, ◌-◌, ◌^◌, ◌≤◌, ◌≡◌, Bool, true, false, cond, ◌&&◌, List, [], ◌∷◌, ◌++◌, eqb, length, take, drop}
use Rattle.console.specs.declared.Cut.{Cut}
use Rattle.console.specs.declared.Input.{Input}
use Rattle.console.specs.declared.Input.TheVariants.{Line, Last}
use Rattle.console.specs.InputLines.{first_line, has_ended, left_over}
use Rattle.console.specs.Holding.{held, held_on, held_of}

-- the promise of one byte more, in a buffer of which so many bytes are held; what lies behind those is left alone
pub record HoldMeets (before : List ℕ) (had byte r : ℕ) (after : List ℕ) : Type 0 where
  pub more : had ≤ r
  pub within : r ≤ length before
  pub line : take r after ≡ held (length before) (take had before) byte
  pub rest : drop r after ≡ drop r before

-- the promise of cutting bytes at the first line end, behind what is held of the line already
pub record CutMeets (bytes before : List ℕ) (had : ℕ) (r : Cut) (after : List ℕ) : Type 0 where
  pub ended : r.ended ≡ has_ended bytes
  pub taken : r.taken ≡ length (first_line bytes) + cond (has_ended bytes) 1 0
  pub none : r.none ≡ eqb (length bytes) 0
  pub more : had ≤ r.held
  pub within : r.held ≤ length after
  pub line : take r.held after ≡ held_on (length before) (take had before) (first_line bytes)
  pub rest : drop r.held after ≡ drop r.held before

-- the bytes that were read and not yet taken
abbrev pub unread_of : List ℕ → ℕ → ℕ → List ℕ
unread_of source at end = take (end - at) (drop at source)

abbrev pub held_bytes : Input → ℕ
held_bytes (Line n) = n
held_bytes (Last n) = n

abbrev pub is_last : Input → Bool
is_last (Line n) = false
is_last (Last n) = true

-- ---- reads, and what each of them has brought, the latest first
abbrev pub all_brought : List (List ℕ) → List ℕ
all_brought [] = []
all_brought (piece ∷ earlier) = all_brought earlier ++ piece

abbrev pub each_brought : List (List ℕ) → Bool
each_brought [] = true
each_brought (piece ∷ earlier) = cond (eqb (length piece) 0) false (each_brought earlier)

-- a line has a budget of reads, which no input uses up
unfoldable pub most_reads : ℕ
most_reads = 2 ^ 64 - 1

-- "A read that brings nothing ends the input", however little one brings, "and nothing is read after it"
abbrev pub ends_input : List (List ℕ) → Bool
ends_input [] = false
ends_input (piece ∷ earlier) = each_brought earlier && cond (eqb (length piece) 0) true (eqb (suc (length earlier)) most_reads)

-- nothing is read while a line is there
abbrev pub Needed : List ℕ → List (List ℕ) → Type 0
Needed unread [] = Unit {0}
Needed unread (piece ∷ earlier) = has_ended (unread ++ all_brought earlier) ≡ false

-- the latest read's bytes stand at the front of the source, up to an end; with no read the source is as it was
abbrev pub Stands : List (List ℕ) → List ℕ → List ℕ → ℕ → Type 0
Stands [] source after end = after ≡ source
Stands (piece ∷ earlier) source after end = piece ≡ take end after

-- the promise of the next line: of the bytes that were unread and those that reads have brought since, the first line is at the front of the buffer and
-- what lies behind it is unread, up to an end in the source; or none of them ends a line, the input has ended, and they are the last line
pub record NextMeets (source unread before : List ℕ) (r : Input) (left : List ℕ) (end : ℕ) (after buffer : List ℕ) : Type 0 where
  pub reads : List (List ℕ)
  pub came : cond (is_last r) (ends_input reads) (each_brought reads) ≡ true
  pub needed : Needed unread reads
  pub stands : is_last r ≡ false → Stands reads source left end
  pub ended : has_ended (unread ++ all_brought reads) ≡ cond (is_last r) false true
  pub behind : after ≡ left_over (unread ++ all_brought reads)
  pub within : held_bytes r ≤ length buffer
  pub line : take (held_bytes r) buffer ≡ held_of (length buffer) (first_line (unread ++ all_brought reads))
  pub rest : drop (held_bytes r) buffer ≡ drop (held_bytes r) before
