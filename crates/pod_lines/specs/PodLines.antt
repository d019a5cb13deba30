-- The desk's language: the lines of `pod`.
use Rattle.std.specs.Prelude.{ℕ, ◌≡◌, cond, List, [], ◌∷◌, length, None, Some, Option, Err, Ok, Result}
use Rattle.requests.specs.declared.Request.{Request}
use Rattle.words.specs.declared.LineKind.{LineKind}
use Rattle.words.specs.declared.LineKind.TheVariants.{Silent, Clear, TooLong}
use Rattle.pod_lines.specs.declared.NotTaken.{NotTaken}
use Rattle.pod_lines.specs.declared.NotTaken.TheVariants.{TooMany, NotAllNumbers}
use Rattle.words.specs.LineWords.{ascii, kind_of, words, same}
use Rattle.words.specs.NameTable.{row, found}
use Rattle.pod_lines.specs.Taking.{counted, taken, buffer_after}
use Rattle.pod_lines.specs.declared.PodLine.{PodLine}
use Rattle.pod_lines.specs.declared.PodLine.TheVariants.{Nothing, Build, Read, BufferTooShort, Unclear}
use Rattle.request_lines.specs.RequestLines.{request_of}

-- what a line means: a reading has the reply words as they were typed
pub data Meaning : Type 0 where
  nothing : Meaning
  builds : Request → Meaning
  reads : Request → List (List ℕ) → Meaning
  unclear : Meaning

-- the words before the colon, and those behind it where there is one
abbrev pub before_colon : List (List ℕ) → List (List ℕ)
before_colon [] = []
before_colon (word ∷ rest) = cond (same word (ascii ":")) [] (word ∷ before_colon rest)

abbrev pub after_colon : List (List ℕ) → Option (List (List ℕ))
after_colon [] = None
after_colon (word ∷ rest) = cond (same word (ascii ":")) (Some rest) (after_colon rest)

-- `build REQUEST`
abbrev pub build_line : Option Request → Meaning
build_line (Some request) = builds request
build_line None = unclear

-- `read REQUEST : X X ..`; "The words of `read` may be none."
abbrev pub read_line : Option Request → Option (List (List ℕ)) → Meaning
read_line (Some request) (Some replies) = reads request replies
read_line (Some request) None = unclear
read_line None replies = unclear

unfoldable pub pod_words : List (List ℕ) → Meaning
pod_words [] = unclear
pod_words (name ∷ rest) =
    found unclear name (row (ascii "build") (build_line (request_of rest))
    ∷ row (ascii "read") (read_line (request_of (before_colon rest)) (after_colon rest))
    ∷ [])

abbrev pub pod_at : LineKind → List ℕ → Meaning
pod_at Silent line = nothing
pod_at Clear line = pod_words (words line)
pod_at TooLong line = unclear

unfoldable pub pod_meaning : List ℕ → Meaning
pod_meaning line = pod_at (kind_of line) line

-- the reply words as numbers of 32 bits, into a buffer that has room for them
abbrev pub read_answer : Request → Result ℕ NotTaken → PodLine
read_answer request (Ok n) = Read request n
read_answer request (Err TooMany) = BufferTooShort
read_answer request (Err NotAllNumbers) = Unclear

abbrev pub answered : Meaning → ℕ → PodLine
answered nothing room = Nothing
answered (builds request) room = Build request
answered (reads request replies) room = read_answer request (taken (counted replies) room)
answered unclear room = Unclear

-- the numbers at the front of the buffer; it stays as it was where no reading is answered
abbrev pub buffer_of : Meaning → List ℕ → List ℕ
buffer_of nothing before = before
buffer_of (builds request) before = before
buffer_of (reads request replies) before = buffer_after (taken (counted replies) (length before)) replies before
buffer_of unclear before = before

-- the promise of reading a line of `pod`
pub record PodMeets (meaning : Meaning) (before : List ℕ) (r : PodLine) (after : List ℕ) : Type 0 where
  pub answer : r ≡ answered meaning (length before)
  pub buffer : after ≡ buffer_of meaning before
