-- What `unmend` makes of an input and says of it (docs/mend.md): a list, and behind it the trace that was mended.
use Rattle.std.specs.Prelude.{◌≡◌, ℕ, ◌-◌, Bool, cond, ◌&&◌, Result, Ok, Err, List, ◌++◌, ltb, eqb, length, take, drop}
use Rattle.std.proofs.lemmas.List.Edits.{sets}
use Rattle.text.specs.Text.{ascii, Puts}
use Rattle.refusal_text.specs.RefusalText.{unclear_text}
use Rattle.mend_text.specs.MendText.{counts_line}
use Rattle.list_lines.specs.ListLines.{ListIn, list_in}
use Rattle.unmending.specs.Unmending.{put_back, is_its_list}
use Rattle.unmend_text.specs.declared.Recorded.{Recorded}
use Rattle.unmend_text.specs.declared.NotUnmended.{NotUnmended}
use Rattle.unmend_text.specs.declared.NotUnmended.TheVariants.{Unclear, NotItsList}
use Rattle.unmend_text.specs.declared.UnmendSaid.{UnmendSaid}

-- the trace as it was recorded begins there, and so many of its cycles had been changed
abbrev pub recorded_at : ℕ → ℕ → Result Recorded NotUnmended
recorded_at from changed = Ok (record { from = from; changed = changed })

-- "the list is the one that `mend` printed with this very trace": the trace has N bytes, and the list is its
abbrev pub taken_by : List ℕ → ListIn → Result Recorded NotUnmended
taken_by input list =
    cond list.clear
    (cond (eqb (length input - list.from) list.cycles && is_its_list (drop list.from input) list.words)
    (recorded_at list.from list.changed)
    (Err NotItsList))
    (Err Unclear)

-- "An input of more than 700,000 bytes is `unclear`"; what it comes to, where there is room for so many words
unfoldable pub unmended : ℕ → List ℕ → Result Recorded NotUnmended
unmended room input = cond (ltb 700000 (length input)) (Err Unclear) (taken_by input (list_in room input))

-- "the trace as it was recorded", in its place behind the list; else the input stays
abbrev pub input_after : ℕ → List ℕ → Result Recorded NotUnmended → List ℕ
input_after room input (Ok r) = take r.from input ++ put_back (drop r.from input) (list_in room input).words
input_after room input (Err e) = input

-- the words of the list are put into their buffer as far as they are read, but for an input that is too long
abbrev pub words_after : List ℕ → List ℕ → List ℕ
words_after input before = cond (ltb 700000 (length input)) before (sets before 0 (list_in (length before) input).words)

abbrev pub reason_text : NotUnmended → List ℕ
reason_text Unclear = unclear_text ++ ascii "\n"
reason_text NotItsList = ascii "not-its-list\n"

-- what is said: `unmended cycles=N changed=K`, `unclear` or `not-its-list`
abbrev pub unmend_told : ℕ → Result Recorded NotUnmended → List ℕ
unmend_told bytes (Ok r) = counts_line (ascii "unmended") (bytes - r.from) r.changed
unmend_told bytes (Err reason) = reason_text reason

-- where the bytes for standard output begin: at the input's end where there are none
abbrev pub written_from : ℕ → Result Recorded NotUnmended → ℕ
written_from bytes (Ok r) = r.from
written_from bytes (Err e) = bytes

-- the bytes from a place on, unmended where the list is theirs
pub record BehindMeets (input : List ℕ) (from : ℕ) (words : List ℕ) (r : Bool) (after : List ℕ) : Type 0 where
  pub answer : r ≡ is_its_list (drop from input) words
  pub bytes : after ≡ cond (is_its_list (drop from input) words) (take from input ++ put_back (drop from input) words) input

-- what unmending an input promises, for every input and every buffer
pub record UnmendedMeets (input words : List ℕ) (r : Result Recorded NotUnmended) (input' words' : List ℕ) : Type 0 where
  pub answer : r ≡ unmended (length words) input
  pub bytes : input' ≡ input_after (length words) input (unmended (length words) input)
  pub list : words' ≡ words_after input words

-- and all that is said of it
pub record UnmendTells (text input words : List ℕ) (r : UnmendSaid) (text' input' words' : List ℕ) : Type 0 where
  pub told : Puts text 0 (unmend_told (length input) (unmended (length words) input)) text' r.end
  pub from : r.from ≡ written_from (length input) (unmended (length words) input)
  pub bytes : input' ≡ input_after (length words) input (unmended (length words) input)
  pub list : words' ≡ words_after input words
