-- What `mend` says on standard error (the desk's language, [5]): the list of what was changed, or a refusal; and what goes to standard output.
use Rattle.std.specs.Prelude.{◌≡◌, ℕ, ◌/◌, ◌%◌, List, [], ◌∷◌, ◌++◌, length}
use Rattle.trace.specs.TraceReading.{Told, refusal, counted}
use Rattle.mending.specs.Mending.{changes}
use Rattle.mending.specs.Mending.{mended}
use Rattle.mending.specs.MendingAnswer.{mending, put_front}
use Rattle.text.specs.Text.{ascii, Puts}
use Rattle.text.specs.NumberText.{decimal_text}
use Rattle.refusal_text.specs.RefusalText.{refused_by}
use Rattle.mend_text.specs.declared.Said.{Said}

-- "`mended cycles=N changed=K`"
abbrev pub counts_line : List ℕ → ℕ → ℕ → List ℕ
counts_line name cycles changed = name ++ ascii " cycles=" ++ decimal_text cycles ++ ascii " changed=" ++ decimal_text changed ++ ascii "\n"

-- "its cycle and old PST on a line"
abbrev pub change_line : ℕ → List ℕ
change_line word = decimal_text (word / 16) ++ ascii " " ++ decimal_text (word % 16) ++ ascii "\n"

-- "then for each changed cycle, in cycle order"
abbrev pub change_lines : List ℕ → List ℕ
change_lines [] = []
change_lines (word ∷ words) = change_line word ++ change_lines words

abbrev pub list_text : ℕ → List ℕ → List ℕ
list_text cycles words = counts_line (ascii "mended") cycles (length words) ++ change_lines words

-- "A refusal: .. `refused N at C` on standard error"
abbrev pub mend_told : List ℕ → Told → List ℕ
mend_told trace (counted n) = list_text (length trace) (changes trace)
mend_told trace (refusal number cycle) = refused_by number cycle ++ ascii "\n"

-- "the mended trace, raw, on standard output", so many bytes of it; "A refusal: no byte on standard output"
abbrev pub mend_writes : List ℕ → Told → ℕ
mend_writes trace (counted n) = length trace
mend_writes trace (refusal number cycle) = 0

-- the verdict for buffers as they are lent
abbrev pub judged_for : List ℕ → List ℕ → List ℕ → Told
judged_for trace bytes words = mending trace (length bytes) (length words)

-- what is told of a trace, every byte of it, and what both buffers hold then
pub record MendSaid (trace text bytes words : List ℕ) (r : Said) (text' bytes' words' : List ℕ) : Type 0 where
  pub told : Puts text 0 (mend_told trace (judged_for trace bytes words)) text' r.end
  pub writes : r.cycles ≡ mend_writes trace (judged_for trace bytes words)
  pub cycles : bytes' ≡ put_front (mended trace) bytes (judged_for trace bytes words)
  pub list : words' ≡ put_front (changes trace) words (judged_for trace bytes words)
