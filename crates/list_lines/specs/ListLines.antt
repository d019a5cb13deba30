-- The list of `mend` read back (docs/mend.md, `unmend`): its head, its lines, and where the trace begins behind them.
use Rattle.std.specs.Prelude.{◌≡◌, ℕ, zero, suc, ◌+◌, ◌-◌, ◌*◌, Bool, true, false, cond, Option, None, Some, List, [], ◌∷◌, eqb, ltb, length, take, drop}
use Rattle.std.proofs.lemmas.List.Edits.{sets}
use Rattle.laws.specs.Ascii.{ascii}
use Rattle.same.specs.SameList.{same}
use Rattle.list_lines.specs.declared.Lines.{Lines}
use Rattle.list_lines.specs.declared.ListRead.{ListRead}

-- "decimal digits, leading zeros allowed", at most so much, and the byte that ends them: where so many bytes before have made a value
unfoldable pub digits : ℕ → ℕ → ℕ → ℕ → List ℕ → Option (ℕ × ℕ)
digits most end value used [] = None
digits most end value used (byte ∷ bytes) =
    cond (eqb byte end) (Some (value, used + 1))
    (cond (ltb byte 48) None
    (cond (ltb 57 byte) None
    (cond (ltb most (value * 10 + (byte - 48))) None
    (digits most end (value * 10 + (byte - 48)) (used + 1) bytes))))

-- "one or more": the byte that ends them is not the first
unfoldable pub number : ℕ → ℕ → List ℕ → Option (ℕ × ℕ)
number most end [] = None
number most end (byte ∷ bytes) = cond (eqb byte end) None (digits most end 0 0 (byte ∷ bytes))

-- the same, where so many bytes were read before it
abbrev pub behind : ℕ → Option (ℕ × ℕ) → Option (ℕ × ℕ)
behind used (Some (value, more)) = Some (value, used + more)
behind used None = None

-- "with one space between the words, and nothing else": a name to the byte, and the number behind it
unfoldable pub named : List ℕ → ℕ → ℕ → List ℕ → Option (ℕ × ℕ)
named name most end bytes = cond (same (take (length name) bytes) name) (behind (length name) (number most end (drop (length name) bytes))) None

-- "a line `C P` with its line feed": C at most 65,535, P at most 15, as the list's word
abbrev pub word_with : ℕ → ℕ → Option (ℕ × ℕ) → Option (ℕ × ℕ)
word_with cycle used (Some (pst, more)) = Some (cycle * 16 + pst, used + more)
word_with cycle used None = None

abbrev pub word_behind : List ℕ → Option (ℕ × ℕ) → Option (ℕ × ℕ)
word_behind bytes (Some (cycle, used)) = word_with cycle used (number 15 10 (drop used bytes))
word_behind bytes None = None

unfoldable pub line_word : List ℕ → Option (ℕ × ℕ)
line_word bytes = word_behind bytes (number 65535 32 bytes)

-- "K times a line": their words as far as they are lines, how many bytes those take, and whether there are K
pub record Listed : Type 0 where
  pub words : List ℕ
  pub used : ℕ
  pub all : Bool

abbrev pub listed : List ℕ → ℕ → Bool → Listed
listed words used all = record { words = words; used = used; all = all }

abbrev pub more : ℕ → ℕ → Listed → Listed
more word used rest = listed (word ∷ rest.words) (used + rest.used) rest.all

abbrev pub lines_with : (List ℕ → Listed) → List ℕ → Option (ℕ × ℕ) → Listed
lines_with rest bytes (Some (word, used)) = more word used (rest (drop used bytes))
lines_with rest bytes None = listed [] 0 false

unfoldable pub lines_in : ℕ → List ℕ → Listed
lines_in zero bytes = listed [] 0 true
lines_in (suc k) bytes = lines_with (lines_in k) bytes (line_word bytes)

-- "`mended cycles=N changed=K`, a line feed, and then K times a line"
pub record ListIn : Type 0 where
  pub clear : Bool
  pub cycles : ℕ
  pub changed : ℕ
  -- "What comes behind the K-th line feed is the trace"
  pub from : ℕ
  -- the words read, also where there is no list
  pub words : List ℕ

abbrev pub no_list : List ℕ → ListIn
no_list words = record { clear = false; cycles = 0; changed = 0; from = 0; words = words }

abbrev pub list_behind : ℕ → ℕ → ℕ → Listed → ListIn
list_behind cycles changed used lines =
    cond lines.all (record { clear = true; cycles = cycles; changed = changed; from = used + lines.used; words = lines.words }) (no_list lines.words)

-- a buffer with fewer places than there are lines takes none
abbrev pub changed_behind : ℕ → List ℕ → ℕ → ℕ → Option (ℕ × ℕ) → ListIn
changed_behind room bytes cycles used (Some (changed, more)) =
    cond (ltb room changed) (no_list []) (list_behind cycles changed (used + more) (lines_in changed (drop (used + more) bytes)))
changed_behind room bytes cycles used None = no_list []

abbrev pub cycles_behind : ℕ → List ℕ → Option (ℕ × ℕ) → ListIn
cycles_behind room bytes (Some (cycles, used)) = changed_behind room bytes cycles used (named (ascii "changed=") 65536 10 (drop used bytes))
cycles_behind room bytes None = no_list []

-- "N and K are at most 65,536"
unfoldable pub list_in : ℕ → List ℕ → ListIn
list_in room bytes = cycles_behind room bytes (named (ascii "mended cycles=") 65536 32 bytes)

-- what reading so many lines promises, with a buffer of as many words
pub record LinesMeet (bytes : List ℕ) (k : ℕ) (before : List ℕ) (r : Lines) (after : List ℕ) : Type 0 where
  pub used : r.used ≡ (lines_in k bytes).used
  pub all : r.all ≡ (lines_in k bytes).all
  pub words : after ≡ sets before 0 (lines_in k bytes).words

-- what is handed over of a list; none, where it is not clear
abbrev pub handed : ListIn → Option ListRead
handed told = cond told.clear (Some (record { cycles = told.cycles; changed = told.changed; from = told.from })) None

-- a list as it is handed over, with its words put into a buffer
pub record ListMeets (told : ListIn) (before : List ℕ) (r : Option ListRead) (after : List ℕ) : Type 0 where
  pub answer : r ≡ handed told
  pub words : after ≡ sets before 0 told.words
