-- A script of one of the morning's checks (docs/morning.md): "lines that prepare the board, and lines whose answers are shown".
use Rattle.std.specs.Prelude.{ℕ, suc, ◌≡◌, Bool, true, false, cond, List, [], ◌∷◌, ◌++◌, eqb, take}
use Rattle.words.specs.LineWords.{joined}
use Rattle.text.specs.Text.{Puts, ascii}
use Rattle.answers.specs.declared.Bench.{Bench}
use Rattle.answers.specs.Bench.{Left, left}
use Rattle.languages.specs.declared.Language.TheVariants.{Both}
use Rattle.languages.specs.Heard.{heard, after, said_to}
use Rattle.morning_page.specs.MorningPage.{Check, check_text, bad_after}
use Rattle.scripts.specs.declared.Gone.{Gone}
use Rattle.scripts.specs.declared.Checked.{Checked}

-- the lines, each up to its line end
abbrev pub lines : List ℕ → List (List ℕ)
lines [] = []
lines (byte ∷ bytes) = cond (eqb byte 10) ([] ∷ lines bytes) (joined byte (lines bytes))

-- the bytes of the first line
abbrev pub line_length : List ℕ → ℕ
line_length [] = 0
line_length (byte ∷ bytes) = cond (eqb byte 10) 0 (suc (line_length bytes))

-- what is said to a line of the desk's language, and what it leaves
abbrev pub answer_to : List ℕ → Left → List ℕ
answer_to line l = said_to line (heard Both line) l.bench l.memory

abbrev pub left_by : List ℕ → Left → Left
left_by line l = after line (heard Both line) l.bench l.memory

-- a line is a mark, and a line of the desk's language: what it leaves of the bench and of memory
unfoldable pub line_leaves : List ℕ → Left → Left
line_leaves [] l = l
line_leaves (mark ∷ line) l = left_by line l

-- `+` marks a line whose answer is shown
unfoldable pub line_shows : List ℕ → Left → List (List ℕ)
line_shows [] l = []
line_shows (mark ∷ line) l = cond (eqb mark 43) (answer_to line l ∷ []) []

-- what lines leave, one after another, and the answers that are shown
unfoldable pub leaves : List (List ℕ) → Left → Left
leaves [] l = l
leaves (line ∷ more) l = leaves more (line_leaves line l)

unfoldable pub shows : List (List ℕ) → Left → List (List ℕ)
shows [] l = []
shows (line ∷ more) l = line_shows line l ++ shows more (line_leaves line l)

-- "parted by a comma and a space", where something may have been shown before
abbrev pub gap : Bool → List ℕ
gap true = ascii ", "
gap false = []

abbrev pub parted_after : Bool → List (List ℕ) → List ℕ
parted_after shown [] = []
parted_after shown (text ∷ texts) = gap shown ++ text ++ parted_after true texts

abbrev pub shown_after : Bool → List (List ℕ) → Bool
shown_after shown [] = shown
shown_after shown (text ∷ texts) = true

-- "what came out: the answers of the shown lines" ..
abbrev pub came_whole : List ℕ → Left → List ℕ
came_whole script l = parted_after false (shows (lines script) l)

-- .. as far as the room for them goes
abbrev pub room : ℕ
room = 4096

abbrev pub came : List ℕ → Left → List ℕ
came script l = take room (came_whole script l)

-- before any line
abbrev pub begun : Bench → Gone
begun bench = record { bench = bench; end = 0; shown = false }

-- lines taken: what they leave, and what they show behind what was shown before
pub record Went (texts : List (List ℕ)) (leaving : Left) (gone : Gone) (text : List ℕ) (r : Gone) (text' memory' : List ℕ) : Type 0 where
  pub stands : left r.bench memory' ≡ leaving
  pub puts : Puts text gone.end (parted_after gone.shown texts) text' r.end
  pub some : r.shown ≡ shown_after gone.shown texts

-- a check made and put on the page: what its lines leave, its own lines on the page, and how many are bad with it
pub record CheckedSo (number : ℕ) (check : Check) (leaving : Left) (before : Checked) (page : List ℕ) (r : Checked) (page' memory' : List ℕ) : Type 0 where
  pub stands : left r.bench memory' ≡ leaving
  pub puts : Puts page before.end (check_text number check) page' r.end
  pub count : r.bad ≡ bad_after before.bad check
