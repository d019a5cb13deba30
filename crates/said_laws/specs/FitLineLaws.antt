-- Laws of lines that are clear: none of them is taken for a silent one, and `peek` shows "N from 1 to 400" bytes.
use Rattle.std.specs.Prelude.{ℕ, ◌≤◌, ◌≡◌, refl, Bool, true, false, cond, ◌&&◌, List, [], ◌∷◌, leb, None, Some, Option}
use Rattle.requests.specs.declared.Request.{Request}
use Rattle.halting.specs.declared.Privilege.{Privilege}
use Rattle.std.proofs.Common.{leb-true}
use Rattle.laws.specs.TestLaws.{both_hold}
use Rattle.words.specs.LineWords.{ascii, same}
use Rattle.words.specs.NameTable.{Row, row, found}
use Rattle.numbers.specs.declared.Numbers.{Numbers}
use Rattle.numbers.specs.declared.Numbers.TheVariants.{Zero, One, Two, Three, Four, NotNumbers}
use Rattle.numbers.specs.Numbers.{numeral, more, numbers}
use Rattle.halting.specs.declared.Privilege.TheVariants.{User, Supervisor}
use Rattle.board_lines.specs.declared.BoardLine.{BoardLine}
use Rattle.board_lines.specs.declared.BoardLine.TheVariants.{Nothing, Make, Memory, Bytes, Packet, Event as EventLine}
use Rattle.board_lines.specs.declared.BoardLine.TheVariants.{EventWithAccess, Breakpoint, Peek, State, Unclear}
use Rattle.board_lines.specs.EventLines.{event_form, halt_form, halt_line, event_from, event_line}
use Rattle.board_lines.specs.BoardLines.{memory_line, peek_line, board_of_none, board_of_one, board_of_two, board_form}
use Rattle.board_lines.specs.BoardLines.{is_hex, hex_line, bytes_line, board_words}
use Rattle.request_lines.specs.RequestLines.{request_of}
use Rattle.talk_lines.specs.declared.TalkLine.{TalkLine}
use Rattle.talk_lines.specs.declared.TalkLine.TheVariants.{Board as BoardAsked, Ask}
use Rattle.talk_lines.specs.TalkLines.{without_packet, asked_or, talk_of}
use Rattle.pod_lines.specs.PodLines.{Meaning, nothing, builds, reads, unclear, before_colon, after_colon, build_line, read_line, pod_words}

-- of one of two, and of a name's meaning in a table
one_of : {A : Type 0} (P : A → Type 0) (t : Bool) (a b : A) → P a → P b → P (cond t a b)
one_of P true a b p q = p
one_of P false a b p q = q

abbrev EachRow : {A : Type 0} (P : A → Type 0) → List (Row A) → Type 0
EachRow P [] = Unit
EachRow P (r ∷ rows) = P r.meaning × EachRow P rows

of_found : {A : Type 0} (P : A → Type 0) (other : A) (name : List ℕ) (rows : List (Row A)) → P other → EachRow P rows → P (found other name rows)
of_found P other name [] o e = o
of_found P other name (r ∷ rows) o e = one_of P (same name r.name) r.meaning (found other name rows) e.0 (of_found P other name rows o e.1)

-- a line of the board's that is no silent one
abbrev pub Fit : BoardLine → Type 0
Fit Nothing = ⊥
Fit (Make w) = Unit
Fit (Memory n) = Unit
Fit (Bytes address from count) = Unit
Fit (Packet word) = Unit
Fit (EventLine pc mark) = Unit
Fit (EventWithAccess pc address attribute lanes mark) = Unit
Fit Breakpoint = Unit
Fit (Peek address count) = count ≤ 0x400
Fit State = Unit
Fit Unclear = Unit

memory_fit : (n : ℕ) → Fit (memory_line n)
memory_fit n = one_of Fit (leb n 0x10010) (Memory n) Unclear tt tt

event_form_fit : (ns : Numbers) (mark : Option Privilege) → Fit (event_form ns mark)
event_form_fit Zero mark = tt
event_form_fit (One pc) mark = tt
event_form_fit (Two a b) mark = tt
event_form_fit (Three a b c) mark = tt
event_form_fit (Four pc address attribute lanes) mark = one_of Fit (leb attribute 0xFF) (EventWithAccess pc address attribute lanes mark) Unclear tt tt
event_form_fit NotNumbers mark = tt

halt_fit : (before : Numbers) (ws : List (List ℕ)) → Fit (halt_line before ws)
unfolding halt_form
halt_fit before [] = tt
halt_fit before (privilege ∷ []) =
    of_found Fit Unclear privilege
    (row (ascii "user") (event_form before (Some User)) ∷ row (ascii "supervisor") (event_form before (Some Supervisor)) ∷ [])
    tt
    (event_form_fit before (Some User), (event_form_fit before (Some Supervisor), tt))
halt_fit before (privilege ∷ word ∷ ws) = tt

event_from_fit : (before : Numbers) (ws : List (List ℕ)) → Fit (event_from before ws)
event_from_fit before [] = event_form_fit before None
event_from_fit before (word ∷ ws) =
    one_of Fit (same word (ascii "halt")) (halt_line before ws) _ (halt_fit before ws) (event_from_fit (more before (numeral word)) ws)

event_fit : (ws : List (List ℕ)) → Fit (event_line ws)
unfolding event_line
event_fit ws = event_from_fit Zero ws

peek_fit : (a n : ℕ) → Fit (peek_line a n)
peek_fit a n = by_test (leb 1 n && leb n 0x400) refl
  where
    by_test : (t : Bool) → (leb 1 n && leb n 0x400) ≡ t → Fit (cond t (Peek a n) Unclear)
    by_test true e = leb-true n 0x400 (both_hold (leb 1 n) (leb n 0x400) e).1
    by_test false e = tt

form_fit : (name : List ℕ) (ns : Numbers) → Fit (board_form name ns)
unfolding board_of_none board_of_one board_of_two
form_fit name Zero = of_found Fit Unclear name (row (ascii "breakpoint") Breakpoint ∷ row (ascii "state") State ∷ []) tt (tt, (tt, tt))
form_fit name (One n) =
    of_found Fit Unclear name
    (row (ascii "make") (Make n) ∷ row (ascii "memory") (memory_line n) ∷ row (ascii "packet") (Packet n) ∷ [])
    tt
    (tt, (memory_fit n, (tt, tt)))
form_fit name (Two a n) = of_found Fit Unclear name (row (ascii "peek") (peek_line a n) ∷ []) tt (peek_fit a n, tt)
form_fit name (Three a b c) = tt
form_fit name (Four a b c d) = tt
form_fit name NotNumbers = tt

hex_fit : (close : ℕ) (address : Option ℕ) (hex : List ℕ) → Fit (hex_line close address hex)
unfolding hex_line
hex_fit close (Some a) hex = one_of Fit (is_hex hex) _ Unclear tt tt
hex_fit close None hex = tt

bytes_fit : (close : ℕ) (ws : List (List ℕ)) → Fit (bytes_line close ws)
bytes_fit close [] = tt
bytes_fit close (a ∷ []) = tt
bytes_fit close (a ∷ hex ∷ []) = hex_fit close (numeral a) hex
bytes_fit close (a ∷ hex ∷ b ∷ more) = tt

pub board_fit : (close : ℕ) (ws : List (List ℕ)) → Fit (board_words close ws)
unfolding board_words
board_fit close [] = tt
board_fit close (name ∷ rest) =
    of_found Fit (board_form name (numbers rest)) name (row (ascii "bytes") (bytes_line close rest) ∷ row (ascii "event") (event_line rest) ∷ [])
    (form_fit name (numbers rest))
    (bytes_fit close rest, (event_fit rest, tt))

-- and of talk's
abbrev pub TalkFit : TalkLine → Type 0
TalkFit (BoardAsked line) = Fit line
TalkFit (Ask request) = Unit

pub either_fit : (asked : Option Request) (line : BoardLine) → Fit line → TalkFit (asked_or asked line)
either_fit (Some request) line f = tt
either_fit None line f = f

without_fit : (line : BoardLine) → Fit line → Fit (without_packet line)
without_fit Nothing f = f
without_fit (Make w) f = tt
without_fit (Memory n) f = tt
without_fit (Bytes address from count) f = tt
without_fit (Packet word) f = tt
without_fit (EventLine pc mark) f = tt
without_fit (EventWithAccess pc address attribute lanes mark) f = tt
without_fit Breakpoint f = tt
without_fit (Peek address count) f = f
without_fit State f = tt
without_fit Unclear f = tt

pub talk_fit : (line : TalkLine) → TalkFit line → TalkFit (talk_of line)
talk_fit (BoardAsked line) f = without_fit line f
talk_fit (Ask request) f = tt

-- and of the pod's
abbrev pub PodFit : Meaning → Type 0
PodFit nothing = ⊥
PodFit (builds request) = Unit
PodFit (reads request replies) = Unit
PodFit unclear = Unit

build_fit : (asked : Option Request) → PodFit (build_line asked)
build_fit (Some request) = tt
build_fit None = tt

read_fit : (asked : Option Request) (replies : Option (List (List ℕ))) → PodFit (read_line asked replies)
read_fit (Some request) (Some replies) = tt
read_fit (Some request) None = tt
read_fit None replies = tt

pub pod_fit : (ws : List (List ℕ)) → PodFit (pod_words ws)
unfolding pod_words
pod_fit [] = tt
pod_fit (name ∷ rest) =
    of_found PodFit unclear name
    (row (ascii "build") (build_line (request_of rest)) ∷ row (ascii "read") (read_line (request_of (before_colon rest)) (after_colon rest)) ∷ [])
    tt
    (build_fit (request_of rest), (read_fit (request_of (before_colon rest)) (after_colon rest), tt))
