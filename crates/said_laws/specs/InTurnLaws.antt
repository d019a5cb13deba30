-- Laws of the answers to lines, in every program: one for each line that is not silent, in order, each on what the lines before it left.
use Rattle.std.specs.Prelude.{ℕ, ◌≡◌, refl, Bool, true, false, cond, length, get_or}
use Rattle.std.proofs.Common.{ap, sym, ◌∙◌, arith}
use mathlib.Core.List.{List, [], ◌∷◌, ◌++◌, map, flatten, append_assoc, append-nil}
use Rattle.std.proofs.lemmas.List.{length-map, get_or_at}
use Rattle.words.specs.declared.LineKind.{LineKind}
use Rattle.words.specs.declared.LineKind.TheVariants.{Silent, Clear, TooLong}
use Rattle.words.specs.LineWords.{kind_of}
use Rattle.common_lines.specs.CommonLines.{quits}
use Rattle.console.specs.InputLines.{is_line_end, lines_of, has_ended}
use Rattle.console.specs.InputLineLaws.{pieces_join, ended_line}
use Rattle.console.specs.LineWriting.{line_end}
use Rattle.answers.specs.declared.Bench.{Bench}
use Rattle.answers.specs.Bench.{Left, left}
use Rattle.languages.specs.declared.Language.{Language}
use Rattle.course.specs.Course.{told, course, told_text, answer_line, answer_lines}
use Rattle.course.proofs.CourseLaws.{silent_said}
use Rattle.said_laws.specs.AnswerLaws.{one_line, one_answer}

-- "`quit` .. ends the program": the lines that are read are those up to the first that quits, with it
abbrev pub until_quit : List (List ℕ) → List (List ℕ)
until_quit [] = []
until_quit (line ∷ lines) = line ∷ cond (quits line) [] (until_quit lines)

abbrev pub none_quits : List (List ℕ) → Bool
none_quits [] = true
none_quits (line ∷ lines) = cond (quits line) false (none_quits lines)

-- "An empty line and a line that begins with `#` get no answer"
abbrev pub unless_silent : LineKind → List ℕ → List (List ℕ)
unless_silent Silent bytes = []
unless_silent Clear bytes = bytes ∷ []
unless_silent TooLong bytes = bytes ∷ []

-- the lines that are not silent
abbrev pub not_silent : List (List ℕ) → List (List ℕ)
not_silent [] = []
not_silent (line ∷ lines) = unless_silent (kind_of line) line ++ not_silent lines

-- what is said to these, in their order, each on what the lines before it left
abbrev pub said_in_turn : Language → List (List ℕ) → Left → List (List ℕ)
said_in_turn language [] l = []
said_in_turn language (line ∷ lines) l =
    unless_silent (kind_of line) (told_text language line l.bench l.memory) ++ said_in_turn language lines (told language line l.bench l.memory)

-- a text with its line end
abbrev ended : List ℕ → List ℕ
ended text = text ++ line_end

ended_both : (texts more : List (List ℕ)) → map ended (texts ++ more) ≡ map ended texts ++ map ended more
ended_both [] more = refl
ended_both (text ∷ texts) more = ap (λ (ls : List (List ℕ)). ended text ∷ ls) (ended_both texts more)

-- the answer to a line
line_answer : (language : Language) (line : List ℕ) (bench : Bench) (m : List ℕ)
    → answer_line (told_text language line bench m) ≡ map ended (unless_silent (kind_of line) (told_text language line bench m))
line_answer language line bench m = by_kind (kind_of line) refl
  where
    by_kind : (kind : LineKind) → kind_of line ≡ kind
        → answer_line (told_text language line bench m) ≡ map ended (unless_silent kind (told_text language line bench m))
    by_kind Silent e = rw (silent_said language line bench m e)
    by_kind Clear e = one_answer language line bench m (λ s. let z : ◌≡◌ {A = ℕ} 0 1 = cc in omega arith)
    by_kind TooLong e = one_answer language line bench m (λ s. let z : ◌≡◌ {A = ℕ} 0 1 = cc in omega arith)

-- the answers to lines are what is said in turn to those that are read, each with its line end
answers_in_turn : (language : Language) (lines : List (List ℕ)) (bench : Bench) (m : List ℕ)
    → answer_lines language lines bench m ≡ map ended (said_in_turn language (until_quit lines) (left bench m))
answers_in_turn language [] bench m = refl
answers_in_turn language (line ∷ lines) bench m = by_test (quits line) (answers_in_turn language lines next.bench next.memory)
  where
    next : Left
    next = told language line bench m

    by_test : (t : Bool) → answer_lines language lines next.bench next.memory ≡ map ended (said_in_turn language (until_quit lines) next)
        → answer_line (told_text language line bench m) ++ cond t [] (answer_lines language lines next.bench next.memory)
        ≡ map ended (said_in_turn language (line ∷ cond t [] (until_quit lines)) (left bench m))
    by_test true on = rw (line_answer language line bench m) (sym (ended_both (unless_silent (kind_of line) _) []))
    by_test false on = rw (line_answer language line bench m, on) (sym (ended_both (unless_silent (kind_of line) _) _))

in_turn_count : (language : Language) (lines : List (List ℕ)) (l : Left) → length (said_in_turn language lines l) ≡ length (not_silent lines)
in_turn_count language [] l = refl
in_turn_count language (line ∷ lines) l = by_kind (kind_of line) _ _ (in_turn_count language lines (told language line l.bench l.memory))
  where
    by_kind : (kind : LineKind) (text : List ℕ) (texts : List (List ℕ)) → length texts ≡ length (not_silent lines)
        → length (unless_silent kind text ++ texts) ≡ length (unless_silent kind line ++ not_silent lines)
    by_kind Silent text texts on = on
    by_kind Clear text texts on = rw on
    by_kind TooLong text texts on = rw on

-- THE LAW: there are as many answers as lines that are not silent, up to the first that quits and with it
pub one_answer_each : (language : Language) (lines : List (List ℕ)) (bench : Bench) (m : List ℕ)
    → length (answer_lines language lines bench m) ≡ length (not_silent (until_quit lines))
one_answer_each language lines bench m =
    let texts = said_in_turn language (until_quit lines) (left bench m) in
    ap length (answers_in_turn language lines bench m) ∙ length-map texts ended ∙ in_turn_count language (until_quit lines) (left bench m)

-- texts without a line end, each with its own behind it, are cut apart again as they were
abbrev AllOpen : List (List ℕ) → Type 0
AllOpen [] = Unit
AllOpen (text ∷ texts) = (has_ended text ≡ false) × AllOpen texts

texts_cut : (texts : List (List ℕ)) → AllOpen texts → lines_of (flatten (map ended texts)) ≡ texts ++ ([] ∷ [])
unfolding flatten is_line_end
texts_cut [] o = refl
texts_cut (text ∷ texts) o =
    let first = pieces_join text line_end o.0 in
    ended_line (ended text) (flatten (map ended texts)) first.1 ∙ rw (first.0, first.2, append-nil text, texts_cut texts o.1)

in_turn_open : (language : Language) (lines : List (List ℕ)) (l : Left) → AllOpen (said_in_turn language lines l)
in_turn_open language [] l = tt
in_turn_open language (line ∷ lines) l =
    by_kind (kind_of line) _ _ (one_line language line l.bench l.memory) (in_turn_open language lines (told language line l.bench l.memory))
  where
    by_kind : (kind : LineKind) (text : List ℕ) (texts : List (List ℕ)) → has_ended text ≡ false → AllOpen texts → AllOpen (unless_silent kind text ++ texts)
    by_kind Silent text texts here on = on
    by_kind Clear text texts here on = (here, on)
    by_kind TooLong text texts here on = (here, on)

-- THE LAW: the answers one behind the other, cut into lines again, are what is said in turn to the lines that are read; nothing lies behind the last line
-- end. So no answer is split, joined to another or out of its turn
pub answers_cut : (language : Language) (lines : List (List ℕ)) (bench : Bench) (m : List ℕ)
    → lines_of (flatten (answer_lines language lines bench m)) ≡ said_in_turn language (until_quit lines) (left bench m) ++ ([] ∷ [])
answers_cut language lines bench m =
    ap (λ (ls : List (List ℕ)). lines_of (flatten ls)) (answers_in_turn language lines bench m)
    ∙ texts_cut (said_in_turn language (until_quit lines) (left bench m)) (in_turn_open language (until_quit lines) (left bench m))

-- what is said to lines, and then to those behind them on what they left
in_turn_on : (language : Language) (before more : List (List ℕ)) (bench : Bench) (m : List ℕ) → none_quits before ≡ true
    → said_in_turn language (until_quit (before ++ more)) (left bench m)
    ≡ said_in_turn language before (left bench m) ++ said_in_turn language (until_quit more) (course language before bench m)
in_turn_on language [] more bench m none = refl
in_turn_on language (line ∷ before) more bench m none =
    by_test (quits line) refl none (in_turn_on language before more next.bench next.memory)
  where
    next : Left
    next = told language line bench m

    by_test : (t : Bool) → quits line ≡ t → cond t false (none_quits before) ≡ true
        → (none_quits before ≡ true → said_in_turn language (until_quit (before ++ more)) next
        ≡ said_in_turn language before next ++ said_in_turn language (until_quit more) (course language before next.bench next.memory))
        → said_in_turn language (until_quit (line ∷ before ++ more)) (left bench m)
        ≡ said_in_turn language (line ∷ before) (left bench m) ++ said_in_turn language (until_quit more) (course language (line ∷ before) bench m)
    by_test true e none on = cc
    by_test false e none on = rw (e, on none) (sym (append_assoc (unless_silent (kind_of line) _) _ _))

text_behind : (front : List (List ℕ)) (kind : LineKind) (text : List ℕ) (behind : List (List ℕ)) (n : ℕ) → length front ≡ n → (kind ≡ Silent → ⊥)
    → get_or (front ++ (unless_silent kind text ++ behind) ++ ([] ∷ [])) n [] ≡ text
text_behind front Silent text behind n e some = absurd (some refl)
text_behind front Clear text behind n e some = rw (append_assoc front (text ∷ behind) ([] ∷ [])) (get_or_at front text (behind ++ ([] ∷ [])) [] n e)
text_behind front TooLong text behind n e some = rw (append_assoc front (text ∷ behind) ([] ∷ [])) (get_or_at front text (behind ++ ([] ∷ [])) [] n e)

-- THE LAW: so the answer to a line stands behind as many as lines before it are not silent, and is what is said to it on what all lines before it left
pub answer_in_place : (language : Language) (before : List (List ℕ)) (line : List ℕ) (more : List (List ℕ)) (bench : Bench) (m : List ℕ)
    → none_quits before ≡ true → (kind_of line ≡ Silent → ⊥)
    → get_or (lines_of (flatten (answer_lines language (before ++ line ∷ more) bench m))) (length (not_silent before)) []
    ≡ told_text language line (course language before bench m).bench (course language before bench m).memory
answer_in_place language before line more bench m none some =
    ap (λ (ls : List (List ℕ)). get_or ls (length (not_silent before)) []) (answers_cut language (before ++ line ∷ more) bench m)
    ∙ rw (in_turn_on language before (line ∷ more) bench m none)
    (text_behind (said_in_turn language before (left bench m)) (kind_of line) _ _ _ (in_turn_count language before (left bench m)) some)
