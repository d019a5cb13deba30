-- Laws of the answer to a line, in every program: none exactly where the line is silent, and else one line, for which the text has room.
use Rattle.std.specs.Prelude.{ℕ, ◌≤◌, ◌<◌, ◌≡◌, refl, false, List, [], ◌∷◌, ◌++◌, length}
use Rattle.std.proofs.Common.{ap, sym, ◌∙◌, arith}
use Rattle.words.specs.declared.LineKind.{LineKind}
use Rattle.words.specs.declared.LineKind.TheVariants.{Silent, Clear, TooLong}
use Rattle.words.specs.LineWords.{kind_of, words, last_end}
use Rattle.common_lines.specs.declared.CommonLine.{CommonLine}
use Rattle.common_lines.specs.declared.CommonLine.TheVariants.{Help, Quit, Other}
use Rattle.common_lines.specs.CommonLines.{common_line}
use Rattle.board_lines.specs.BoardLines.{board_words, board_line}
use Rattle.request_lines.specs.RequestLines.{request_of}
use Rattle.talk_lines.specs.declared.TalkLine.{TalkLine}
use Rattle.talk_lines.specs.declared.TalkLine.TheVariants.{Board as BoardAsked, Ask}
use Rattle.talk_lines.specs.TalkLines.{asked_or, either_line, talk_of}
use Rattle.pod_lines.specs.PodLines.{pod_meaning, pod_words}
use Rattle.console.specs.InputLines.{has_ended}
use Rattle.console.specs.LineWriting.{line_end}
use Rattle.refusal_text.specs.RefusalText.{unclear_text}
use Rattle.answers.specs.declared.Bench.{Bench}
use Rattle.asking.specs.Asking.{exchange_outcome}
use Rattle.languages.specs.declared.Language.{Language}
use Rattle.languages.specs.declared.Language.TheVariants.{StandIn, Talk, Both, Pod}
use Rattle.languages.specs.declared.Heard.TheVariants.{OfBench}
use Rattle.pod_answers.specs.PodSaid.{pod_said}
use Rattle.languages.specs.Heard.{heard_own, heard_as, heard, said_to}
use Rattle.course.specs.Course.{told_text, answer_line}
use Rattle.course.proofs.CourseLaws.{silent_said, long_said}
use Rattle.said_laws.specs.SaidLengthLaws.{said_length, exchanged_length, pod_length, help_length}
use Rattle.said_laws.specs.FitLineLaws.{board_fit, TalkFit, either_fit, talk_fit, pod_fit}
use Rattle.said_laws.specs.PlainLaws.{plain_open, Spoken, board_spoken, exchange_spoken, pod_spoken, unclear_spoken, help_spoken, bye_spoken}

bench_spoken : (line : List ℕ) (asked : TalkLine) (bench : Bench) (m : List ℕ) → TalkFit asked → Spoken (said_to line (OfBench asked) bench m)
unfolding said_to
bench_spoken line (BoardAsked asked) bench m f = board_spoken line asked bench m f
bench_spoken line (Ask request) bench m f = exchange_spoken (exchange_outcome request bench _)

-- a clear line of the program's own
own_spoken : (language : Language) (line : List ℕ) (bench : Bench) (m : List ℕ) → kind_of line ≡ Clear → Spoken (said_to line (heard_own language line) bench m)
unfolding heard_own board_line either_line pod_said pod_meaning said_to
own_spoken StandIn line bench m e = rw e (board_spoken line (board_words (last_end line) (words line)) bench m (board_fit (last_end line) (words line)))
own_spoken Talk line bench m e =
    let words-fit = either_fit (request_of (words line)) (board_words (last_end line) (words line)) (board_fit (last_end line) (words line)) in
    let asked = asked_or (request_of (words line)) (board_words (last_end line) (words line)) in
    rw e (bench_spoken line (talk_of asked) bench m (talk_fit asked words-fit))
own_spoken Both line bench m e =
    let words-fit = either_fit (request_of (words line)) (board_words (last_end line) (words line)) (board_fit (last_end line) (words line)) in
    rw e (bench_spoken line (asked_or (request_of (words line)) (board_words (last_end line) (words line))) bench m words-fit)
own_spoken Pod line bench m e = rw e (pod_spoken (pod_words (words line)) (pod_fit (words line)))

clear_spoken : (language : Language) (line : List ℕ) (bench : Bench) (m : List ℕ) → kind_of line ≡ Clear → Spoken (told_text language line bench m)
unfolding heard said_to
clear_spoken language line bench m e = by_common (common_line line)
  where
    by_common : (common : CommonLine) → Spoken (said_to line (heard_as common language line) bench m)
    by_common Help = help_spoken language
    by_common Quit = bye_spoken
    by_common Other = own_spoken language line bench m e

-- every line but a silent one is answered, with letters, digits and spaces
pub answer_spoken : (language : Language) (line : List ℕ) (bench : Bench) (m : List ℕ) → (kind_of line ≡ Silent → ⊥) → Spoken (told_text language line bench m)
answer_spoken language line bench m some = by_kind (kind_of line) refl
  where
    by_kind : (kind : LineKind) → kind_of line ≡ kind → Spoken (told_text language line bench m)
    by_kind Silent e = absurd (some e)
    by_kind Clear e = clear_spoken language line bench m e
    by_kind TooLong e = rw (long_said language line bench m e) unclear_spoken

-- THE LAW: the answer is empty exactly where the line is silent
pub silent_only : (language : Language) (line : List ℕ) (bench : Bench) (m : List ℕ)
    → (kind_of line ≡ Silent → told_text language line bench m ≡ []) × (told_text language line bench m ≡ [] → kind_of line ≡ Silent)
silent_only language line bench m = (silent_said language line bench m, λ none. by_kind none (kind_of line) refl)
  where
    by_kind : told_text language line bench m ≡ [] → (kind : LineKind) → kind_of line ≡ kind → kind_of line ≡ Silent
    by_kind none Silent e = e
    by_kind none Clear e = absurd (omega (arith, (clear_spoken language line bench m e).some, ap length none))
    by_kind none TooLong e = absurd (omega (arith, ap length (sym (long_said language line bench m e) ∙ none)))

-- and no line end is in it: with its own behind it, it is one line
pub one_line : (language : Language) (line : List ℕ) (bench : Bench) (m : List ℕ) → has_ended (told_text language line bench m) ≡ false
one_line language line bench m = by_kind (kind_of line) refl
  where
    by_kind : (kind : LineKind) → kind_of line ≡ kind → has_ended (told_text language line bench m) ≡ false
    by_kind Silent e = rw (silent_said language line bench m e)
    by_kind Clear e = plain_open (told_text language line bench m) (clear_spoken language line bench m e).plain
    by_kind TooLong e = rw (long_said language line bench m e) (plain_open unclear_text unclear_spoken.plain)

-- so an input line that is not silent gets one answer line, and a silent one none
pub one_answer : (language : Language) (line : List ℕ) (bench : Bench) (m : List ℕ) → (kind_of line ≡ Silent → ⊥)
    → answer_line (told_text language line bench m) ≡ (told_text language line bench m ++ line_end) ∷ []
one_answer language line bench m some = by_text (told_text language line bench m) (answer_spoken language line bench m some).some
  where
    by_text : (text : List ℕ) → 0 < length text → answer_line text ≡ (text ++ line_end) ∷ []
    by_text [] h = absurd (omega arith)
    by_text (byte ∷ text) h = refl

-- how long it is: it and its line end have room in the 4,096 bytes that the programs lend
bench_length : (line : List ℕ) (asked : TalkLine) (bench : Bench) (m : List ℕ) → TalkFit asked → length (said_to line (OfBench asked) bench m) ≤ 4095
unfolding said_to
bench_length line (BoardAsked asked) bench m f = said_length line asked bench m f
bench_length line (Ask request) bench m f = exchanged_length (exchange_outcome request bench _)

own_length : (language : Language) (line : List ℕ) (bench : Bench) (m : List ℕ) → kind_of line ≡ Clear
    → length (said_to line (heard_own language line) bench m) ≤ 4095
unfolding heard_own board_line either_line pod_said pod_meaning said_to
own_length StandIn line bench m e = rw e (said_length line (board_words (last_end line) (words line)) bench m (board_fit (last_end line) (words line)))
own_length Talk line bench m e =
    let words-fit = either_fit (request_of (words line)) (board_words (last_end line) (words line)) (board_fit (last_end line) (words line)) in
    let asked = asked_or (request_of (words line)) (board_words (last_end line) (words line)) in
    rw e (bench_length line (talk_of asked) bench m (talk_fit asked words-fit))
own_length Both line bench m e =
    let words-fit = either_fit (request_of (words line)) (board_words (last_end line) (words line)) (board_fit (last_end line) (words line)) in
    rw e (bench_length line (asked_or (request_of (words line)) (board_words (last_end line) (words line))) bench m words-fit)
own_length Pod line bench m e = rw e (pod_length (pod_words (words line)))

clear_length : (language : Language) (line : List ℕ) (bench : Bench) (m : List ℕ) → kind_of line ≡ Clear → length (told_text language line bench m) ≤ 4095
unfolding heard said_to
clear_length language line bench m e = by_common (common_line line)
  where
    by_common : (common : CommonLine) → length (said_to line (heard_as common language line) bench m) ≤ 4095
    by_common Help = help_length language
    by_common Quit = omega arith
    by_common Other = own_length language line bench m e

pub told_length : (language : Language) (line : List ℕ) (bench : Bench) (m : List ℕ) → length (told_text language line bench m) ≤ 4095
told_length language line bench m = by_kind (kind_of line) refl
  where
    by_kind : (kind : LineKind) → kind_of line ≡ kind → length (told_text language line bench m) ≤ 4095
    by_kind Silent e = rw (silent_said language line bench m e) (omega arith)
    by_kind Clear e = clear_length language line bench m e
    by_kind TooLong e = rw (long_said language line bench m e) (omega arith)
