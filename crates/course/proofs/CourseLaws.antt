-- Laws of the course of a conversation: what is held of a line serves as the line, and lines served one after the other are those of an input.
use Rattle.std.specs.Prelude.{ℕ, ◌-◌, ◌≤◌, ◌<◌, ◌≡◌, refl, Bool, true, false, cond, List, [], ◌∷◌, ◌++◌, length, take}
use Rattle.std.proofs.Common.{arith, ap, sym, ◌∙◌, append-nil}
use Rattle.std.proofs.Math.Seq.{length-sets}
use Rattle.words.specs.declared.LineKind.{LineKind}
use Rattle.words.specs.declared.LineKind.TheVariants.{Silent, Clear, TooLong}
use Rattle.words.specs.LineWords.{kind_of}
use Rattle.words.specs.LineWordLaws.{clear_short}
use Rattle.board_lines.specs.BoardLines.{board_line}
use Rattle.talk_lines.specs.TalkLines.{either_line}
use Rattle.common_lines.specs.declared.CommonLine.{CommonLine}
use Rattle.common_lines.specs.declared.CommonLine.TheVariants.{Help, Quit, Other}
use Rattle.common_lines.specs.CommonLines.{common_line, is_quit, quits}
use Rattle.console.specs.declared.Input.TheVariants.{Line, Last}
use Rattle.console.specs.InputLines.{first_line}
use Rattle.console.specs.InputLineLaws.{open_line}
use Rattle.console.specs.Holding.{held_of}
use Rattle.console.specs.HoldingLaws.{held_all, kind_held}
use Rattle.console.specs.LineReading.{NextMeets, all_brought}
use Rattle.console.specs.LinesServedLaws.{Comes, Ends, line_served, quit_served, last_served, none_served}
use Rattle.console.specs.LineWriting.{line_end, laid}
use Rattle.console.specs.LineWritingLaws.{line_laid, laid_length, laid_on}
use Rattle.text.specs.Text.{written, Puts}
use Rattle.refusal_text.specs.RefusalText.{unclear_text}
use Rattle.pod_lines.specs.PodLines.{pod_meaning}
use Rattle.answers.specs.declared.Bench.{Bench}
use Rattle.answers.specs.Bench.{Left, left, leaves}
use Rattle.line_answers.specs.LineSaid.{said}
use Rattle.languages.specs.declared.Language.{Language}
use Rattle.languages.specs.declared.Language.TheVariants.{StandIn, Talk, Both, Pod}
use Rattle.course.specs.declared.Served.{Served}
use Rattle.languages.specs.Heard.{heard_own, heard_as, heard, after, said_to}
use Rattle.course.specs.Course.{told, course, told_text, answer_line, answer_lines, ServedMeets, CourseMeets}
use Rattle.pod_answers.specs.PodSaid.{pod_said}

-- a line that is silent or too long leaves all as it was, and does not quit
silent_told : (language : Language) (line : List ℕ) (bench : Bench) (m : List ℕ) → kind_of line ≡ Silent
    → (told language line bench m ≡ left bench m) × (quits line ≡ false)
unfolding heard heard_own after common_line board_line either_line leaves
silent_told StandIn line bench m e = (rw (e, e), rw e)
silent_told Talk line bench m e = (rw (e, e), rw e)
silent_told Both line bench m e = (rw (e, e), rw e)
silent_told Pod line bench m e = (rw e, rw e)

long_told : (language : Language) (line : List ℕ) (bench : Bench) (m : List ℕ) → kind_of line ≡ TooLong
    → (told language line bench m ≡ left bench m) × (quits line ≡ false)
unfolding heard heard_own after common_line board_line either_line leaves
long_told StandIn line bench m e = (rw (e, e), rw e)
long_told Talk line bench m e = (rw (e, e), rw e)
long_told Both line bench m e = (rw (e, e), rw e)
long_told Pod line bench m e = (rw e, rw e)

-- and is answered with nothing, or with `unclear`
pub silent_said : (language : Language) (line : List ℕ) (bench : Bench) (m : List ℕ) → kind_of line ≡ Silent → told_text language line bench m ≡ []
unfolding heard heard_own said_to common_line board_line either_line said pod_said pod_meaning
silent_said StandIn line bench m e = rw (e, e)
silent_said Talk line bench m e = rw (e, e)
silent_said Both line bench m e = rw (e, e)
silent_said Pod line bench m e = rw (e, e)

pub long_said : (language : Language) (line : List ℕ) (bench : Bench) (m : List ℕ) → kind_of line ≡ TooLong → told_text language line bench m ≡ unclear_text
unfolding heard heard_own said_to common_line board_line either_line said pod_said pod_meaning
long_said StandIn line bench m e = rw (e, e)
long_said Talk line bench m e = rw (e, e)
long_said Both line bench m e = rw (e, e)
long_said Pod line bench m e = rw (e, e)

-- what is held of a line serves as the line
pub held_told : (language : Language) (room : ℕ) (line : List ℕ) (bench : Bench) (m : List ℕ) → 4096 < room
    → (told language (held_of room line) bench m ≡ told language line bench m) × (quits (held_of room line) ≡ quits line)
held_told language room line bench m some = by_kind (kind_of line) refl
  where
    by_kind : (kind : LineKind) → kind_of line ≡ kind
        → (told language (held_of room line) bench m ≡ told language line bench m) × (quits (held_of room line) ≡ quits line)
    by_kind Clear e =
        let short = clear_short line e in
        let all : held_of room line ≡ line = held_all room line (omega (arith, short)) in
        (ap (λ (l : List ℕ). told language l bench m) all, ap quits all)
    by_kind Silent e =
        let here = silent_told language line bench m e in
        let there = silent_told language (held_of room line) bench m (kind_held room line some ∙ e) in
        (there.0 ∙ sym here.0, there.1 ∙ sym here.1)
    by_kind TooLong e =
        let here = long_told language line bench m e in
        let there = long_told language (held_of room line) bench m (kind_held room line some ∙ e) in
        (there.0 ∙ sym here.0, there.1 ∙ sym here.1)

pub held_said : (language : Language) (room : ℕ) (line : List ℕ) (bench : Bench) (m : List ℕ) → 4096 < room
    → told_text language (held_of room line) bench m ≡ told_text language line bench m
held_said language room line bench m some = by_kind (kind_of line) refl
  where
    by_kind : (kind : LineKind) → kind_of line ≡ kind → told_text language (held_of room line) bench m ≡ told_text language line bench m
    by_kind Clear e =
        let short = clear_short line e in
        ap (λ (l : List ℕ). told_text language l bench m) (held_all room line (omega arith))
    by_kind Silent e = silent_said language (held_of room line) bench m (kind_held room line some ∙ e) ∙ sym (silent_said language line bench m e)
    by_kind TooLong e = long_said language (held_of room line) bench m (kind_held room line some ∙ e) ∙ sym (long_said language line bench m e)

quit_told : (language : Language) (line : List ℕ) (bench : Bench) (m : List ℕ) → quits line ≡ true → told language line bench m ≡ left bench m
unfolding heard after
quit_told language line bench m e = by_common (common_line line) e
  where
    by_common : (common : CommonLine) → is_quit common ≡ true → after line (heard_as common language line) bench m ≡ left bench m
    by_common Help e = cc
    by_common Quit e = refl
    by_common Other e = cc

-- an answer put at the front of the text, its line end behind it; or none
module _ {buffer told : List ℕ} {end : ℕ} where
  pub some_said : (text : List ℕ) {after : List ℕ} → Puts buffer 0 text told end → after ≡ written told end line_end → 0 < end
      → after ≡ laid buffer (answer_line text)
  some_said [] p e h = absurd (omega (arith, p.place))
  some_said (byte ∷ text) p e h = line_laid p e

  pub none_said : (text : List ℕ) → Puts buffer 0 text told end → end ≤ 0 → told ≡ laid buffer (answer_line text)
  none_said [] p h = p.bytes
  none_said (byte ∷ text) p h =
      let nothing : length buffer ≡ 0 = omega (arith, p.place) in
      no_bytes told (ap length p.bytes ∙ length-sets buffer 0 (byte ∷ text) ∙ nothing)
      ∙ sym (no_bytes (laid buffer (answer_line (byte ∷ text))) (laid_length buffer (answer_line (byte ∷ text)) ∙ nothing))
    where
      no_bytes : (bytes : List ℕ) → length bytes ≡ 0 → bytes ≡ []
      no_bytes [] e = refl
      no_bytes (b ∷ bytes) e = absurd (omega (arith, e))

served_line : {language : Language} {front : List ℕ} {bench : Bench} {m buffer after text : List ℕ} {r : Served} (room : ℕ) (line : List ℕ) → 4096 < room
    → front ≡ held_of room line → ServedMeets language front bench m buffer r after text → ServedMeets language line bench m buffer r after text
served_line {language} {front} {bench} {m} {buffer} room line some p s =
    let held = held_told language room line bench m some in
    let here : told language front bench m ≡ told language line bench m = ap (λ (l : List ℕ). told language l bench m) p ∙ held.0 in
    let same : told_text language front bench m ≡ told_text language line bench m =
    ap (λ (l : List ℕ). told_text language l bench m) p ∙ held_said language room line bench m some in
    record {
      board = s.board ∙ ap (λ (l : Left). l.bench) here;
      memory = s.memory ∙ ap (λ (l : Left). l.memory) here;
      over = s.over ∙ ap quits p ∙ held.1;
      said = s.said ∙ ap (λ (t : List ℕ). laid buffer (answer_line t)) same;
    }

one_told : (language : Language) (line : List ℕ) (bench : Bench) (m : List ℕ) → course language (line ∷ []) bench m ≡ told language line bench m
one_told language line bench m = by_test (quits line) refl
  where
    by_test : (t : Bool) → quits line ≡ t → course language (line ∷ []) bench m ≡ told language line bench m
    by_test true e = rw e (sym (quit_told language line bench m e))
    by_test false e = rw e

one_said : (language : Language) (line : List ℕ) (bench : Bench) (m : List ℕ)
    → answer_lines language (line ∷ []) bench m ≡ answer_line (told_text language line bench m)
one_said language line bench m = by_test (quits line)
  where
    by_test : (t : Bool) → answer_line (told_text language line bench m) ++ cond t [] [] ≡ answer_line (told_text language line bench m)
    by_test true = append-nil _
    by_test false = append-nil _

-- ---- lines served one after the other
-- what lines leave, and the text in which their answers were put
abbrev pub Outcome : Type 0
Outcome = Left × List ℕ

abbrev pub outcome : Language → Bench → List ℕ → List ℕ → List (List ℕ) → Outcome
outcome language bench m text lines = (course language lines bench m, laid text (answer_lines language lines bench m))

-- the lines that were served since the start have led to this bench, this memory and this text
abbrev pub Came : Language → List ℕ → Bench → List ℕ → List ℕ → ℕ → List ℕ → Bench → List ℕ → List ℕ → Type 0
Came language start before began buffer left unread bench m text =
    Comes (outcome language before began buffer) start (outcome language bench m text) left unread

module _ (language : Language) (start : List ℕ) (before : Bench) (began buffer : List ℕ) where
  ends_course : (r : Bench) (after text : List ℕ) → Ends (outcome language before began buffer) start (left r after, text)
      → CourseMeets language start before began buffer r after text
  ends_course r after text e =
      record {
        brought = e.0;
        board = sym (ap (λ (o : Outcome). o.0.bench) e.1);
        memory = sym (ap (λ (o : Outcome). o.0.memory) e.1);
        said = sym (ap (λ (o : Outcome). o.1) e.1);
      }

  module _ {fewer : ℕ} {unread m text : List ℕ} {bench : Bench} (c : Came language start before began buffer fewer unread bench m text)
      (more : 0 < fewer) {held end : ℕ} {source was lent line behind after spoken : List ℕ} {r : Served} (some : 4096 < length line)
      (s : ServedMeets language (take held line) bench m text r after spoken) where
    -- what the line leaves and says
    pub line_comes : NextMeets source unread was (Line held) lent end behind line → r.over ≡ false
        → Came language start before began buffer (fewer - 1) behind r.bench after spoken
    line_comes n e =
        let first = first_line (unread ++ all_brought n.reads) in
        let served = served_line (length line) first some n.line s in
        let goes_on : quits first ≡ false = sym served.over ∙ e in
        let next = told language first bench m in
        let said = answer_line (told_text language first bench m) in
        line_served c more n (outcome language r.bench after spoken)
        (λ lines.
        rw (goes_on, served.board, served.memory, served.said)
        (ap (λ (l : List ℕ). (course language lines next.bench next.memory, l))
        (laid_on text said (answer_lines language lines next.bench next.memory))))

    pub quit_comes : NextMeets source unread was (Line held) lent end behind line → r.over ≡ true
        → CourseMeets language start before began buffer r.bench after spoken
    quit_comes n e =
        let first = first_line (unread ++ all_brought n.reads) in
        let served = served_line (length line) first some n.line s in
        let over : quits first ≡ true = sym served.over ∙ e in
        let nothing = quit_told language first bench m over in
        ends_course r.bench after spoken
        (quit_served c more n (left r.bench after, spoken)
        (λ lines. rw (over, served.board, served.memory, served.said, nothing, append-nil (answer_line (told_text language first bench m)))))

    pub last_comes : NextMeets source unread was (Last held) lent end behind line → CourseMeets language start before began buffer r.bench after spoken
    last_comes n =
        let all = unread ++ all_brought n.reads in
        let first = (open_line all n.ended).0 in
        let served = served_line (length line) all some (n.line ∙ ap (held_of (length line)) first) s in
        ends_course r.bench after spoken
        (last_served c more n (left r.bench after, spoken)
        (rw (one_told language all bench m, one_said language all bench m, served.board, served.memory, served.said)))

  -- .. and none is served any more
  pub none_comes : {fewer : ℕ} {unread m text : List ℕ} {bench : Bench} → Came language start before began buffer fewer unread bench m text → fewer ≤ 0
      → CourseMeets language start before began buffer bench m text
  none_comes {m = m} {text = text} {bench = bench} c none = ends_course bench m text (none_served c none)
