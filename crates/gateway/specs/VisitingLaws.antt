-- Laws of a visit held over standard input: what is held of a line serves as the line, lines are those of an input, and the visit is over at the end.
use Rattle.std.specs.Prelude.{ℕ, ◌-◌, ◌≤◌, ◌<◌, ◌≡◌, refl, true, false, List, [], ◌∷◌, ◌++◌, length, take}
use Rattle.std.proofs.Common.{arith, ap, sym, ◌∙◌, append-nil}
use Rattle.laws.specs.TestLaws.{by_test}
use Rattle.words.specs.declared.LineKind.{LineKind}
use Rattle.words.specs.declared.LineKind.TheVariants.{Silent, Clear, TooLong}
use Rattle.words.specs.LineWords.{kind_of}
use Rattle.words.specs.LineWordLaws.{clear_short}
use Rattle.console.specs.declared.Input.TheVariants.{Line, Last}
use Rattle.console.specs.InputLines.{first_line}
use Rattle.console.specs.InputLineLaws.{open_line}
use Rattle.console.specs.Holding.{held_of}
use Rattle.console.specs.HoldingLaws.{held_all, kind_held}
use Rattle.console.specs.LineReading.{NextMeets, all_brought}
use Rattle.console.specs.LinesServedLaws.{Comes, Ends, line_served, last_served, none_served, over_served}
use Rattle.console.specs.LineWriting.{laid}
use Rattle.console.specs.LineWritingLaws.{laid_on}
use Rattle.visit.specs.declared.Visit.{Visit}
use Rattle.visit.specs.Visit.{lost, is_over}
use Rattle.visit.specs.VisitEnds.{heard_all}
use Rattle.visit.specs.VisitLaws.{over_stays as over-hears-nothing, over_is_not_lost}
use Rattle.reply_lines.specs.declared.ReplyLine.TheVariants.{Nothing, Reply, NoReply}
use Rattle.reply_lines.specs.ReplyLines.{reply_line}
use Rattle.gateway.specs.Visiting.{Standing, standing, answered, after_line, course, followed, packet_lines, LineMeets, VisitMeets}

-- ---- whether a visit is over
-- one that has lost its reply is
lost_is_over : (v : Visit) → is_over (lost v).stage ≡ true
unfolding lost
lost_is_over v = by_test (is_over v.stage) (λ t. rw t t) (λ t. rw t)

-- whatever comes in, the visit is over at the end
pub course_is_over : (lines : List (List ℕ)) (s : Standing) → is_over (course lines s).visit.stage ≡ true
course_is_over [] s = lost_is_over s.visit
course_is_over (line ∷ lines) s = by_test (is_over s.visit.stage) (λ t. rw t t) (λ t. rw t (course_is_over lines (after_line line s)))

-- ---- lines that are replies
-- each line is such a reply, in their order
abbrev pub Replies : List (List ℕ) → List ℕ → Type 0
Replies [] [] = Unit {0}
Replies [] (word ∷ words) = ⊥
Replies (line ∷ lines) [] = ⊥
Replies (line ∷ lines) (word ∷ words) = (reply_line line ≡ Reply word) × Replies lines words

over_hears : (v : Visit) (words : List ℕ) → is_over v.stage ≡ true → heard_all v words ≡ v
over_hears v [] t = refl
over_hears v (word ∷ words) t = rw (over-hears-nothing v word t) (over_hears v words t)

-- .. make of the visit what the words make of it that they carry, and then the input ends
pub course_hears : (lines : List (List ℕ)) (words : List ℕ) (s : Standing) → Replies lines words
    → (course lines s).visit ≡ lost (heard_all s.visit words)
course_hears [] [] s r = refl
course_hears [] (word ∷ words) s r = absurd r
course_hears (line ∷ lines) [] s r = absurd r
course_hears (line ∷ lines) (word ∷ words) s r =
    by_test (is_over s.visit.stage) (λ t. rw (t, over_hears s.visit (word ∷ words) t, over_is_not_lost s.visit t))
    (λ t. rw (t, r.0) (course_hears lines words (answered (Reply word) s) r.1))

-- ---- what is held of a line serves as the line
silent_line : (line : List ℕ) → kind_of line ≡ Silent → reply_line line ≡ Nothing
unfolding reply_line
silent_line line e = rw e

long_line : (line : List ℕ) → kind_of line ≡ TooLong → reply_line line ≡ NoReply
unfolding reply_line
long_line line e = rw e

held_line : (room : ℕ) (line : List ℕ) → 4096 < room → reply_line (held_of room line) ≡ reply_line line
held_line room line some = by_kind (kind_of line) refl
  where
    by_kind : (kind : LineKind) → kind_of line ≡ kind → reply_line (held_of room line) ≡ reply_line line
    by_kind Clear e = ap reply_line (held_all room line (omega (arith, clear_short line e)))
    by_kind Silent e = silent_line (held_of room line) (kind_held room line some ∙ e) ∙ sym (silent_line line e)
    by_kind TooLong e = long_line (held_of room line) (kind_held room line some ∙ e) ∙ sym (long_line line e)

-- ---- lines served one after the other
-- what lines make of the visit, and the text in which the packets that follow them were put
abbrev pub Outcome : Type 0
Outcome = Standing × List ℕ

abbrev pub outcome : Standing → List ℕ → List (List ℕ) → Outcome
outcome s text lines = (course lines s, laid text (packet_lines lines s))

abbrev pub Came : List ℕ → Standing → List ℕ → ℕ → List ℕ → Standing → List ℕ → Type 0
Came start from buffer left unread s text = Comes (outcome from buffer) start (outcome s text) left unread

-- no line does anything to a visit that is over
over_stays : (s : Standing) (text : List ℕ) → is_over s.visit.stage ≡ true → (lines : List (List ℕ)) → outcome s text lines ≡ (s, text)
over_stays s text t [] = rw (over_is_not_lost s.visit t)
over_stays s text t (line ∷ lines) = rw t

module _ (start : List ℕ) (from : Standing) (buffer : List ℕ) where
  ends_visit : (r : Visit) (after text : List ℕ) → Ends (outcome from buffer) start (standing r after, text)
      → VisitMeets start from.visit from.notes buffer r after text
  ends_visit r after text e =
      record { brought = e.0; leaves = sym (ap (λ (o : Outcome). o.0) e.1); said = sym (ap (λ (o : Outcome). o.1) e.1) }

  module _ {left : ℕ} {unread text : List ℕ} (s : Standing) (c : Came start from buffer left unread s text) where
    pub none_comes : left ≤ 0 → (r : Visit) → r ≡ lost s.visit → VisitMeets start from.visit from.notes buffer r s.notes text
    none_comes none r e = rw e (ends_visit (lost s.visit) s.notes text (none_served c none))

    pub over_comes : is_over s.visit.stage ≡ true → VisitMeets start from.visit from.notes buffer s.visit s.notes text
    over_comes t = ends_visit s.visit s.notes text (over_served c (s, text) (over_stays s text t))

    module _ (goes_on : is_over s.visit.stage ≡ false) (more : 0 < left) {held end : ℕ} {source was lent line behind after spoken : List ℕ} {r : Visit}
        (some : 4096 < length line) (m : LineMeets (take held line) s.visit s.notes text r after spoken) where
      pub line_comes : NextMeets source unread was (Line held) lent end behind line → Came start from buffer (left - 1) behind (standing r after) spoken
      line_comes n =
          let first = first_line (unread ++ all_brought n.reads) in
          let same : reply_line (take held line) ≡ reply_line first = ap reply_line n.line ∙ held_line (length line) first some in
          let leaves : standing r after ≡ after_line first s = m.leaves ∙ ap (λ x. answered x s) same in
          let said : spoken ≡ laid text (followed (reply_line first) s.visit) = m.said ∙ ap (λ x. laid text (followed x s.visit)) same in
          line_served c more n (outcome (standing r after) spoken)
          (λ lines.
          rw (goes_on, leaves, said)
          (ap (λ (l : List ℕ). (course lines (after_line first s), l))
          (laid_on text (followed (reply_line first) s.visit) (packet_lines lines (after_line first s)))))

      pub last_comes : NextMeets source unread was (Last held) lent end behind line → (over : Visit) → over ≡ lost r
          → VisitMeets start from.visit from.notes buffer over after spoken
      last_comes n over e =
          let all = unread ++ all_brought n.reads in
          let whole = (open_line all n.ended).0 in
          let same : reply_line (take held line) ≡ reply_line all =
          ap reply_line (n.line ∙ ap (held_of (length line)) whole) ∙ held_line (length line) all some in
          let leaves : standing r after ≡ after_line all s = m.leaves ∙ ap (λ x. answered x s) same in
          let said : spoken ≡ laid text (followed (reply_line all) s.visit) = m.said ∙ ap (λ x. laid text (followed x s.visit)) same in
          let lose : standing over after ≡ standing (lost (after_line all s).visit) (after_line all s).notes =
          rw e (ap (λ (x : Standing). standing (lost x.visit) x.notes) leaves) in
          ends_visit over after spoken
          (last_served c more n (standing over after, spoken)
          (rw (goes_on, append-nil (followed (reply_line all) s.visit)) (rw (lose, said))))
