-- Laws of lines served one after the other: what they come to is what the lines of all that was unread and all that reads have brought come to.
use Rattle.std.specs.Prelude.{ℕ, suc, ◌-◌, ◌≤◌, ◌<◌, ◌≡◌, List, [], ◌∷◌, ◌++◌, take}
use Rattle.std.proofs.Common.{arith, ap, sym, ◌∙◌, append-nil, append_assoc}
use Rattle.std.proofs.Math.Seq.{take-nil}
use Rattle.console.specs.declared.Input.TheVariants.{Line, Last}
use Rattle.console.specs.InputLines.{lines_of, first_line, left_over, most_lines, lines_served}
use Rattle.console.specs.InputLineLaws.{lines_end, ended_line}
use Rattle.console.specs.LineReading.{NextMeets, all_brought}

-- reads have brought some bytes since the start, and whatever comes yet: what all lines come to from the start is what those left come to from here
pub record Comes {A : Type 0} (whole : List (List ℕ) → A) (start : List ℕ) (here : List (List ℕ) → A) (left : ℕ) (unread : List ℕ) : Type 0 where
  pub brought : List ℕ
  pub goes_on : (rest : List ℕ) → whole (lines_served start (brought ++ rest)) ≡ here (take left (lines_of (unread ++ rest)))

-- it has come to its end
abbrev pub Ends : {A : Type 0} → (List (List ℕ) → A) → List ℕ → A → Type 0
Ends whole start value = (brought : List ℕ) × (whole (lines_served start brought) ≡ value)

pub comes_to_begin : {A : Type 0} (whole : List (List ℕ) → A) (start : List ℕ) (left : ℕ) → left ≡ most_lines → Comes whole start whole left start
comes_to_begin whole start left e = record { brought = []; goes_on = λ rest. rw e }

module _ {A : Type 0} {whole here : List (List ℕ) → A} {start unread : List ℕ} {left : ℕ} (c : Comes whole start here left unread) where
  -- with what more reads have brought
  with_reads : (more rest : List ℕ) → whole (lines_served start ((c.brought ++ more) ++ rest)) ≡ here (take left (lines_of ((unread ++ more) ++ rest)))
  with_reads more rest =
      ap (λ (b : List ℕ). whole (lines_served start b)) (append_assoc c.brought more rest)
      ∙ c.goes_on (more ++ rest)
      ∙ ap (λ (b : List ℕ). here (take left (lines_of b))) (sym (append_assoc unread more rest))

  first_of : 0 < left → (line : List ℕ) (lines : List (List ℕ)) → take left (line ∷ lines) ≡ line ∷ take (left - 1) lines
  first_of some line lines = let e : left ≡ suc (left - 1) = omega arith in ap (λ (n : ℕ). take n (line ∷ lines)) e

  module _ (some : 0 < left) {source before lent after buffer : List ℕ} {held end : ℕ} where
    -- one line more, which leads on
    pub line_served : (n : NextMeets source unread before (Line held) lent end after buffer) (next : List (List ℕ) → A)
        → ((lines : List (List ℕ)) → here (first_line (unread ++ all_brought n.reads) ∷ lines) ≡ next lines) → Comes whole start next (left - 1) after
    line_served n next leads =
        let more = all_brought n.reads in
        record {
          brought = c.brought ++ more;
          goes_on = λ rest. with_reads more rest
              ∙ ap (λ (ls : List (List ℕ)). here (take left ls)) (ended_line (unread ++ more) rest n.ended)
              ∙ ap here (first_of some (first_line (unread ++ more)) (lines_of (left_over (unread ++ more) ++ rest)))
              ∙ leads (take (left - 1) (lines_of (left_over (unread ++ more) ++ rest)))
              ∙ rw n.behind;
        }

    -- one that is the last to be served
    pub quit_served : (n : NextMeets source unread before (Line held) lent end after buffer) (value : A)
        → ((lines : List (List ℕ)) → here (first_line (unread ++ all_brought n.reads) ∷ lines) ≡ value) → Ends whole start value
    quit_served n value leads =
        let next = line_served n (λ lines. value) leads in
        (next.brought ++ [], next.goes_on [])

    -- the last line of the input
    pub last_served : (n : NextMeets source unread before (Last held) lent end after buffer) (value : A) → here ((unread ++ all_brought n.reads) ∷ []) ≡ value
        → Ends whole start value
    last_served n value leads =
        let more = all_brought n.reads in
        let all = unread ++ more in (
          (c.brought ++ more) ++ [],
          with_reads more []
              ∙ ap (λ (b : List ℕ). here (take left (lines_of b))) (append-nil all)
              ∙ ap (λ (ls : List (List ℕ)). here (take left ls)) (lines_end all n.ended)
              ∙ ap here (first_of some all [])
              ∙ ap (λ (ls : List (List ℕ)). here (all ∷ ls)) (take-nil (left - 1))
              ∙ leads,
        )

  -- none is served any more
  pub none_served : left ≤ 0 → Ends whole start (here [])
  none_served none = (c.brought ++ [], c.goes_on [] ∙ (let e : left ≡ 0 = omega arith in rw e))

  -- whatever lines follow
  pub over_served : (value : A) → ((lines : List (List ℕ)) → here lines ≡ value) → Ends whole start value
  over_served value leads = (c.brought ++ [], c.goes_on [] ∙ leads (take left (lines_of (unread ++ []))))
