use mathlib.Core.Logic.{inl, inr}
use mathlib.Core.Path.{refl, sym, ◌∙◌}
use Rattle.std.proofs.Common.{arith, ◌≡◌, ℕ, List, [], ◌∷◌, length, eqb-true}
use Rattle.text.specs.Text.{Puts}
use Rattle.text.specs.TextLaws.{nothing}
use Rattle.words.specs.LineWords.{kind_of}
use Rattle.pod_lines.specs.PodLines.{pod_meaning}
use Rattle.pod_answers.specs.PodSaid.{pod_said}
use Rattle.pod_answers.specs.PodSaidLaws.{pod_said_lem}
use Rattle.pod_answers.proofs.answer.Goals as goal

-- a line of no bytes is silent
no_bytes : (text line : List ℕ) → length line ≡ 0 → Puts text 0 (pod_said line) text 0
unfolding pod_said pod_meaning kind_of
no_bytes text [] e = nothing text 0
no_bytes text (byte ∷ bytes) e = absurd (omega (arith, e))

pub returns-then-is_empty : goal.returns-then-is_empty
returns-then-is_empty c = no_bytes c.args.text.now c.args.line.now (eqb-true _ _ (sym c.is_empty.ensures ∙ c.if-is_empty.true))

pub returns-in-Nothing : goal.returns-in-Nothing
returns-in-Nothing c = pod_said_lem _ refl _ c.read_line.ensures (rw c.in-Nothing.is (nothing _ _))

pub returns-in-Build : goal.returns-in-Build
returns-in-Build c = pod_said_lem _ refl _ c.read_line.ensures (rw c.in-Build.is c.build.ensures)

pub returns-in-Read : goal.returns-in-Read
returns-in-Read c = pod_said_lem _ refl _ c.read_line.ensures (rw c.in-Read.is c.read.ensures)

pub returns-in-BufferTooShort : goal.returns-in-BufferTooShort
returns-in-BufferTooShort c = pod_said_lem _ refl _ c.read_line.ensures (elim c.in-BufferTooShort.is [
  | inl short ↦ rw short c.put_unclear.ensures
  | inr unclear ↦ rw unclear c.put_unclear.ensures
])
