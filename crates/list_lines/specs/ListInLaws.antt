-- Laws of the list in an input: by its head, and by its lines.
use Rattle.std.specs.Prelude.{◌≡◌, refl, ℕ, zero, suc, ◌+◌, ◌≤◌, ◌<◌, Bool, true, false, cond, Option, None, Some, List, [], ltb, length, drop}
use Rattle.std.proofs.Common.{ap, sym, ◌∙◌, arith, length-drop}
use Rattle.std.proofs.lemmas.Bool.{false≢true}
use Rattle.std.proofs.lemmas.List.Edits.{sets}
use borrow.Author.Tests.{lt-ltb, le-ltb, ltb-true, ltb-false}
use Rattle.laws.specs.TestLaws.{by_test}
use Rattle.laws.specs.Ascii.{ascii}
use Rattle.list_lines.specs.declared.Lines.{Lines}
use Rattle.list_lines.specs.declared.ListRead.{ListRead}
use Rattle.list_lines.specs.ListLines.{named, line_word, Listed, lines_with, lines_in, ListIn, no_list, list_behind, list_in, handed, LinesMeet, ListMeets}
use Rattle.list_lines.specs.ListLinesLaws.{named_took, lines_used}

-- a head that is none, in its first part or its second, and one with more lines than there is room for
module _ (room : ℕ) (bytes : List ℕ) where
  pub no_cycles : named (ascii "mended cycles=") 65536 32 bytes ≡ None → list_in room bytes ≡ no_list []
  unfolding list_in
  no_cycles e = rw e

  module _ {cycles used : ℕ} (e : named (ascii "mended cycles=") 65536 32 bytes ≡ Some (cycles, used)) where
    pub no_changed : named (ascii "changed=") 65536 10 (drop used bytes) ≡ None → list_in room bytes ≡ no_list []
    unfolding list_in
    no_changed f = rw (e, f)

    module _ {changed more : ℕ} (f : named (ascii "changed=") 65536 10 (drop used bytes) ≡ Some (changed, more)) where
      pub no_places : room < changed → list_in room bytes ≡ no_list []
      unfolding list_in
      no_places h = rw (e, f, lt-ltb room changed h)

      pub some_lines : changed ≤ room → list_in room bytes ≡ list_behind cycles changed (used + more) (lines_in changed (drop (used + more) bytes))
      unfolding list_in
      some_lines h = rw (e, f, le-ltb room changed h)

-- where there is none, nothing is handed over
pub none_met : (words before : List ℕ) {after : List ℕ} → after ≡ sets before 0 words → ListMeets (no_list words) before None after
none_met words before f = record { answer = refl; words = f }

-- the lines behind a head: all of them, or too few
module _ {bytes before after : List ℕ} {r : Lines} (cycles changed used : ℕ) (m : LinesMeet bytes changed before r after) where
  pub all_lines : r.all ≡ true
      → ListMeets (list_behind cycles changed used (lines_in changed bytes)) before
      (Some (record { cycles = cycles; changed = changed; from = used + r.used })) after
  all_lines e = rw (sym m.all ∙ e) (record { answer = rw m.used; words = m.words })

  pub too_few : r.all ≡ false → ListMeets (list_behind cycles changed used (lines_in changed bytes)) before None after
  too_few e = rw (sym m.all ∙ e) (none_met (lines_in changed bytes).words before m.words)

-- as many words as lines, where there are all
pub lines_count : (k : ℕ) (bytes : List ℕ) → (lines_in k bytes).all ≡ true → length (lines_in k bytes).words ≡ k
unfolding lines_in
lines_count zero bytes = λ e. refl
lines_count (suc k) bytes = by_line (line_word bytes) (λ used. lines_count k (drop used bytes))
  where
    by_line : (f : Option (ℕ × ℕ)) → ((used : ℕ) → (lines_in k (drop used bytes)).all ≡ true → length (lines_in k (drop used bytes)).words ≡ k)
        → (lines_with (lines_in k) bytes f).all ≡ true → length (lines_with (lines_in k) bytes f).words ≡ suc k
    by_line (Some (word, used)) rest e = ap suc (rest used e)
    by_line None rest e = absurd (false≢true e)

-- a list that is clear: its words are as many as it says, fit the buffer, and stand before the trace
pub record ClearList (told : ListIn) (room bytes : ℕ) : Type 0 where
  pub count : length told.words ≡ told.changed
  pub fits : told.changed ≤ room
  pub within : told.from ≤ bytes

clear_behind : (room cycles changed used : ℕ) (bytes : List ℕ) → changed ≤ room → used ≤ length bytes
    → (list_behind cycles changed used (lines_in changed (drop used bytes))).clear ≡ true
    → ClearList (list_behind cycles changed used (lines_in changed (drop used bytes))) room (length bytes)
clear_behind room cycles changed used bytes h k = by_all (lines_in changed (drop used bytes)).all refl
  where
    lines : Listed
    lines = lines_in changed (drop used bytes)

    by_all : (t : Bool) → lines.all ≡ t → (list_behind cycles changed used lines).clear ≡ true
        → ClearList (list_behind cycles changed used lines) room (length bytes)
    by_all true e c =
        rw e (
        record {
          count = lines_count changed (drop used bytes) e;
          fits = h;
          within = omega (arith, lines_used changed (drop used bytes), length-drop used bytes);
        }
        )
    by_all false e c = absurd (false≢true (rw e at c))

pub clear_list : (room : ℕ) (bytes : List ℕ) → (list_in room bytes).clear ≡ true → ClearList (list_in room bytes) room (length bytes)
clear_list room bytes c = by_cycles (named (ascii "mended cycles=") 65536 32 bytes) refl
  where
    none : list_in room bytes ≡ no_list [] → ClearList (list_in room bytes) room (length bytes)
    none e = absurd (false≢true (rw e at c))

    by_changed : {cycles used : ℕ} → named (ascii "mended cycles=") 65536 32 bytes ≡ Some (cycles, used)
        → (f : Option (ℕ × ℕ)) → named (ascii "changed=") 65536 10 (drop used bytes) ≡ f → ClearList (list_in room bytes) room (length bytes)
    by_changed {cycles} {used} e (Some (changed, more)) f =
        by_test (ltb room changed)
        (λ t. none (no_places room bytes e f (ltb-true room changed t)))
        (λ t. let fits = ltb-false room changed t in
        let is = some_lines room bytes e f fits in
        let one = named_took (ascii "mended cycles=") 65536 32 bytes cycles used e in
        let two = named_took (ascii "changed=") 65536 10 (drop used bytes) changed more f in
        rw is (clear_behind room cycles changed (used + more) bytes fits (omega (arith, length-drop used bytes)) (rw is at c)))
    by_changed e None f = none (no_changed room bytes e f)

    by_cycles : (f : Option (ℕ × ℕ)) → named (ascii "mended cycles=") 65536 32 bytes ≡ f → ClearList (list_in room bytes) room (length bytes)
    by_cycles (Some (cycles, used)) e = by_changed e (named (ascii "changed=") 65536 10 (drop used bytes)) refl
    by_cycles None e = none (no_cycles room bytes e)

-- a list that is handed over is clear, and is what it says; where none is, it is not
pub record Handed (told : ListIn) (l : ListRead) : Type 0 where
  pub clear : told.clear ≡ true
  pub cycles : l.cycles ≡ told.cycles
  pub changed : l.changed ≡ told.changed
  pub from : l.from ≡ told.from

pub some_handed : (told : ListIn) (l : ListRead) → Some l ≡ handed told → Handed told l
some_handed told l e = by_clear told.clear refl e
  where
    by_clear : (t : Bool) → told.clear ≡ t → Some l ≡ cond t (Some (record { cycles = told.cycles; changed = told.changed; from = told.from })) None
        → Handed told l
    by_clear true c f =
        let same : l ≡ record { cycles = told.cycles; changed = told.changed; from = told.from } = cc in
        record {
          clear = c;
          cycles = ap (λ (r : ListRead). r.cycles) same;
          changed = ap (λ (r : ListRead). r.changed) same;
          from = ap (λ (r : ListRead). r.from) same;
        }
    by_clear false c f = cc

pub none_handed : (told : ListIn) → None ≡ handed told → told.clear ≡ false
none_handed told e = by_clear told.clear _ refl e
  where
    by_clear : (t : Bool) (l : ListRead) → told.clear ≡ t → None ≡ cond t (Some l) None → told.clear ≡ false
    by_clear true l c f = cc
    by_clear false l c f = c
