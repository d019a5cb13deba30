-- Items noted one after the other: what the functions that note them promise each other.
use Rattle.std.specs.Prelude.{◌≡◌, ℕ, ◌+◌, cond, List, ◌++◌, eqb, get_or, set, Err, Ok, Result}
use Rattle.trace.specs.declared.Refused.{Refused}
use Rattle.std.proofs.lemmas.List.Edits.{sets}
use Rattle.cycle.specs.declared.Carried.{Carried}
use Rattle.cycle.specs.declared.Item.{Item}
use Rattle.summary.specs.declared.noting.Noted.{Noted}
use Rattle.cycle.specs.CycleItems.{value_item}
use Rattle.trace.specs.Items.{items}
use Rattle.tally.specs.Tally.{count_of, first_of, last_of, per_code}
use Rattle.index.specs.Index.{index_words}

-- what is noted is the tally of some items
pub record Tallied (xs : List Item) (t : Noted) : Type 0 where
  pub count : t.counts ≡ per_code (count_of xs)
  pub first : t.firsts ≡ per_code (first_of xs)
  pub last : t.lasts ≡ per_code (last_of xs)

-- one item more of a code: one more, its cycle the first where there was none, and the last
abbrev pub with_item : Noted → ℕ → ℕ → Noted
with_item t code cycle =
    record {
      counts = set t.counts code (get_or t.counts code 0 + 1);
      firsts = set t.firsts code (cond (eqb (get_or t.counts code 0) 0) cycle (get_or t.firsts code 0));
      lasts = set t.lasts code cycle;
    }

-- noting some items: the tally of any items before becomes the tally of these too
abbrev pub Notes : List Item → Noted → Noted → Type 0
Notes xs t t' = (before : List Item) → Tallied before t → Tallied (before ++ xs) t'

-- noting a value's item: whatever the value is
abbrev pub NotesValue : ℕ → Carried → Noted → Noted → Type 0
NotesValue i carried t t' = (trace : List ℕ) → Notes (value_item trace i carried) t t'

-- what a trace that can be read leaves: the tally of its items, and its index from the front of the entries on
abbrev pub ReadTallied : List ℕ → List ℕ → Result ℕ Refused → Noted → List ℕ → Type 0
ReadTallied trace before (Ok n) t entries = Tallied (items trace) t × (entries ≡ sets before 0 (index_words trace))
ReadTallied trace before (Err r) t entries = Unit
