-- Entries of small traces and the listings from them, computed from the definitions, which hold at every cycle and not only at 0, 256, 512 and so on.
use Rattle.std.specs.Prelude.{◌≡◌, refl, ℕ, ◌+◌, ◌*◌, List, [], ◌∷◌}
use Rattle.cycle.specs.declared.Carried.{Carried}
use Rattle.cycle.specs.Cycle.{nothing, gives_own, after, carried_into, value}
use Rattle.cycle.specs.CycleItems.{items_at}
use Rattle.trace.specs.Items.{items_before, items_from, words}
use Rattle.trace.specs.TraceReading.{Told, refusal, counted, too_long, earliest, ends_inside, too_short, judged_from}
use Rattle.listing.specs.Listing.{listing_from}
use Rattle.cycle.specs.CycleExamples.{p9}
use Rattle.index.specs.declared.Entry.{Entry}
use Rattle.index.specs.Entry.{entry_at, entry_word, of_word}
use Rattle.index.proofs.EntryLaws.{items_on}

abbrev carrying : ℕ → ℕ → ℕ → Carried
carrying marker due run = record { marker = marker; due = due; run = run }

abbrev entry : ℕ → ℕ → Carried → Entry
entry cycle items carried = record { cycle = cycle; items = items; carried = carried }

-- a run of C that goes on over a marker
abbrev run_over : List ℕ
run_over = 0xC0 ∷ 0x80 ∷ 0xC1 ∷ 0xC2 ∷ []

-- the answer of a listing from an entry
abbrev from : List ℕ → Entry → ℕ → Told
from trace e room = listing_from trace e.cycle e.carried room

pub record Shown : Type 0 where
  -- P9's entry of cycle 4, inside the transfer of its 9: two items before it, three of four nibbles still due
  pub inside : entry_at p9 4 ≡ entry 4 2 (carrying 9 3 0)
  pub inside_word : entry_word (entry_at p9 4) ≡ 0x2930
  pub inside_back : of_word 4 0x2930 ≡ entry_at p9 4
  -- its listing is P9's from the third item on, and the value has its first nibble from a cycle before the entry
  pub inside_words : words (items_on p9 (entry_at p9 4)) ≡ (6 * 16 + 9) ∷ 4660 ∷ (6 * 16 + 1) ∷ 0 ∷ (7 * 16 + 15) ∷ 0 ∷ []
  pub inside_six : from p9 (entry_at p9 4) 6 ≡ counted 3
  pub inside_five : from p9 (entry_at p9 4) 5 ≡ refusal 11 0
  -- its entry of cycle 8, on the run of F: no item is left; without the run there would be one
  pub on_run : entry_at p9 8 ≡ entry 8 5 (carrying 9 0 15)
  pub on_run_none : from p9 (entry_at p9 8) 0 ≡ counted 0
  pub run_forgotten : from p9 (entry 8 5 (carrying 9 0 0)) 2 ≡ counted 1
  -- inside both: the value is the one item left
  pub in_both : entry_at run_over 2 ≡ entry 2 1 (carrying 8 2 12)
  pub in_both_words : words (items_on run_over (entry_at run_over 2)) ≡ (3 * 16 + 8) ∷ 0x21 ∷ []
  -- at the end nothing is left, and beyond it an entry is as good as its transfer is done
  pub at_end : from p9 (entry_at p9 9) 0 ≡ counted 0
  pub beyond : from p9 (entry 100 0 nothing) 0 ≡ counted 0
  pub beyond_due : from p9 (entry 100 0 (carrying 8 1 0)) 0 ≡ refusal 10 0
  -- a transfer that is not under way is missed at its nibbles: a marker among them is no longer too soon
  pub transfer_missed : from (0x90 ∷ 0x01 ∷ 0x82 ∷ 0x03 ∷ 0x04 ∷ []) (entry 2 0 (carrying 9 0 0)) 2 ≡ counted 1
  pub transfer_told : from (0x90 ∷ 0x01 ∷ 0x82 ∷ 0x03 ∷ 0x04 ∷ []) (entry 2 0 (carrying 9 3 0)) 2 ≡ refusal 9 2
  -- cycles before the entry are not judged
  pub not_judged : from (0x20 ∷ 0x10 ∷ []) (entry 1 0 nothing) 2 ≡ counted 1

pub shown : Shown
unfolding gives_own after carried_into value items_at items_before items_from too_long earliest ends_inside too_short judged_from listing_from
shown =
    record {
      inside = refl;
      inside_word = refl;
      inside_back = refl;
      inside_words = refl;
      inside_six = refl;
      inside_five = refl;
      on_run = refl;
      on_run_none = refl;
      run_forgotten = refl;
      in_both = refl;
      in_both_words = refl;
      at_end = refl;
      beyond = refl;
      beyond_due = refl;
      transfer_missed = refl;
      transfer_told = refl;
      not_judged = refl;
    }
