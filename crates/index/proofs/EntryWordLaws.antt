-- Laws of an entry's word: it fits 32 bits, and the entry is read back from it.
use Rattle.std.specs.Prelude.{ℕ, ◌/◌, ◌%◌, ◌≤◌, ◌<◌, ◌^◌, ◌≡◌, List}
use Rattle.std.proofs.Common.{arith}
use Rattle.trace.specs.ItemLaws.{items_before_le}
use Rattle.index.specs.declared.Entry.{Entry}
use Rattle.index.specs.Entry.{entry_at, entry_word, of_word}
use Rattle.index.specs.Index.{Bytes}
use Rattle.index.specs.RangeLaws.{marker_at_most, due_at_most, run_below}

-- an entry whose parts fit their places is read back from its word
pub word_read_back : (e : Entry) → e.carried.marker < 16 → e.carried.due < 16 → e.carried.run < 16 → of_word e.cycle (entry_word e) ≡ e
word_read_back e m d r = rw (items_back, marker_back, due_back, run_back)
  where
    items_back : entry_word e / 4096 ≡ e.items
    items_back = omega arith

    marker_back : entry_word e / 256 % 16 ≡ e.carried.marker
    marker_back = omega arith

    due_back : entry_word e / 16 % 16 ≡ e.carried.due
    due_back = omega arith

    run_back : entry_word e % 16 ≡ e.carried.run
    run_back = omega arith

-- of a trace of bytes
module _ (trace : List ℕ) (bytes : Bytes trace) (i : ℕ) where
  pub entry_read_back : of_word i (entry_word (entry_at trace i)) ≡ entry_at trace i
  entry_read_back = word_read_back (entry_at trace i) (omega (arith, marker_at_most trace i)) (omega (arith, due_at_most trace i)) (run_below trace bytes i)

  pub entry_word_fits : i ≤ 65536 → entry_word (entry_at trace i) < 2 ^ 32
  entry_word_fits h = omega (arith, items_before_le trace i, marker_at_most trace i, due_at_most trace i, run_below trace bytes i)
