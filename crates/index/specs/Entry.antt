-- The index (02, [2]): what an entry says of the cycles before its own, and the word that stands for it.
use Rattle.std.specs.Prelude.{ℕ, ◌+◌, ◌*◌, ◌/◌, ◌%◌, List, length, Result}
use Rattle.trace.specs.declared.Refused.{Refused}
use Rattle.cycle.specs.Cycle.{carried_into}
use Rattle.trace.specs.Items.{items_before}
use Rattle.listing.specs.Listing.{ListingFromMeets}
use Rattle.index.specs.declared.Entry.{Entry}

-- "the number of items before it, any transfer under way and any run of C to F it stands in"
abbrev pub entry_at : List ℕ → ℕ → Entry
entry_at trace i = record { cycle = i; items = length (items_before trace i); carried = carried_into trace i }

-- an entry is one 32-bit word: items times 4096, marker times 256, nibbles due times 16, run
abbrev pub entry_word : Entry → ℕ
entry_word e = e.items * 4096 + e.carried.marker * 256 + e.carried.due * 16 + e.carried.run

-- the entry that a word stands for
abbrev pub of_word : ℕ → ℕ → Entry
of_word cycle word = record { cycle = cycle; items = word / 4096; carried = record { marker = word / 256 % 16; due = word / 16 % 16; run = word % 16 } }

-- "a listing may start there": what one from an entry promises, for every entry, of whatever trace: the answer, and every word of the buffer
abbrev pub EntryMeets : List ℕ → Entry → List ℕ → Result ℕ Refused → List ℕ → Type 0
EntryMeets trace e before r after = ListingFromMeets trace e.cycle e.carried before r after
