-- P9 (01, "What the desk checks by eye") and the limits of "Recorded cycles", computed from the definitions.
use Rattle.std.specs.Prelude.{◌≡◌, refl, ℕ, zero, suc, ◌+◌, ◌*◌, ◌≤◌, ◌<◌, List, [], ◌∷◌, length, get_or, replicate}
use Rattle.std.proofs.Math.Nat.{sub-zero}
use Rattle.std.proofs.Common.{arith, lt-ltb, le-ltb}
use Rattle.std.proofs.lemmas.List.{length-replicate}
use Rattle.cycle.specs.declared.Carried.{Carried}
use Rattle.cycle.specs.Cycle.{nothing, gives_own, after, carried_into, value}
use Rattle.cycle.specs.CycleItems.{items_at}
use Rattle.cycle.specs.CycleExamples.{p9, p9_words}
use Rattle.trace.specs.Items.{items_before, items, words}
use Rattle.trace.specs.TraceReading.{Told, refusal, counted, too_long, earliest, ends_inside, too_short, judged_from}
use Rattle.listing.specs.Listing.{listing}

pub record Shown : Type 0 where
  -- "trace cycles=9 items=5", and its lines "0 1 0", "1 5 0", "6 9 4660", "6 1 0", "7 15 0"
  pub p9_words_lem : words (items p9) ≡ p9_words
  -- "five items into 10 words, into 9"
  pub ten_words : listing p9 10 ≡ counted 5
  pub nine_words : listing p9 9 ≡ refusal 11 0
  -- an empty trace has no items, and needs no buffer
  pub empty : listing [] 0 ≡ counted 0
  -- a run of C goes on over a marker (so the second item is the value's), ends with PST 0, and is none of D's
  pub run_over_marker : words (items (0xC0 ∷ 0x80 ∷ 0xC1 ∷ 0xC2 ∷ [])) ≡ (0 * 16 + 12) ∷ 0 ∷ (3 * 16 + 8) ∷ 0x21 ∷ []
  pub run_ended : listing (0xC0 ∷ 0x00 ∷ 0xC0 ∷ []) 4 ≡ counted 2
  pub two_runs : listing (0xC0 ∷ 0xD0 ∷ []) 4 ≡ counted 2
  -- a marker on the last nibble's cycle, and one cycle earlier
  pub marker_on_last : listing (0x80 ∷ 0x01 ∷ 0x82 ∷ 0x03 ∷ 0x04 ∷ []) 4 ≡ counted 2
  pub marker_too_soon : listing (0x80 ∷ 0x81 ∷ 0x02 ∷ 0x03 ∷ []) 4 ≡ refusal 9 1
  -- a marker in the last cycle, and a trace that ends a cycle before its last nibble
  pub marker_last : listing (0x10 ∷ 0x80 ∷ []) 4 ≡ refusal 10 0
  pub nibble_missing : listing (0x80 ∷ 0x01 ∷ []) 4 ≡ refusal 10 0
  -- 8 at a later cycle comes before 10, and the earlier of 8 and 9 before the later
  pub reserved_first : listing (0x80 ∷ 0x21 ∷ []) 0 ≡ refusal 8 1
  pub reserved_earlier : listing (0x80 ∷ 0x60 ∷ 0x90 ∷ []) 0 ≡ refusal 8 1
  pub soon_earlier : listing (0x90 ∷ 0x80 ∷ 0x20 ∷ []) 0 ≡ refusal 9 1

pub shown : Shown
unfolding gives_own after carried_into value items_at items_before items too_long earliest ends_inside too_short judged_from listing
shown =
    record {
      p9_words_lem = refl;
      ten_words = refl;
      nine_words = refl;
      empty = refl;
      run_over_marker = refl;
      run_ended = refl;
      two_runs = refl;
      marker_on_last = refl;
      marker_too_soon = refl;
      marker_last = refl;
      nibble_missing = refl;
      reserved_first = refl;
      reserved_earlier = refl;
      soon_earlier = refl;
    }

-- n cycles of PST 0
abbrev quiet : ℕ → List ℕ
quiet n = replicate n 0

quiet_length : (n : ℕ) → length (quiet n) ≡ n
quiet_length n = length-replicate {A = ℕ} n 0

quiet_byte : (n i : ℕ) → get_or (quiet n) i 0 ≡ 0
quiet_byte zero i = refl
quiet_byte (suc n) zero = refl
quiet_byte (suc n) (suc i) = quiet_byte n i

quiet_carried : (n i : ℕ) → carried_into (quiet n) i ≡ nothing
unfolding carried_into after
quiet_carried n zero = refl
quiet_carried n (suc i) = rw (quiet_byte n i, quiet_carried n i)

quiet_items : (n i : ℕ) → items_before (quiet n) i ≡ []
unfolding items_before items_at gives_own
quiet_items n zero = refl
quiet_items n (suc i) = rw (quiet_items n i, quiet_byte n i, quiet_carried n i)

quiet_passes : (n k i : ℕ) (otherwise : Carried → Told) → earliest (quiet n) i nothing k otherwise ≡ otherwise nothing
unfolding earliest after
quiet_passes n zero i otherwise = refl
quiet_passes n (suc k) i otherwise = rw (quiet_byte n i) (quiet_passes n k (i + 1) otherwise)

-- 65,536 cycles are listed; one more is 7, whatever they hold
pub longest_read : (n : ℕ) → n ≤ 65536 → listing (quiet n) 0 ≡ counted 0
unfolding listing judged_from too_long ends_inside too_short items
longest_read n h = rw (quiet_length n, le-ltb 65536 n h, sub-zero n, quiet_passes n n 0, quiet_items n n)

pub longer_refused : (trace : List ℕ) (room : ℕ) → 65536 < length trace → listing trace room ≡ refusal 7 0
unfolding listing judged_from too_long
longer_refused trace room h = rw (lt-ltb 65536 (length trace) h)

pub limit_met : listing (quiet 65536) 0 ≡ counted 0
limit_met = longest_read 65536 (omega arith)

pub limit_passed : listing (quiet 65537) 0 ≡ refusal 7 0
limit_passed = longer_refused (quiet 65537) 0 (rw (quiet_length 65537) (omega arith))
