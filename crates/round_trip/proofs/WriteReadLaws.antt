-- A WRITE and then a READ of the same place: what was written is read.
use Rattle.std.specs.Prelude.{ℕ, ◌+◌, ◌/◌, ◌%◌, ◌≤◌, ◌<◌, ◌≡◌, true, List, length, get_or, set}
use Rattle.std.proofs.Common.{arith, ap, ◌∙◌, length-set, get_or-set_same, get_or-set_other, leb-true}
use Rattle.memory.specs.declared.Size.{Size}
use Rattle.memory.specs.declared.Size.TheVariants.{Byte, Word, Long}
use Rattle.memory.specs.Memory.{bytes, aligned, present, word_at, value_at, put_word, put_at}
use Rattle.memory.specs.MemoryLaws.{limit, put_keeps_length}
use Rattle.requests.specs.declared.Request.TheVariants.{Read, Write}
use Rattle.readings.specs.declared.Outcome.TheVariants.{Value, Complete}
use Rattle.requests.specs.Request.{data_in_range, in_range}
use Rattle.laws.specs.TestLaws.{both_hold}
use Rattle.round_trip.specs.Meaning.{Scene, meaning}

-- ---- the bytes of a store are fetched back
module _ (m : List ℕ) (at v : ℕ) where
  word_back : at + 2 ≤ length m → word_at (put_word m at v) at ≡ v % 65536
  word_back h =
      let upper : get_or (put_word m at v) at 0 ≡ v / 256 % 256 =
      get_or-set_other (set m at (v / 256 % 256)) (at + 1) at (v % 256) 0 (λ e. omega arith) ∙ get_or-set_same m at (v / 256 % 256) 0 (omega arith) in
      let lower : get_or (put_word m at v) (at + 1) 0 ≡ v % 256 =
      get_or-set_same (set m at (v / 256 % 256)) (at + 1) (v % 256) 0 (simp length-set (omega arith)) in
      rw (upper, lower) (omega arith)

  word_apart : word_at (put_word m (at + 2) v) at ≡ word_at m at
  word_apart =
      let l : List ℕ = set m (at + 2) (v / 256 % 256) in
      let upper : get_or (put_word m (at + 2) v) at 0 ≡ get_or m at 0 =
      get_or-set_other l (at + 2 + 1) at (v % 256) 0 (λ e. omega arith) ∙ get_or-set_other m (at + 2) at (v / 256 % 256) 0 (λ e. omega arith) in
      let lower : get_or (put_word m (at + 2) v) (at + 1) 0 ≡ get_or m (at + 1) 0 =
      get_or-set_other l (at + 2 + 1) (at + 1) (v % 256) 0 (λ e. omega arith) ∙ get_or-set_other m (at + 2) (at + 1) (v / 256 % 256) 0 (λ e. omega arith) in
      rw (upper, lower)

pub stored_is_fetched : (size : Size) (m : List ℕ) (at v : ℕ) → at + bytes size ≤ length m → v < limit size → value_at (put_at m size at v) size at ≡ v
stored_is_fetched Byte m at v h f = get_or-set_same m at (v % 256) 0 (omega arith) ∙ omega arith
stored_is_fetched Word m at v h f = word_back m at v h ∙ omega arith
stored_is_fetched Long m at v h f =
    let l : List ℕ = put_word m at (v / 65536) in
    let len : length l ≡ length m = simp length-set in
    let upper : word_at (put_word l (at + 2) v) at ≡ v / 65536 % 65536 = word_apart l at v ∙ word_back m at (v / 65536) (omega arith) in
    let lower : word_at (put_word l (at + 2) v) (at + 2) ≡ v % 65536 = word_back l (at + 2) v (omega arith) in
    rw (upper, lower) (omega arith)

data_within : (size : Size) (v : ℕ) → data_in_range size v ≡ true → v < limit size
data_within Byte v h = omega (arith, leb-true v 0xFF h)
data_within Word v h = omega (arith, leb-true v 0xFFFF h)
data_within Long v h = omega (arith, leb-true v 0xFFFFFFFF h)

-- ---- as requests mean
pub record WrittenAndRead (size : Size) (address value : ℕ) (s : Scene) : Type 0 where
  -- the WRITE completes
  pub completes : (meaning (Write size address value) s).outcome ≡ Complete
  -- and a READ of what it leaves gives the value written
  pub reads : (meaning (Read size address) (meaning (Write size address value) s).leaves).outcome ≡ Value value

pub write_then_read : (size : Size) (address value : ℕ) (s : Scene) → in_range (Write size address value) ≡ true → present s.memory size address ≡ true
    → WrittenAndRead size address value s
write_then_read size address value s h there =
    let m = s.memory in
    let at = aligned size address in
    let room : at + bytes size ≤ length m = leb-true (at + bytes size) (length m) there in
    let fits = data_within size value (both_hold (data_in_range Long address) (data_in_range size value) h).1 in
    record {
      completes = rw there;
      reads = rw (there, put_keeps_length m size at value, there) (ap Value (stored_is_fetched size m at value room fits));
    }
