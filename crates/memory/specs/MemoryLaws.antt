-- Laws of memory: a store keeps the length and the bytes, and a fetch stays within its size; the lowest address that is not there.
use Rattle.std.specs.Prelude.{ℕ, zero, suc, ◌+◌, ◌/◌, ◌%◌, ◌^◌, ◌≤◌, ◌<◌, ◌≡◌, refl, false, List, [], ◌∷◌, leb, length, set}
use Rattle.std.proofs.Common.{le_refl, arith, leb-true, leb-false, length-set}
use Rattle.laws.specs.TestLaws.{either, by_test}
use Rattle.memory.specs.declared.Size.{Size}
use Rattle.memory.specs.declared.Size.TheVariants.{Byte, Word, Long}
use Rattle.memory.specs.Memory.{AllBelow, bytes, aligned, present, first_missing, value_at, put_at, put_word, stored}

pub set_keeps_below : (k : ℕ) (l : List ℕ) (j x : ℕ) → AllBelow k l → x < k → AllBelow k (set l j x)
set_keeps_below k [] j x h f i = h i
set_keeps_below k (y ∷ ys) zero x h f zero = f
set_keeps_below k (y ∷ ys) zero x h f (suc i) = h (suc i)
set_keeps_below k (y ∷ ys) (suc j) x h f zero = h zero
set_keeps_below k (y ∷ ys) (suc j) x h f (suc i) = set_keeps_below k ys j x (λ n. h (suc n)) f i

put_word_keeps_bytes : (m : List ℕ) (at v : ℕ) → AllBelow 256 m → AllBelow 256 (put_word m at v)
put_word_keeps_bytes m at v h =
    set_keeps_below 256 (set m at (v / 256 % 256)) (at + 1) (v % 256) (set_keeps_below 256 m at (v / 256 % 256) h (omega arith)) (omega arith)

put_keeps_bytes : (m : List ℕ) (s : Size) (at v : ℕ) → AllBelow 256 m → AllBelow 256 (put_at m s at v)
put_keeps_bytes m Byte at v h = set_keeps_below 256 m at (v % 256) h (omega arith)
put_keeps_bytes m Word at v h = put_word_keeps_bytes m at v h
put_keeps_bytes m Long at v h = put_word_keeps_bytes (put_word m at (v / 65536)) (at + 2) v (put_word_keeps_bytes m at (v / 65536) h)

pub put_keeps_length : (m : List ℕ) (s : Size) (at v : ℕ) → length (put_at m s at v) ≡ length m
put_keeps_length m Byte at v = simp length-set
put_keeps_length m Word at v = simp length-set
put_keeps_length m Long at v = simp length-set

pub store_keeps_bytes : (m : List ℕ) (s : Size) (a v : ℕ) → AllBelow 256 m → AllBelow 256 (stored m s a v)
unfolding stored
store_keeps_bytes m s a v h = either (AllBelow 256) (present m s a) (put_at m s (aligned s a) v) m (λ t. put_keeps_bytes m s (aligned s a) v h) (λ t. h)

pub store_keeps_length : (m : List ℕ) (s : Size) (a v : ℕ) → length (stored m s a v) ≡ length m
unfolding stored
store_keeps_length m s a v =
    either (λ (l : List ℕ). length l ≡ length m) (present m s a) (put_at m s (aligned s a) v) m (λ t. put_keeps_length m s (aligned s a) v) (λ t. refl)

-- one more than the largest value of a size
abbrev pub limit : Size → ℕ
limit Byte = 256
limit Word = 65536
limit Long = 4294967296

pub value_within : (m : List ℕ) (s : Size) (at : ℕ) → AllBelow 256 m → value_at m s at < limit s
value_within m Byte at h = h at
value_within m Word at h = omega (arith, h at, h (at + 1))
value_within m Long at h = omega (arith, h at, h (at + 1), h (at + 2), h (at + 2 + 1))

-- an access ends at 2^32 at the latest, so that memory which ends within one is shorter
access_ends : (s : Size) (a : ℕ) → a < 2 ^ 32 → aligned s a + bytes s ≤ 2 ^ 32
access_ends Byte a h = omega arith
access_ends Word a h = omega arith
access_ends Long a h = omega arith

pub missing_fits : (m : List ℕ) (s : Size) (a : ℕ) → a < 2 ^ 32 → present m s a ≡ false → length m < 2 ^ 32
missing_fits m s a h e = omega (arith, access_ends s a h, leb-false (aligned s a + bytes s) (length m) e)

some_byte : (s : Size) → 1 ≤ bytes s
some_byte Byte = omega arith
some_byte Word = omega arith
some_byte Long = omega arith

-- [4] "the lowest address of the access that isn't there": one of its own, beyond memory, and every lower one of the access is there
pub record LowestMissing (m : List ℕ) (s : Size) (a first : ℕ) : Type 0 where
  pub from : aligned s a ≤ first
  pub within : first < aligned s a + bytes s
  pub beyond : length m ≤ first
  pub lower : (k : ℕ) → aligned s a ≤ k → k < first → k < length m

pub lowest_missing : (m : List ℕ) (s : Size) (a : ℕ) → present m s a ≡ false → LowestMissing m s a (first_missing m s a)
lowest_missing m s a e =
    let start : ℕ = aligned s a in
    let short : length m < start + bytes s = leb-false (start + bytes s) (length m) e in
    let some : 1 ≤ bytes s = some_byte s in
    by_test (leb (length m) start)
    (λ t.
    let past : length m ≤ start = leb-true (length m) start t in
    rw t (record { from = le_refl start; within = omega (arith, some); beyond = past; lower = λ k f g. absurd (omega arith) }))
    (λ t.
    let there : start < length m = leb-false (length m) start t in
    rw t (record { from = omega (arith, there); within = short; beyond = le_refl (length m); lower = λ k f g. g }))
