-- Memory lent to a history: a list whose bytes are seen to be bytes.
use Rattle.std.specs.Prelude.{ℕ, zero, suc, ◌≡◌, refl, Bool, true, ◌&&◌, List, [], ◌∷◌, ltb}
use Rattle.memory.specs.Memory.{AllBelow}
use Rattle.std.proofs.Common.{arith, ltb-true}
use Rattle.laws.specs.TestLaws.{both_hold}
use Rattle.promises.specs.History.{Lent, Call}
use Rattle.promises.specs.History.Call.{packet}

abbrev pub all_bytes : List ℕ → Bool
all_bytes [] = true
all_bytes (x ∷ xs) = ltb x 256 && all_bytes xs

pub bytes_narrow : (xs : List ℕ) → all_bytes xs ≡ true → AllBelow 256 xs
bytes_narrow [] h i = omega arith
bytes_narrow (x ∷ xs) h zero = ltb-true x 256 (both_hold (ltb x 256) (all_bytes xs) h).0
bytes_narrow (x ∷ xs) h (suc i) = bytes_narrow xs (both_hold (ltb x 256) (all_bytes xs) h).1 i

abbrev pub lent : (xs : List ℕ) → all_bytes xs ≡ true → Lent
lent xs h = record { bytes = xs; narrow = bytes_narrow xs h }

abbrev pub no_memory : Lent
no_memory = lent [] refl

-- words sent one after another, each lent the same memory
abbrev pub sends : Lent → List ℕ → List Call
sends m [] = []
sends m (word ∷ words) = packet m word ∷ sends m words
