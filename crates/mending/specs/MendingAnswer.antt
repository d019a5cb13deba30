-- Traces with dropouts (02, [5]): the refusals in their order, and what mending leaves in both buffers.
use Rattle.std.specs.Prelude.{◌≡◌, ℕ, List, ◌++◌, length, drop, Err, Ok, Result}
use Rattle.grounds.specs.declared.Ground.{Ground}
use Rattle.grounds.specs.Grounds.{number}
use Rattle.trace.specs.TraceReading.{Told, refusal, counted, too_long, too_short}
use Rattle.mending.specs.Mending.{mended, changes}

-- 01's number and values for each case of the answer; what is counted are the changed cycles
abbrev pub told_mending : Result ℕ Ground → Told
told_mending (Ok n) = counted n
told_mending (Err why) = refusal (number why) 0

-- "Refusals: 7, then 11 for the mended trace, then 11 for the list", where there is room for so many bytes and so many words
unfoldable pub mending : List ℕ → ℕ → ℕ → Told
mending trace bytes words =
    too_long trace (too_short (length trace) bytes (too_short (length (changes trace)) words (counted (length (changes trace)))))

-- "nothing is written on any of them"; else what is put stands at the front, and what stands behind it stays
abbrev pub put_front : List ℕ → List ℕ → Told → List ℕ
put_front put before (refusal number cycle) = before
put_front put before (counted n) = put ++ drop (length put) before

-- what mending promises, for every trace and every two buffers
pub record MendingMeets (trace bytes words : List ℕ) (r : Result ℕ Ground) (bytes' words' : List ℕ) : Type 0 where
  -- the answer's number and values are 01's
  pub answer : told_mending r ≡ mending trace (length bytes) (length words)
  -- every byte of the one buffer
  pub cycles : bytes' ≡ put_front (mended trace) bytes (mending trace (length bytes) (length words))
  -- every word of the other
  pub list : words' ≡ put_front (changes trace) words (mending trace (length bytes) (length words))
