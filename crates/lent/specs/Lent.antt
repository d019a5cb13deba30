-- The bytes that the bench lends (the desk's language, `memory` and `bytes`).
use Rattle.std.specs.Prelude.{ℕ, zero, suc, ◌+◌, ◌*◌, Bool, cond, List, [], ◌∷◌, leb}
use Rattle.std.proofs.lemmas.List.Edits.{sets}
use Rattle.numbers.specs.Numbers.{byte_at}

-- so many numbers, by their places
abbrev pub listed : (ℕ → ℕ) → ℕ → List ℕ
listed f zero = []
listed f (suc n) = f 0 ∷ listed (λ k. f (suc k)) n

-- "N zero bytes"
abbrev pub zeros : ℕ → List ℕ
zeros n = listed (λ k. 0) n

-- "the N bytes HEX (two digits each)"
abbrev pub bytes_from : List ℕ → ℕ → ℕ → List ℕ
bytes_from line start n = listed (λ k. byte_at line (start + 2 * k)) n

-- "`unclear` where they don't fit"
abbrev pub fits : ℕ → ℕ → ℕ → Bool
fits address count lent = leb (address + count) lent

-- "put at A by the bench itself, not through the port"
abbrev pub bytes_put : List ℕ → ℕ → ℕ → ℕ → ℕ → List ℕ → List ℕ
bytes_put line start count address lent m = cond (fits address count lent) (sets m address (bytes_from line start count)) m
