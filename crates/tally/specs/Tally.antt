-- The page (02, [2]): of each code how many items, the first cycle and the last; and the instruction starts.
use Rattle.std.specs.Prelude.{ℕ, zero, suc, ◌+◌, Bool, cond, ◌||◌, List, [], ◌∷◌, eqb}
use Rattle.cycle.specs.declared.Item.{Item}

-- one where the test holds
abbrev pub one : Bool → ℕ
one b = cond b 1 0

-- "the number .. of items of each code"
unfoldable pub count_of : List Item → ℕ → ℕ
count_of [] code = 0
count_of (x ∷ xs) code = one (eqb x.code code) + count_of xs code

-- "the first and last cycle of each that occurs"; 0 for one that does not
unfoldable pub first_of : List Item → ℕ → ℕ
first_of [] code = 0
first_of (x ∷ xs) code = cond (eqb x.code code) x.cycle (first_of xs code)

unfoldable pub last_of : List Item → ℕ → ℕ
unfolding count_of
last_of [] code = 0
last_of (x ∷ xs) code = cond (eqb (count_of xs code) 0) (cond (eqb x.code code) x.cycle 0) (last_of xs code)

-- "instruction starts (codes 1, 4, 5, 7)"
abbrev pub start : ℕ → Bool
start code = eqb code 1 || (eqb code 4 || (eqb code 5 || eqb code 7))

unfoldable pub starts_of : List Item → ℕ
starts_of [] = 0
starts_of (x ∷ xs) = one (start x.code) + starts_of xs

-- one number for each of n codes, from a code on
unfoldable pub each : (ℕ → ℕ) → ℕ → ℕ → List ℕ
each number code zero = []
each number code (suc n) = number code ∷ each number (suc code) n

-- one number for each of the sixteen codes
abbrev pub per_code : (ℕ → ℕ) → List ℕ
per_code number = each number 0 16
