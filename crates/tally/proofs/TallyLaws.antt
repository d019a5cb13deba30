-- Laws of the tally: one item more changes the numbers of its code and no others.
use Rattle.std.specs.Prelude.{◌≡◌, refl, ℕ, zero, suc, ◌+◌, ◌≤◌, ◌<◌, Bool, true, false, cond, List, [], ◌∷◌, ◌++◌, eqb, length, get_or, set}
use Rattle.std.proofs.Common.{ap, sym, ◌∙◌, add-zero, zero-add, arith, length-set, ext_get_or, get_or-set_same, get_or-set_other, eq-eqb, ne_eqb, eqb-true}
use Rattle.std.proofs.lemmas.Bool.{eqb-false}
use Rattle.cycle.specs.declared.Item.{Item}
use Rattle.tally.specs.Tally.{one, count_of, first_of, last_of, each, per_code}

-- ---- a row of numbers, one for each code

pub length_each : (number : ℕ → ℕ) (code n : ℕ) → length (each number code n) ≡ n
unfolding each
length_each number code zero = refl
length_each number code (suc n) = ap suc (length_each number (suc code) n)

get_or_each : (number : ℕ → ℕ) (n code i : ℕ) → i < n → get_or (each number code n) i 0 ≡ number (code + i)
unfolding each
get_or_each number zero code i h = absurd (omega arith)
get_or_each number (suc n) code zero h = rw (add-zero code)
get_or_each number (suc n) code (suc i) h = get_or_each number n (suc code) i (omega arith) ∙ ap number (omega arith)

-- the number of a code
pub of_code : (number : ℕ → ℕ) (code : ℕ) → code < 16 → get_or (per_code number) code 0 ≡ number code
of_code number code h = get_or_each number 16 0 code h ∙ ap number (zero-add code)

-- another number at one code
pub row_set : (number new : ℕ → ℕ) (code : ℕ) → code < 16 → ((other : ℕ) → (other ≡ code → ⊥) → new other ≡ number other)
    → set (per_code number) code (new code) ≡ per_code new
row_set number new code h others =
    ext_get_or 0 (set (per_code number) code (new code)) (per_code new)
    (length-set (per_code number) code (new code) ∙ length_each number 0 16 ∙ sym (length_each new 0 16))
    (λ i k. by_place i (within i k) (eqb i code) refl)
  where
    within : (i : ℕ) → i < length (set (per_code number) code (new code)) → i < 16
    within i k = omega (arith, length-set (per_code number) code (new code), length_each number 0 16)

    by_place : (i : ℕ) → i < 16 → (b : Bool) → eqb i code ≡ b → get_or (set (per_code number) code (new code)) i 0 ≡ get_or (per_code new) i 0
    by_place i k true e =
        rw (eqb-true i code e, of_code new code h) (get_or-set_same (per_code number) code (new code) 0 (omega (arith, length_each number 0 16)))
    by_place i k false e =
        get_or-set_other (per_code number) code i (new code) 0 (eqb-false i code e)
        ∙ of_code number i k
        ∙ sym (others i (eqb-false i code e))
        ∙ sym (of_code new i k)

-- ---- one item more

pub count_snoc : (xs : List Item) (x : Item) (code : ℕ) → count_of (xs ++ (x ∷ [])) code ≡ count_of xs code + one (eqb x.code code)
unfolding count_of
count_snoc [] x code = omega arith
count_snoc (y ∷ ys) x code = omega (arith, count_snoc ys x code)

pub first_snoc : (xs : List Item) (x : Item) (code : ℕ)
    → first_of (xs ++ (x ∷ [])) code ≡ cond (eqb (count_of xs code) 0) (cond (eqb x.code code) x.cycle 0) (first_of xs code)
unfolding first_of count_of
first_snoc [] x code = refl
first_snoc (y ∷ ys) x code = by_code (eqb y.code code) (first_snoc ys x code)
  where
    X : ℕ
    X = cond (eqb x.code code) x.cycle 0

    by_code : (b : Bool) → first_of (ys ++ (x ∷ [])) code ≡ cond (eqb (count_of ys code) 0) X (first_of ys code)
        → cond b y.cycle (first_of (ys ++ (x ∷ [])) code) ≡ cond (eqb (one b + count_of ys code) 0) X (cond b y.cycle (first_of ys code))
    by_code true e = rw (ne_eqb (1 + count_of ys code) 0 (λ z. omega (arith, z)))
    by_code false e = rw (zero-add (count_of ys code)) e

pub last_snoc : (xs : List Item) (x : Item) (code : ℕ) → last_of (xs ++ (x ∷ [])) code ≡ cond (eqb x.code code) x.cycle (last_of xs code)
unfolding last_of count_of
last_snoc [] x code = refl
last_snoc (y ∷ ys) x code = by_code (eqb x.code code) (last_snoc ys x code) (count_snoc ys x code)
  where
    Y : ℕ
    Y = cond (eqb y.code code) y.cycle 0

    by_code : (b : Bool) → last_of (ys ++ (x ∷ [])) code ≡ cond b x.cycle (last_of ys code) → count_of (ys ++ (x ∷ [])) code ≡ count_of ys code + one b
        → cond (eqb (count_of (ys ++ (x ∷ [])) code) 0) Y (last_of (ys ++ (x ∷ [])) code) ≡ cond b x.cycle (cond (eqb (count_of ys code) 0) Y (last_of ys code))
    by_code true e n = rw (n, ne_eqb (count_of ys code + 1) 0 (λ z. omega (arith, z))) e
    by_code false e n = rw (n, add-zero (count_of ys code), e)

-- no first cycle of a code that does not occur
pub no_first : (xs : List Item) (code : ℕ) → count_of xs code ≡ 0 → first_of xs code ≡ 0
unfolding count_of first_of
no_first [] code e = refl
no_first (x ∷ xs) code e = by_code (eqb x.code code) e (no_first xs code)
  where
    by_code : (b : Bool) → one b + count_of xs code ≡ 0 → (count_of xs code ≡ 0 → first_of xs code ≡ 0) → cond b x.cycle (first_of xs code) ≡ 0
    by_code true e none = absurd (omega (arith, e))
    by_code false e none = none (omega (arith, e))

-- and no last
pub no_last : (xs : List Item) (code : ℕ) → count_of xs code ≡ 0 → last_of xs code ≡ 0
unfolding count_of last_of
no_last [] code e = refl
no_last (x ∷ xs) code e = by_code (eqb x.code code) e
  where
    by_code : (b : Bool) → one b + count_of xs code ≡ 0 → cond (eqb (count_of xs code) 0) (cond b x.cycle 0) (last_of xs code) ≡ 0
    by_code true e = absurd (omega (arith, e))
    by_code false e = rw (eq-eqb (count_of xs code) 0 (omega (arith, e)))

-- of no code are there more than items
pub count_le_length : (xs : List Item) (code : ℕ) → count_of xs code ≤ length xs
unfolding count_of
count_le_length [] code = omega arith
count_le_length (x ∷ xs) code = by_code (eqb x.code code) (count_le_length xs code)
  where
    by_code : (b : Bool) → count_of xs code ≤ length xs → one b + count_of xs code ≤ suc (length xs)
    by_code true h = omega arith
    by_code false h = omega arith
