-- Laws of what a visit asks: each request is of one of five kinds, and within its ranges.
use Rattle.std.specs.Prelude.{ℕ, zero, suc, ◌-◌, ◌≤◌, ◌≡◌, refl, Bool, true, false, cond, ◌&&◌, List, [], ◌∷◌, leb, ltb, get_or}
use Rattle.std.proofs.Common.{arith, ltb-true, ltb-false, leb-true, le-leb}
use Rattle.std.proofs.lemmas.Bool.{lt-leb}
use Rattle.laws.specs.TestLaws.{either, both_hold}
use Rattle.memory.specs.declared.Size.TheVariants.{Long}
use Rattle.control.specs.Control.{control_numbers}
use Rattle.requests.specs.declared.Request.{Request}
use Rattle.requests.specs.declared.Request.TheVariants.{Read, Dump, Rdreg, Rcreg, Rdmreg}
use Rattle.requests.specs.Request.{in_range}
use Rattle.asked.specs.VisitRequests.{registers_asked, register_request, begins, address_at, table_request, request_at, in_table}

abbrev all_within : ℕ → List ℕ → Bool
all_within k [] = true
all_within k (x ∷ xs) = leb x k && all_within k xs

within_at : (k : ℕ) (l : List ℕ) (i : ℕ) → all_within k l ≡ true → get_or l i 0 ≤ k
within_at k [] i h = omega arith
within_at k (x ∷ xs) zero h = leb-true x k (both_hold (leb x k) (all_within k xs) h).0
within_at k (x ∷ xs) (suc i) h = within_at k xs i (both_hold (leb x k) (all_within k xs) h).1

-- what holds of each request that may be asked with this number
pub record EachAsked (j : ℕ) (P : Request → Type 0) : Type 0 where
  pub register : in_table j ≡ false → (n : ℕ) → n ≤ 15 → P (Rdreg n)
  pub control : in_table j ≡ false → (rc : ℕ) → rc ≤ 0xFFF → P (Rcreg rc)
  pub csr : in_table j ≡ false → P (Rdmreg 0)
  pub longword : in_table j ≡ true → (address : ℕ) → address ≤ 0xFFFFFFFF → P (Read Long address)
  pub further : in_table j ≡ true → begins (j - registers_asked) ≡ false → P (Dump Long)

pub each_asked : (P : Request → Type 0) (address j : ℕ) → EachAsked j P → P (request_at address j)
unfolding request_at
each_asked P address j e =
    either P (ltb j registers_asked) (register_request j) (table_request address (j - registers_asked))
    (λ t.
    let before : in_table j ≡ false = lt-leb registers_asked j (ltb-true j registers_asked t) in
    either P (ltb j 16) (Rdreg j) (cond (ltb j 26) (Rcreg (get_or control_numbers (j - 16) 0)) (Rdmreg 0))
    (λ t. e.register before j (omega (arith, ltb-true j 16 t)))
    (λ t.
    either P (ltb j 26) (Rcreg (get_or control_numbers (j - 16) 0)) (Rdmreg 0)
    (λ t. e.control before (get_or control_numbers (j - 16) 0) (within_at 0xFFF control_numbers (j - 16) refl))
    (λ t. e.csr before)))
    (λ t.
    let there : in_table j ≡ true = le-leb registers_asked j (ltb-false j registers_asked t) in
    let k = j - registers_asked in
    either P (begins k) (Read Long (address_at address k)) (Dump Long)
    (λ b. e.longword there (address_at address k) (omega arith))
    (λ b. e.further there b))

pub asked_in_range : (address j : ℕ) → in_range (request_at address j) ≡ true
asked_in_range address j =
    each_asked (λ r. in_range r ≡ true) address j
    (record {
      register = λ b n h. le-leb n 15 h;
      control = λ b rc h. le-leb rc 0xFFF h;
      csr = λ b. refl;
      longword = λ t a h. le-leb a 0xFFFFFFFF h;
      further = λ t b. refl;
    })
