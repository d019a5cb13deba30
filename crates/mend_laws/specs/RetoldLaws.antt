-- Laws of a trace with other PSTs: its length, its PSTs and its nibbles, cycle by cycle.
use Rattle.std.specs.Prelude.{◌≡◌, Bool, true, false, eqb, length, get_or, set}
use Rattle.std.proofs.Math.Path.{refl}
use Rattle.std.proofs.Common.{ap, sym, ◌∙◌, arith, length-set, get_or-set_same, get_or-set_other, ext_get_or, eqb-true}
use Prim.Native.Nat.{ℕ, zero, suc, ◌+◌, ◌*◌, ◌/◌, ◌%◌, ◌<◌}
use mathlib.Core.List.{List, [], ◌∷◌}
use Rattle.std.proofs.Math.ListN.{get_or-append}
use Rattle.std.proofs.lemmas.List.{get_or_at}
use Rattle.std.proofs.lemmas.Bool.{eqb-false}
use Rattle.cycle.specs.Cycle.{pst, ddata}
use Rattle.mending.specs.Mending.{retold}
use Rattle.mending.specs.MendingStoreLaws.{retold_length}

module _ (psts : ℕ → ℕ) (trace : List ℕ) where
  -- a byte of it: the PST given, and the nibble that was there
  pub retold_byte : (n i : ℕ) → i < n → get_or (retold psts trace n) i 0 ≡ psts i * 16 + ddata trace i
  unfolding retold
  retold_byte zero i h = absurd (omega arith)
  retold_byte (suc n) i h = by_place (eqb i n) refl (retold_byte n i)
    where
      last : List ℕ
      last = (psts n * 16 + ddata trace n) ∷ []

      by_place : (t : Bool) → eqb i n ≡ t → (i < n → get_or (retold psts trace n) i 0 ≡ psts i * 16 + ddata trace i)
          → get_or (retold psts trace (suc n)) i 0 ≡ psts i * 16 + ddata trace i
      by_place true e before = rw (eqb-true i n e) (get_or_at (retold psts trace n) (psts n * 16 + ddata trace n) [] 0 n (retold_length psts trace n))
      by_place false e before =
          let earlier : i < n = omega (arith, eqb-false i n e) in
          get_or-append (retold psts trace n) last 0 i (omega (arith, retold_length psts trace n)) ∙ before earlier

  module _ (n i : ℕ) (h : i < n) where
    pub retold_pst : pst (retold psts trace n) i ≡ psts i
    retold_pst = omega (arith, retold_byte n i h)

    pub retold_ddata : ddata (retold psts trace n) i ≡ ddata trace i
    retold_ddata = omega (arith, retold_byte n i h)

-- with the PSTs that it has, a trace is itself
pub retold_same : (psts : ℕ → ℕ) (trace : List ℕ) → ((i : ℕ) → i < length trace → psts i ≡ pst trace i) → retold psts trace (length trace) ≡ trace
retold_same psts trace same = ext_get_or 0 (retold psts trace n) trace (retold_length psts trace n) byte
  where
    n : ℕ
    n = length trace

    byte : (i : ℕ) → i < length (retold psts trace n) → get_or (retold psts trace n) i 0 ≡ get_or trace i 0
    byte i h = let within : i < n = omega (arith, retold_length psts trace n) in omega (arith, retold_byte psts trace n i within, same i within)

-- and with the same PSTs the same
pub retold_agree : (psts others : ℕ → ℕ) (trace : List ℕ) (n : ℕ) → ((i : ℕ) → i < n → psts i ≡ others i) → retold psts trace n ≡ retold others trace n
unfolding retold
retold_agree psts others trace zero same = refl
retold_agree psts others trace (suc n) same = rw (retold_agree psts others trace n (λ i h. same i (omega arith)), same n (omega arith))

-- with another PST at one cycle, put there in its place
pub retold_set : (psts others : ℕ → ℕ) (trace : List ℕ) (n i : ℕ) → i < n → ((j : ℕ) → j < n → (j ≡ i → ⊥) → psts j ≡ others j)
    → set (retold psts trace n) i (others i * 16 + ddata (retold psts trace n) i) ≡ retold others trace n
retold_set psts others trace n i h same = ext_get_or 0 (set before i byte) (retold others trace n) (lengths) at_place
  where
    before : List ℕ
    before = retold psts trace n

    byte : ℕ
    byte = others i * 16 + ddata before i

    lengths : length (set before i byte) ≡ length (retold others trace n)
    lengths = length-set before i byte ∙ retold_length psts trace n ∙ sym (retold_length others trace n)

    there : (j : ℕ) → j < n → (t : Bool) → eqb j i ≡ t → get_or (set before i byte) j 0 ≡ get_or (retold others trace n) j 0
    there j k true e =
        rw (eqb-true j i e) (
        get_or-set_same before i byte 0 (omega (arith, retold_length psts trace n))
        ∙ rw (retold_ddata psts trace n i h) (sym (retold_byte others trace n i h))
        )
    there j k false e =
        get_or-set_other before i j byte 0 (eqb-false j i e)
        ∙ retold_byte psts trace n j k
        ∙ rw (same j k (eqb-false j i e)) (sym (retold_byte others trace n j k))

    at_place : (j : ℕ) → j < length (set before i byte) → get_or (set before i byte) j 0 ≡ get_or (retold others trace n) j 0
    at_place j k = there j (omega (arith, lengths, retold_length others trace n)) (eqb j i) refl
