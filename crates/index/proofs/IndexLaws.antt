-- Laws of the index: one cycle more, and which entry stands where.
use Rattle.std.specs.Prelude.{◌≡◌, refl, Bool, true, false, cond, eqb, length, get_or, set}
use Rattle.std.proofs.Common.{ap, sym, ◌∙◌, zero-add, arith, length-append, eqb-true}
use Prim.Native.Nat.{ℕ, zero, suc, ◌+◌, ◌*◌, ◌/◌, ◌%◌, ◌<◌}
use mathlib.Core.List.{List, [], ◌∷◌, ◌++◌}
use Rattle.std.proofs.Math.ListN.{get_or-append}
use Rattle.std.proofs.lemmas.List.Edits.{sets}
use Rattle.std.proofs.lemmas.List.{get_or_at}
use Rattle.std.proofs.lemmas.Bool.{eqb-false}
use Rattle.cycle.specs.declared.Carried.{Carried}
use Rattle.cycle.specs.Cycle.{carried_into}
use Rattle.trace.specs.Items.{items_before}
use Rattle.laws.specs.StoreLaws.{sets_append}
use Rattle.index.specs.Entry.{entry_at, entry_word, of_word}
use Rattle.index.proofs.EntryWordLaws.{entry_read_back}
use Rattle.index.specs.Index.{entry_count, first_entries, index_words, Bytes}

pub length_entries : (trace : List ℕ) (n : ℕ) → length (first_entries trace n) ≡ n
unfolding first_entries
length_entries trace zero = refl
length_entries trace (suc n) = length-append (first_entries trace n) _ ∙ omega (arith, length_entries trace n)

pub length_index : (trace : List ℕ) → length (index_words trace) ≡ entry_count (length trace)
unfolding index_words
length_index trace = length_entries trace (entry_count (length trace))

-- at every 256th cycle an entry more, at its place
module _ (trace before : List ℕ) (i : ℕ) where
  entry_due : i % 256 ≡ 0 → (entry_count (i + 1) ≡ suc (i / 256)) × (entry_count i ≡ i / 256) × (256 * (i / 256) ≡ i)
  entry_due e = (omega arith, omega arith, omega arith)

  entry_not_due : (i % 256 ≡ 0 → ⊥) → entry_count (i + 1) ≡ entry_count i
  entry_not_due e = omega (arith, e)

  entry_put : i % 256 ≡ 0 → set (sets before 0 (first_entries trace (entry_count i))) (i / 256) (entry_word (entry_at trace i))
      ≡ sets before 0 (first_entries trace (entry_count (i + 1)))
  unfolding first_entries
  entry_put e =
      rw ((entry_due e).0, (entry_due e).1)
      (sym (sets_append E (entry_word (entry_at trace (256 * (i / 256))) ∷ []) before 0
      ∙ rw (zero-add (length E), length_entries trace (i / 256), (entry_due e).2) refl))
    where
      E : List ℕ
      E = first_entries trace (i / 256)

  -- a cycle's word put, or not, where the words of the cycles before it stand
  pub entry_next : (index : List ℕ) (items : ℕ) (c : Carried) → index ≡ sets before 0 (first_entries trace (entry_count i))
      → items ≡ length (items_before trace i) → c ≡ carried_into trace i
      → cond (eqb (i % 256) 0) (set index (i / 256) (entry_word (record { cycle = i; items = items; carried = c }))) index
      ≡ sets before 0 (first_entries trace (entry_count (i + 1)))
  entry_next index items c e f g = rw (e, f, g) (by_place (eqb (i % 256) 0) refl)
    where
      E : List ℕ
      E = sets before 0 (first_entries trace (entry_count i))

      by_place : (b : Bool) → eqb (i % 256) 0 ≡ b
          → cond b (set E (i / 256) (entry_word (entry_at trace i))) E ≡ sets before 0 (first_entries trace (entry_count (i + 1)))
      by_place true t = entry_put (eqb-true (i % 256) 0 t)
      by_place false t = rw (entry_not_due (eqb-false (i % 256) 0 t))

-- every word of the index is the entry of its cycle
pub entry_stands : (trace : List ℕ) (n k : ℕ) → k < n → get_or (first_entries trace n) k 0 ≡ entry_word (entry_at trace (256 * k))
unfolding first_entries
entry_stands trace zero k h = absurd (omega arith)
entry_stands trace (suc n) k h = by_place (eqb k n) refl (entry_stands trace n k)
  where
    E : List ℕ
    E = first_entries trace n

    w : ℕ
    w = entry_word (entry_at trace (256 * n))

    by_place : (b : Bool) → eqb k n ≡ b → (k < n → get_or E k 0 ≡ entry_word (entry_at trace (256 * k)))
        → get_or (E ++ (w ∷ [])) k 0 ≡ entry_word (entry_at trace (256 * k))
    by_place true e on = rw (eqb-true k n e) (get_or_at E w [] 0 n (length_entries trace n))
    by_place false e on =
        get_or-append E (w ∷ []) 0 k (omega (arith, eqb-false k n e, length_entries trace n)) ∙ on (omega (arith, eqb-false k n e))

pub index_entry : (trace : List ℕ) (k : ℕ) → 256 * k < length trace → get_or (index_words trace) k 0 ≡ entry_word (entry_at trace (256 * k))
unfolding index_words
index_entry trace k h = entry_stands trace (entry_count (length trace)) k (omega arith)

-- THE LAW: what is read from a word of the index is what the cycles before its own carry
pub index_read_back : (trace : List ℕ) → Bytes trace → (k : ℕ) → 256 * k < length trace
    → of_word (256 * k) (get_or (index_words trace) k 0) ≡ entry_at trace (256 * k)
index_read_back trace bytes k h = ap (of_word (256 * k)) (index_entry trace k h) ∙ entry_read_back trace bytes (256 * k)
