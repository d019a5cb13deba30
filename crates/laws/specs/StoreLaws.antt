-- Laws of stores to a buffer, one after the other, and of counting what is left.
use Rattle.std.specs.Prelude.{ℕ, suc, ◌+◌, ◌-◌, ◌≤◌, ◌<◌, ◌≡◌, List, [], ◌∷◌, ◌++◌, length, drop, set}
use Rattle.std.proofs.Common.{ap, sym, ◌∙◌, add-zero, zero-add, add-suc, suc-add, arith}
use Rattle.std.proofs.lemmas.List.Edits.{sets, sets-eq}
use Rattle.std.proofs.Math.Seq.{length-sets}

-- two runs of stores are one
pub sets_append : (a b l : List ℕ) (k : ℕ) → sets l k (a ++ b) ≡ sets (sets l k a) (k + length a) b
sets_append [] b l k = rw (add-zero k)
sets_append (x ∷ a) b l k =
    sets_append a b (set l k x) (suc k)
    ∙ ap (λ (m : ℕ). sets (sets (set l k x) (suc k) a) m b) (suc-add k (length a) ∙ sym (add-suc k (length a)))

-- stores keep the buffer's length
pub length_stored : (before vs : List ℕ) (k : ℕ) {after : List ℕ} → after ≡ sets before k vs → length after ≡ length before
length_stored before vs k e = ap length e ∙ length-sets before k vs

-- stores from the front on leave what stands beyond them
pub sets_front : (vs l : List ℕ) → length vs ≤ length l → sets l 0 vs ≡ vs ++ drop (length vs) l
sets_front vs l h = rw (zero-add (length vs)) at (sets-eq vs l 0 (omega arith))

-- before the end one is left, and those after it
pub one_left : (n i : ℕ) → i < n → n - i ≡ suc (n - (i + 1))
one_left n i h = omega arith
