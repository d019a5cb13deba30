-- Laws of the text of `peek`: byte by byte.
use Rattle.std.specs.Prelude.{ℕ, zero, suc, ◌+◌, ◌-◌, ◌≤◌, ◌<◌, ◌≡◌, refl, List, [], ◌++◌, get_or}
use Rattle.std.proofs.Common.{arith, add-zero, add-suc, add-one}
use Rattle.std.proofs.Math.Nat.{sub-zero}
use Rattle.text.specs.NumberText.{hex_text}
use Rattle.replies.specs.ReplyText.{bytes_text}

-- the bytes from one of them on
pub bytes_on : (m : List ℕ) (from count i : ℕ) → i < count
    → bytes_text m (from + i) (count - i) ≡ hex_text 2 (get_or m (from + i) 0) ++ bytes_text m (from + (i + 1)) (count - (i + 1))
bytes_on m from count i h = by_left (count - i) refl
  where
    by_left : (left : ℕ) → count - i ≡ left
        → bytes_text m (from + i) left ≡ hex_text 2 (get_or m (from + i) 0) ++ bytes_text m (from + (i + 1)) (count - (i + 1))
    by_left zero e = absurd (omega arith)
    by_left (suc left) e = let f : count - (i + 1) ≡ left = omega arith in rw (f, add-one, add-suc)

pub bytes_begin : (m : List ℕ) (from count : ℕ) → bytes_text m (from + 0) (count - 0) ≡ bytes_text m from count
bytes_begin m from count = rw (add-zero, sub-zero)

pub bytes_end : (m : List ℕ) (from count i : ℕ) → count ≤ i → bytes_text m (from + i) (count - i) ≡ []
bytes_end m from count i h = let none : count - i ≡ 0 = omega arith in rw none
