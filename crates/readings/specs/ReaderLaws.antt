-- Laws of the reader: one that is done stays, and the reading of a list goes on from any of its replies.
use Rattle.std.specs.Prelude.{ℕ, suc, ◌+◌, ◌≤◌, ◌<◌, ◌≡◌, refl, true, false, List, [], ◌∷◌, length, drop, get_or, Option, Result}
use Rattle.readings.specs.declared.Outcome.{Outcome}
use Rattle.grounds.specs.declared.Ground.{Ground}
use Rattle.memory.specs.declared.Size.{Size}
use Rattle.std.proofs.Common.{arith, add-zero, zero-add, add-one, drop_of_length-le, drop-cons}
use Rattle.readings.specs.declared.Reader.{Reader}
use Rattle.readings.specs.declared.Reader.TheVariants.{First, Second, Closed, Bad}
use Rattle.readings.specs.Reader.{after_reply, after_replies, done, used}
use Rattle.readings.specs.Reading.{answered, reading_of}

-- a reader that is done stays as it is
pub done_stays : (k : Option Size) (d : Reader) (rs : List ℕ) → done d ≡ true → after_replies k d rs ≡ d
done_stays k d [] h = refl
done_stays k First (r ∷ rs) h = cc
done_stays k (Second upper) (r ∷ rs) h = cc
done_stays k (Closed outcome) (r ∷ rs) h = done_stays k (Closed outcome) rs h
done_stays k (Bad why) (r ∷ rs) h = done_stays k (Bad why) rs h

-- .. and takes no word more
pub done_uses_none : (k : Option Size) (d : Reader) (rs : List ℕ) → done d ≡ true → used k d rs ≡ 0
done_uses_none k d [] h = refl
done_uses_none k d (r ∷ rs) h = rw h

-- the reading of the replies from one of them on, with n words used before
abbrev pub reading_from : Option Size → Reader → ℕ → List ℕ → Result (Option Outcome × ℕ) Ground
reading_from k d n rs = answered (after_replies k d rs) (n + used k d rs)

pub from_start : (k : Option Size) (rs : List ℕ) → reading_from k First 0 rs ≡ reading_of k rs
from_start k rs = rw (zero-add (used k First rs))

pub from_done : (k : Option Size) (d : Reader) (n : ℕ) (rs : List ℕ) → done d ≡ true → reading_from k d n rs ≡ answered d n
from_done k d n rs h = rw (done_stays k d rs h, done_uses_none k d rs h, add-zero n)

pub from_past : (k : Option Size) (d : Reader) (i : ℕ) (rs : List ℕ) → length rs ≤ i → reading_from k d i (drop i rs) ≡ answered d i
from_past k d i rs h = rw (drop_of_length-le rs h, add-zero i)

pub from_next : (k : Option Size) (d : Reader) (i : ℕ) (rs : List ℕ) → i < length rs → done d ≡ false
    → reading_from k d i (drop i rs) ≡ reading_from k (after_reply k d (get_or rs i 0)) (i + 1) (drop (i + 1) rs)
from_next k d i rs h more =
    let rest = drop (suc i) rs in
    let d' = after_reply k d (get_or rs i 0) in
    let e : i + (1 + used k d' rest) ≡ i + 1 + used k d' rest = omega arith in
    rw (drop-cons rs i 0 h, more, e, add-one i)
