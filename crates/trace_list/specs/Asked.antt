-- "FROM is a multiple of 256 .., or `unclear`" (the desk's language, [2]): what the word typed comes to, before any trace is read.
use Rattle.std.specs.Prelude.{ℕ, ◌+◌, ◌-◌, ◌*◌, ◌%◌, cond, List, [], ◌∷◌, ltb, eqb}
use Rattle.trace_list.specs.declared.asked.Asked.{Asked}
use Rattle.trace_list.specs.declared.asked.Asked.TheVariants.{Whole, From, Unclear}

-- decimal digits alone, and the number has a place of 32 bits: what the bytes come to after those that have made n
unfoldable pub decimal : ℕ → List ℕ → Asked
decimal n [] = From n
decimal n (byte ∷ bytes) =
    cond (ltb byte 48) Unclear
    (cond (ltb 57 byte) Unclear
    (cond (ltb 0xFFFFFFFF (n * 10 + (byte - 48))) Unclear
    (decimal (n * 10 + (byte - 48)) bytes)))

-- "a multiple of 256"
abbrev pub multiple : Asked → Asked
multiple (From cycle) = cond (eqb (cycle % 256) 0) (From cycle) Unclear
multiple Unclear = Unclear
multiple Whole = Unclear

-- no digit is no number
unfoldable pub from_of : List ℕ → Asked
from_of [] = Unclear
from_of (byte ∷ bytes) = multiple (decimal 0 (byte ∷ bytes))

-- the promise of what is asked: nothing behind the program's name is the whole trace, one word what it comes to, more are unclear
pub data AskedMeets : Asked → Type 0 where
  none : AskedMeets Whole
  one : (word : List ℕ) → AskedMeets (from_of word)
  more : AskedMeets Unclear
