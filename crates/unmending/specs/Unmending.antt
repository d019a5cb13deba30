-- Traces with dropouts (02, [5]), the way back: "putting the listed PSTs back gives the trace as it was recorded".
use Rattle.std.specs.Prelude.{◌≡◌, ℕ, ◌+◌, ◌*◌, ◌/◌, ◌%◌, Bool, cond, ◌&&◌, List, [], ◌∷◌, leb, length, set}
use Rattle.same.specs.SameList.{same}
use Rattle.cycle.specs.Cycle.{ddata}
use Rattle.mending.specs.Mending.{mended, changes}

-- "cycle times 16 plus PST": the trace with that PST at that cycle; where it has no such cycle, as it is
abbrev pub put_word : List ℕ → ℕ → List ℕ
put_word trace word = set trace (word / 16) (word % 16 * 16 + ddata trace (word / 16))

-- one word after the other, so that of two for one cycle the later stays
unfoldable pub put_back : List ℕ → List ℕ → List ℕ
put_back trace [] = trace
put_back trace (word ∷ words) = put_back (put_word trace word) words

-- whether a list is this mended trace's: with the PSTs put back and mended again, both come out
unfoldable pub is_its_list : List ℕ → List ℕ → Bool
is_its_list trace words = leb (length trace) 65536 && (same (mended (put_back trace words)) trace && same (changes (put_back trace words)) words)

-- what unmending promises, for every trace and every list: where the list is not the trace's, nothing is put back
pub record UnmendingMeets (trace words : List ℕ) (r : Bool) (after : List ℕ) : Type 0 where
  pub answer : r ≡ is_its_list trace words
  pub cycles : after ≡ cond (is_its_list trace words) (put_back trace words) trace
