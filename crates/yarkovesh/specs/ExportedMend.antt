-- What programs in other languages are answered of a trace mended, and put back (02, [5]), each answer one number.
use Rattle.std.specs.Prelude.{◌≡◌, ℕ, cond, List, length}
use Rattle.mending.specs.Mending.{mended, changes}
use Rattle.mending.specs.MendingAnswer.{mending, put_front}
use Rattle.unmending.specs.Unmending.{put_back, is_its_list}
use Rattle.yarkovesh.specs.Exported.{listing_number}

-- the number of changed cycles; or the ground's number in the upper 32 bits
pub record MendNumberMeets (trace bytes words : List ℕ) (r : ℕ) (bytes' words' : List ℕ) : Type 0 where
  pub answer : r ≡ listing_number (mending trace (length bytes) (length words))
  pub cycles : bytes' ≡ put_front (mended trace) bytes (mending trace (length bytes) (length words))
  pub list : words' ≡ put_front (changes trace) words (mending trace (length bytes) (length words))

-- 1 where the list is the trace's
pub record UnmendNumberMeets (trace words : List ℕ) (r : ℕ) (after : List ℕ) : Type 0 where
  pub answer : r ≡ cond (is_its_list trace words) 1 0
  pub cycles : after ≡ cond (is_its_list trace words) (put_back trace words) trace
