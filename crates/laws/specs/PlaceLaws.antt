-- Laws of a list from a place on.
use Rattle.std.specs.Prelude.{ℕ, ◌+◌, ◌<◌, ◌≡◌, List, ◌∷◌, length, get_or, drop}
use Rattle.std.proofs.Common.{add-one, drop-cons}

-- what stands there, and the list from the next place on
pub from_here : (list : List ℕ) (i : ℕ) → i < length list → drop i list ≡ get_or list i 0 ∷ drop (i + 1) list
from_here list i h = rw (add-one, drop-cons list i 0)
