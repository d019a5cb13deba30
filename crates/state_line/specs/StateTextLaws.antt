-- Laws of the text of `state`: mark by mark, and its flags.
use Rattle.std.specs.Prelude.{ℕ, ◌+◌, ◌<◌, ◌≡◌, refl, Bool, true, false, List, ◌++◌, length, drop, get_or}
use mir.Val.{bool_byte}
use Rattle.std.proofs.Common.{add-one, drop-cons}
use Rattle.state_line.specs.StateText.{bit_of}
use Rattle.state_line.specs.StateTextMirror.{mark_text, next_after, form_text}

-- the form from one of its marks on
pub form_on : (form values : List ℕ) (i next : ℕ) → i < length form
    → form_text (drop i form) next values ≡ mark_text (get_or form i 0) next values
    ++ form_text (drop (i + 1) form) (next_after (get_or form i 0) next values) values
form_on form values i next h = rw (add-one i, drop-cons form i 0 h)

-- a flag as a number
pub bit : (flag : Bool) → bool_byte flag ≡ bit_of flag
bit true = refl
bit false = refl
