-- Words put into a lent buffer at a place of it: what the writing functions promise each other.
use Rattle.std.specs.Prelude.{◌≡◌, ℕ, ◌+◌, List, length}
use Rattle.std.proofs.lemmas.List.Edits.{sets}

pub record Stored (words : List ℕ) (at : ℕ) (before : List ℕ) (r : ℕ) (after : List ℕ) : Type 0 where
  -- the answer is the place after them
  pub place : r ≡ at + length words
  -- they stand there, and all else is as it was
  pub stored : after ≡ sets before at words
