-- W plays no part in what a request means: in whether it is legal, in what it answers, or in what it leaves.
use Rattle.std.specs.Prelude.{ℕ, ◌≡◌}
use Rattle.std.proofs.Math.Path.{refl}
use Rattle.memory.specs.declared.Size.{Size}
use Rattle.memory.specs.Memory.{present}
use Rattle.csr.specs.Csr.{csr_value}
use Rattle.control.specs.Control.{control_listed}
use Rattle.requests.specs.declared.Request.{Request}
use Rattle.requests.specs.declared.Request.TheVariants.{Rdreg, Wdreg, Read, Write, Dump, Fill, Go, Nop, SyncPc, Rcreg, Wcreg, Rdmreg, Wdmreg}
use Rattle.board.specs.Setters.{with_w}
use Rattle.round_trip.specs.Meaning.{Scene, Meaning, meaning, reads, writes}
use Rattle.round_trip.specs.RoundTrip.{legal_there}
use Rattle.laws.specs.TestLaws.{by_test}

-- the same with another wait setting
abbrev pub at_w : ℕ → Scene → Scene
at_w w s = record { board = with_w s.board w; chain = s.chain; pointer = s.pointer; memory = s.memory }

abbrev pub meant_at_w : ℕ → Meaning → Meaning
meant_at_w w m = record { outcome = m.outcome; leaves = at_w w m.leaves }

pub record SameAt (w : ℕ) (request : Request) (s : Scene) : Type 0 where
  -- it is legal at one W where it is at another
  pub legal : legal_there request (at_w w s) ≡ legal_there request s
  -- it answers the same, and leaves the same but for W
  pub meant : meaning request (at_w w s) ≡ meant_at_w w (meaning request s)

module _ (w : ℕ) (s : Scene) where
  read_at : (size : Size) (a : ℕ) → reads size a (at_w w s) ≡ meant_at_w w (reads size a s)
  read_at size a = by_test (present s.memory size a) (λ h. rw h) (λ h. rw h)

  write_at : (size : Size) (a v : ℕ) → writes size a v (at_w w s) ≡ meant_at_w w (writes size a v s)
  write_at size a v = by_test (present s.memory size a) (λ h. rw h) (λ h. rw h)

  same_meaning : (request : Request) → meaning request (at_w w s) ≡ meant_at_w w (meaning request s)
  unfolding csr_value
  same_meaning (Rdreg n) = refl
  same_meaning (Wdreg n v) = refl
  same_meaning (Read size a) = read_at size a
  same_meaning (Write size a v) = write_at size a v
  same_meaning (Dump size) = read_at size s.pointer
  same_meaning (Fill size v) = write_at size s.pointer v
  same_meaning Go = refl
  same_meaning Nop = refl
  same_meaning SyncPc = refl
  same_meaning (Rcreg rc) = by_test (control_listed rc) (λ h. rw h) (λ h. rw h)
  same_meaning (Wcreg rc v) = by_test (control_listed rc) (λ h. rw h) (λ h. rw h)
  same_meaning (Rdmreg n) = refl
  same_meaning (Wdmreg n v) = refl

  pub same_at_every_w : (request : Request) → SameAt w request s
  same_at_every_w request = record { legal = refl; meant = same_meaning request }
