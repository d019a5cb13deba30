-- [4] The address that was not there plays no part in what a request means: in whether it is legal, in what it answers, or in what it leaves of all else.
use Rattle.std.specs.Prelude.{◌≡◌, ℕ, Option}
use Rattle.std.proofs.Math.Path.{refl}
use Rattle.memory.specs.declared.Size.{Size}
use Rattle.memory.specs.Memory.{present}
use Rattle.csr.specs.Csr.{csr_value}
use Rattle.control.specs.Control.{control_listed}
use Rattle.requests.specs.declared.Request.{Request}
use Rattle.requests.specs.declared.Request.TheVariants.{Rdreg, Wdreg, Read, Write, Dump, Fill, Go, Nop, SyncPc, Rcreg, Wcreg, Rdmreg, Wdmreg}
use Rattle.board.specs.Setters.{with_fault}
use Rattle.round_trip.specs.Meaning.{Scene, Meaning, cleared, meaning, reads, writes}
use Rattle.round_trip.specs.RoundTrip.{legal_there}
use Rattle.laws.specs.TestLaws.{by_test}

-- the same with another number kept, and with none
abbrev pub keeping : Option ℕ → Scene → Scene
keeping f s = record { board = with_fault s.board f; chain = s.chain; pointer = s.pointer; memory = s.memory }

abbrev pub but_for_kept : Meaning → Meaning
but_for_kept m =
    record {
      outcome = m.outcome;
      leaves = record { board = cleared m.leaves.board; chain = m.leaves.chain; pointer = m.leaves.pointer; memory = m.leaves.memory };
    }

pub record SameKeeping (f : Option ℕ) (request : Request) (s : Scene) : Type 0 where
  -- it is legal whatever is kept
  pub legal : legal_there request (keeping f s) ≡ legal_there request s
  -- it answers the same, and leaves the same but for the number
  pub meant : but_for_kept (meaning request (keeping f s)) ≡ but_for_kept (meaning request s)

module _ (f : Option ℕ) (s : Scene) where
  read_keeping : (size : Size) (a : ℕ) → but_for_kept (reads size a (keeping f s)) ≡ but_for_kept (reads size a s)
  read_keeping size a = by_test (present s.memory size a) (λ h. rw h) (λ h. rw h)

  write_keeping : (size : Size) (a v : ℕ) → but_for_kept (writes size a v (keeping f s)) ≡ but_for_kept (writes size a v s)
  write_keeping size a v = by_test (present s.memory size a) (λ h. rw h) (λ h. rw h)

  same_meaning : (request : Request) → but_for_kept (meaning request (keeping f s)) ≡ but_for_kept (meaning request s)
  unfolding csr_value
  same_meaning (Rdreg n) = refl
  same_meaning (Wdreg n v) = refl
  same_meaning (Read size a) = read_keeping size a
  same_meaning (Write size a v) = write_keeping size a v
  same_meaning (Dump size) = read_keeping size s.pointer
  same_meaning (Fill size v) = write_keeping size s.pointer v
  same_meaning Go = refl
  same_meaning Nop = refl
  same_meaning SyncPc = refl
  same_meaning (Rcreg rc) = by_test (control_listed rc) (λ h. rw h) (λ h. rw h)
  same_meaning (Wcreg rc v) = by_test (control_listed rc) (λ h. rw h) (λ h. rw h)
  same_meaning (Rdmreg n) = refl
  same_meaning (Wdmreg n v) = refl

  pub same_whatever_kept : (request : Request) → SameKeeping f request s
  same_whatever_kept request = record { legal = refl; meant = same_meaning request }
