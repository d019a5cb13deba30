-- Laws of the work: what the port's work on a request's words comes to is what the request means, and its ending fits the result asked for.
use Rattle.std.specs.Prelude.{ℕ, ◌^◌, ◌≤◌, ◌<◌, ◌≡◌, refl, Bool, true, false, None, Option, Some}
use Rattle.std.proofs.Common.{arith, ap₂}
use Rattle.std.proofs.lemmas.Nat.{and_le_r}
use Rattle.memory.specs.declared.Size.{Size}
use Rattle.memory.specs.declared.Size.TheVariants.{Byte, Word, Long}
use Rattle.memory.specs.Memory.{AllBelow, aligned, present, value_at, fetched, stored, reach}
use Rattle.memory.specs.MemoryLaws.{limit, value_within}
use Rattle.command.specs.declared.DebugRegister.{DebugRegister}
use Rattle.command.specs.declared.Command.{Command}
use Rattle.command.specs.declared.Command.TheVariants.{Unknown, Load, Store}
use Rattle.command.specs.declared.Base.{Base}
use Rattle.command.specs.Command as command
use Rattle.command.specs.Command.{looked_up, debug_number}
use Rattle.board.specs.declared.Board.{Board}
use Rattle.board.specs.Setters.{with_fault}
use Rattle.board.specs.declared.Chain.{Chain}
use Rattle.access.specs.declared.Access.TheVariants.{Fetched}
use Rattle.work.specs.declared.Ending.{Ending}
use Rattle.access.specs.Access.{past, start_of, access_of, memory_after, pointer_after}
use Rattle.work.specs.Work.{access_ending, ending_of, chain_by, chain_after}
use Rattle.faults.specs.Fault.{fault_after}
use Rattle.board.specs.State.{State}
use Rattle.sound.specs.Sound.{Sound}
use Rattle.csr.specs.Csr.{flag, csr_value}
use Rattle.control.specs.Control.{control_index, control_listed, control_fetched, control_written}
use Rattle.registers.specs.Registers.{debug_written, board_after}
use Rattle.requests.specs.declared.Request.TheVariants.{Wdmreg}
use Rattle.readings.specs.declared.Outcome.TheVariants.{Value}
use Rattle.pod_laws.specs.MeantCommand.{debug_rows}
use Rattle.pod_laws.specs.RequestCountLaws.{found_debug}
use Rattle.round_trip.specs.Meaning.{Scene, Meaning, cleared, meaning, reads, writes, reads_control, writes_control}
use Rattle.round_trip.specs.RoundTrip.{scene_of}
use Rattle.round_trip.specs.ClosesLaws.{outcome_of, Fits}
use Rattle.laws.specs.TestLaws.{by_test}

-- what the port's work ends in, and what it leaves
abbrev pub work_ending : Command → ℕ → Scene → Ending
work_ending c address s = ending_of c s.board address (access_of c s.memory s.pointer address)

abbrev pub work_scene : Command → ℕ → ℕ → Scene → Scene
work_scene c address value s =
    record {
      board = with_fault (board_after c s.board address value)
          (fault_after (work_ending c address s) (access_of c s.memory s.pointer address) s.board.fault);
      chain = chain_after (work_ending c address s) c s.chain;
      pointer = pointer_after (access_of c s.memory s.pointer address) s.pointer;
      memory = memory_after c s.memory s.pointer address value;
    }

-- [4] a scene as a command word other than NOP leaves it
abbrev pub word_cleared : Scene → Scene
word_cleared s = record { board = cleared s.board; chain = s.chain; pointer = s.pointer; memory = s.memory }

-- what a result must be taken from to fit: bytes, and registers of 32 bits
pub record Sized (s : Scene) : Type 0 where
  pub bytes : AllBelow 256 s.memory
  pub general : AllBelow (2 ^ 32) s.board.registers.general
  pub control : AllBelow (2 ^ 32) s.board.registers.control

pub sound_is_sized : {s : State} → Sound s → Sized (scene_of s)
sound_is_sized f = record { bytes = f.memory.bytes; general = f.board.general; control = f.board.control }

pub record Meant (c : Command) (address value : ℕ) (kind : Option Size) (s : Scene) (m : Meaning) : Type 0 where
  -- the ending is the outcome meant
  pub outcome : outcome_of (work_ending c address s) ≡ m.outcome
  -- all that is left is as meant
  pub leaves : work_scene c address value s ≡ m.leaves
  -- its replies are those that the request can have
  pub fits : Sized s → Fits kind (work_ending c address s)

-- ---- memory
fetched_outcome : (size : Size) (v p : ℕ) → outcome_of (access_ending (Fetched size v p)) ≡ Value v
fetched_outcome Byte v p = refl
fetched_outcome Word v p = refl
fetched_outcome Long v p = refl

fetched_chain : (size : Size) (v p : ℕ) (c : Command) (chain : Chain) → chain_after (access_ending (Fetched size v p)) c chain ≡ chain_by c chain
fetched_chain Byte v p c chain = refl
fetched_chain Word v p c chain = refl
fetched_chain Long v p c chain = refl

fetched_fault : (size : Size) (v p : ℕ) → fault_after (access_ending (Fetched size v p)) (Fetched size v p) None ≡ None
fetched_fault Byte v p = refl
fetched_fault Word v p = refl
fetched_fault Long v p = refl

fetched_fits : (size : Size) (v p : ℕ) → v < limit size → Fits (Some size) (access_ending (Fetched size v p))
fetched_fits Byte v p h = omega arith
fetched_fits Word v p h = omega arith
fetched_fits Long v p h = omega arith

module _ (size : Size) (s : Scene) where
  pub load_meant : (base : Base) (a v : ℕ) → Meant (Load size base) a v (Some size) (word_cleared s) (reads size (start_of base s.pointer a) s)
  unfolding fetched
  load_meant base a v =
      let at = start_of base s.pointer a in
      let x = value_at s.memory size (aligned size at) in
      by_test (present s.memory size at)
      (λ h.
      record {
        outcome = rw h (fetched_outcome size x (past size at));
        leaves =
            rw h
            (ap₂ (λ fault chain. record { board = with_fault s.board fault; chain = chain; pointer = past size at; memory = s.memory })
            (fetched_fault size x (past size at)) (fetched_chain size x (past size at) (Load size base) s.chain));
        fits = λ f. rw h (fetched_fits size x (past size at) (value_within s.memory size (aligned size at) f.bytes));
      })
      (λ h. record { outcome = rw h; leaves = rw h; fits = λ f. rw h tt })

  pub store_meant : (base : Base) (a v : ℕ) → Meant (Store size base) a v None (word_cleared s) (writes size (start_of base s.pointer a) v s)
  unfolding stored reach
  store_meant base a v =
      by_test (present s.memory size (start_of base s.pointer a))
      (λ h. record { outcome = rw h; leaves = rw h; fits = λ f. rw h tt })
      (λ h. record { outcome = rw h; leaves = rw h; fits = λ f. rw h tt })

-- ---- control registers
module _ (s : Scene) where
  pub read_control_meant : (rc v : ℕ) → Meant command.rcreg rc v (Some Long) (word_cleared s) (reads_control rc s)
  unfolding control_fetched
  read_control_meant rc v =
      by_test (control_listed rc)
      (λ h. record { outcome = rw h; leaves = rw h; fits = λ f. rw h (omega (arith, f.control (control_index rc))) })
      (λ h. record { outcome = rw h; leaves = rw h; fits = λ f. rw h tt })

  pub write_control_meant : (rc v : ℕ) → Meant command.wcreg rc v None (word_cleared s) (writes_control rc v s)
  unfolding control_fetched control_written
  write_control_meant rc v =
      by_test (control_listed rc)
      (λ h. record { outcome = rw h; leaves = rw h; fits = λ f. rw h tt })
      (λ h. record { outcome = rw h; leaves = rw h; fits = λ f. rw h tt })

-- ---- CSR and the debug registers
flag_within : (x : Bool) → flag x ≤ 1
flag_within true = omega arith
flag_within false = omega arith

pub csr_fits : (b : Board) → csr_value b ≤ 0xFFFFFFFF
unfolding csr_value
csr_fits b =
    let t = b.status in
    omega (arith, flag_within t.fof, flag_within t.trg, flag_within t.halt, flag_within t.bkpt, and_le_r b.debug.csr 0x0007FF70)

pub debug_meant : (n v a : ℕ) (s : Scene) → (looked_up n debug_rows ≡ Unknown → ⊥)
    → Meant (looked_up n debug_rows) a v None (word_cleared s) (meaning (Wdmreg n v) s)
unfolding debug_written
debug_meant n v a s known =
    found_debug (λ k c. Meant c a v None (word_cleared s) (meaning (Wdmreg k v) s)) n written known
  where
    written : (r : DebugRegister) → Meant (command.wdmreg r) a v None (word_cleared s) (meaning (Wdmreg (debug_number r) v) s)
    written r = record { outcome = refl; leaves = refl; fits = λ f. tt }
