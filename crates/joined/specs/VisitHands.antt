-- A gateway's visit (docs/gateway.md) joined with the stand-in, what is handed over: the registers of the board, and the longwords of the memory, that the
-- port came to rest with.
use Rattle.std.specs.Prelude.{ℕ, ◌+◌, ◌*◌, ◌≤◌, ◌<◌, ◌≡◌, List, length, get_or, None, Option, Some}
use Rattle.readings.specs.declared.Outcome.{Outcome}
use Rattle.memory.specs.declared.Size.TheVariants.{Long}
use Rattle.memory.specs.Memory.{value_at}
use Rattle.board.specs.State.{State}
use Rattle.readings.specs.declared.Outcome.TheVariants.{Value, BusError}
use Rattle.asked.specs.VisitRequests.{registers_asked}
use Rattle.visit.specs.HandedOver.{handed_over}
use Rattle.round_trip.specs.BroughtToRest.{rest_scene}
use Rattle.visit_course.specs.RegistersRead.{registers_read}
use Rattle.joined.specs.VisitReads.{visited}

-- longword k of a table is in the memory that the port came to rest with, or it is not
abbrev pub There : ℕ → State → ℕ → Type 0
There address s k = address + 4 * k + 4 ≤ length (rest_scene s).memory

abbrev pub Missing : ℕ → State → ℕ → Type 0
Missing address s k = length (rest_scene s).memory < address + 4 * k + 4

module _ (address longwords : ℕ) (before : List ℕ) (s : State) where
  -- result j of the visit
  abbrev pub handed_at : ℕ → Option Outcome
  handed_at j = handed_over (visited address longwords before s).visit (visited address longwords before s).notes j

  pub record VisitHands : Type 0 where
    -- the registers first
    pub register : (j : ℕ) → j < registers_asked → handed_at j ≡ Some (get_or (registers_read (rest_scene s).board) j (Value 0))
    -- "word k is the longword of memory at address + 4k, for every k below n that is there"
    pub word : (k : ℕ) → k < longwords → There address s k
        → handed_at (registers_asked + k) ≡ Some (Value (value_at (rest_scene s).memory Long (address + 4 * k)))
    -- "bus error at the first that is not"
    pub missing : (k : ℕ) → k < longwords → ((i : ℕ) → i < k → There address s i) → Missing address s k → handed_at (registers_asked + k) ≡ Some BusError
    -- "and nothing after it"
    pub behind : (i k : ℕ) → Missing address s i → i < k → handed_at (registers_asked + k) ≡ None
    -- nor beyond the table
    pub beyond : (k : ℕ) → longwords ≤ k → handed_at (registers_asked + k) ≡ None
