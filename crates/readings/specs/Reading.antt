-- The pod's half (01, by eye): what the reading of a list of replies answers.
use Rattle.std.specs.Prelude.{ℕ, ◌≡◌, cond, List, Option, Err, None, Ok, Result, Some}
use Rattle.grounds.specs.declared.Ground.{Ground}
use Rattle.memory.specs.declared.Size.{Size}
use Rattle.command.specs.Reply.{complete, not_ready, bus_error, illegal}
use Rattle.grounds.specs.declared.Ground.TheVariants.{RequestOutOfRange}
use Rattle.grounds.specs.Grounds.{Refusal, no_refusal, refusal_of}
use Rattle.requests.specs.declared.Request.{Request}
use Rattle.readings.specs.declared.Outcome.{Outcome}
use Rattle.readings.specs.declared.Outcome.TheVariants.{Value, Complete, BusError, Illegal}
use Rattle.readings.specs.declared.Reader.{Reader}
use Rattle.readings.specs.declared.Reader.TheVariants.{First, Second, Closed, Bad}
use Rattle.requests.specs.Request.{in_range, kind_of}
use Rattle.readings.specs.Reader.{after_replies, used}

-- "returns the value, complete, bus error, illegal or not yet, with the words used"
abbrev pub answered : Reader → ℕ → Result (Option Outcome × ℕ) Ground
answered First n = Ok (None, n)
answered (Second upper) n = Ok (None, n)
answered (Closed outcome) n = Ok (Some outcome, n)
answered (Bad why) n = Err why

abbrev pub reading_of : Option Size → List ℕ → Result (Option Outcome × ℕ) Ground
reading_of kind replies = answered (after_replies kind First replies) (used kind First replies)

-- "Reading replies: 13, then the first bad word"
abbrev pub reading : Request → List ℕ → Result (Option Outcome × ℕ) Ground
reading request replies = cond (in_range request) (reading_of (kind_of request) replies) (Err RequestOutOfRange)

-- what reading says on paper: its refusal, the reply of Packets (01) that stands for the answer (0 for data, 0x10000 for not yet), the value and
-- the words used
pub record ReadingOnPaper : Type 0 where
  pub refusal : Refusal
  pub reply : ℕ
  pub value : ℕ
  pub words : ℕ

-- "S=0 with data, or 0x0FFFF complete; .. 0x10001 bus error; 0x1FFFF illegal"
abbrev pub outcome_reply : Outcome → ℕ
outcome_reply (Value value) = 0
outcome_reply Complete = complete
outcome_reply BusError = bus_error
outcome_reply Illegal = illegal

abbrev pub outcome_value : Outcome → ℕ
outcome_value (Value value) = value
outcome_value Complete = 0
outcome_value BusError = 0
outcome_value Illegal = 0

abbrev pub told_reading : Result (Option Outcome × ℕ) Ground → ReadingOnPaper
told_reading (Ok (Some outcome, n)) = record { refusal = no_refusal; reply = outcome_reply outcome; value = outcome_value outcome; words = n }
told_reading (Ok (None, n)) = record { refusal = no_refusal; reply = not_ready; value = 0; words = n }
told_reading (Err why) = record { refusal = refusal_of why; reply = 0; value = 0; words = 0 }

-- the promise of reading
pub record ReadingMeets (request : Request) (replies : List ℕ) (r : Result (Option Outcome × ℕ) Ground) : Type 0 where
  pub answer : told_reading r ≡ told_reading (reading request replies)
