-- Events and firing (01): the answers on paper, each with its refusal number.
use Rattle.std.specs.Prelude.{ℕ, Bool, true, false, List, [], ◌∷◌, Err, None, Ok, Option, Result, Some}
use Rattle.firing.specs.declared.Pressed.{Pressed}
use Rattle.firing.specs.declared.Seen.{Seen}
use Rattle.grounds.specs.declared.Ground.{Ground}
use Rattle.grounds.specs.Grounds.{Refusal, refusal_of, no_refusal}
use Rattle.halting.specs.declared.Halting.{Halting}
use Rattle.halting.specs.declared.Halting.TheVariants.{NoHalt, Halts, Ignored}

-- the PC handed out, or none
abbrev pub told_captured : Option ℕ → List ℕ
told_captured None = []
told_captured (Some pc) = pc ∷ []

-- [6] where HALT "halts nothing", "the answer says so"; of an event without a mark nothing is said of it
abbrev pub told_halting : Halting → List Bool
told_halting NoHalt = []
told_halting Halts = false ∷ []
told_halting Ignored = true ∷ []

-- "level fired (0, 1, 2), halted by it, interrupt asked, PC captured"; [6] whether HALT was ignored
pub record EventTold : Type 0 where
  pub refusal : Refusal
  pub level : ℕ
  pub halted : Bool
  pub interrupt : Bool
  pub captured : List ℕ
  pub ignored : List Bool

abbrev pub told_event : Result Seen Ground → EventTold
told_event (Err g) = record { refusal = refusal_of g; level = 0; halted = false; interrupt = false; captured = []; ignored = [] }
told_event (Ok s) = record {
  refusal = no_refusal;
  level = s.level;
  halted = s.halted;
  interrupt = s.interrupt;
  captured = told_captured s.captured;
  ignored = told_halting s.halting;
}

-- "the breakpoint input's: the middle two"
pub record BreakpointTold : Type 0 where
  pub refusal : Refusal
  pub halted : Bool
  pub interrupt : Bool

abbrev pub told_breakpoint : Result Pressed Ground → BreakpointTold
told_breakpoint (Err g) = record { refusal = refusal_of g; halted = false; interrupt = false }
told_breakpoint (Ok p) = record { refusal = no_refusal; halted = p.halted; interrupt = p.interrupt }
