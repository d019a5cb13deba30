-- Events and firing (01, amended by [6] of 02): what a firing gives, SSM, HALT, and a pending SYNC_PC.
use Rattle.std.specs.Prelude.{ℕ, ◌/◌, ◌%◌, ◌^◌, Bool, false, cond, not, ◌&&◌, ◌||◌, eqb, None, Option, Some}
use Rattle.board.specs.declared.Status.{Status}
use Rattle.board.specs.declared.Debug.{Debug}
use Rattle.board.specs.Setters.{with_halted, with_trg, with_halt, with_bstat, with_sync}
use Rattle.halting.specs.declared.Halting.{Halting}
use Rattle.halting.specs.Halting.{halting, halts_itself}
use Rattle.trigger.specs.declared.Event.{Event}
use Rattle.board.specs.RegisterBits.{bit}
use Rattle.trigger.specs.Levels.{level_two}
use Rattle.trigger.specs.Fired.{fired_level}
use Rattle.firing.specs.declared.Firing.{Firing}
use Rattle.firing.specs.declared.Seen.{Seen}

-- "Level 1 firing gives 5 if level 2's EBL is set, else 2; level 2 firing gives 6."
unfoldable pub bstat_after : ℕ → ℕ → ℕ → ℕ
bstat_after level tdr bstat = cond (eqb level 1) (cond (level_two tdr).ebl 5 2) (cond (eqb level 2) 6 bstat)

-- "The response comes with 2 or 6"
unfoldable pub responds : ℕ → ℕ → Bool
responds level after = not (eqb level 0) && (eqb after 2 || eqb after 6)

-- "Bits 31-30 are the response: 00 display, 01 halt, 10 debug interrupt, 11 as 00"
abbrev pub response : ℕ → ℕ
response tdr = tdr / 2 ^ 30 % 4

-- a firing of a level, BSTAT after it being given
abbrev pub firing_into : ℕ → ℕ → ℕ → Firing
firing_into level tdr after = record {
  level = level;
  bstat = after;
  halts = responds level after && eqb (response tdr) 1;
  interrupts = responds level after && eqb (response tdr) 2;
}

abbrev pub firing_of : ℕ → ℕ → ℕ → Firing
firing_of level tdr bstat = firing_into level tdr (bstat_after level tdr bstat)

unfoldable pub firing : Status → Debug → Event → Firing
firing s d event = firing_of (fired_level s.bstat d event) d.tdr s.bstat

-- "SSM 4"
abbrev pub ssm : Debug → Bool
ssm d = bit 4 d.csr

-- UHE is bit 10 (the chapter)
abbrev pub uhe : Debug → Bool
uhe d = bit 10 d.csr

-- [6] what becomes of the event's HALT
abbrev pub halt_of : Debug → Event → Halting
halt_of d event = halting event.mark (uhe d)

abbrev pub halted_itself : Debug → Event → Bool
halted_itself d event = halts_itself (halt_of d event)

-- "SSM halts after each event"; [6] HALT "halts the processor after the event"
abbrev pub halted : Debug → Event → Firing → Bool
halted d event f = f.halts || (ssm d || halted_itself d event)

-- "A pending SYNC_PC hands out the next event's PC."
abbrev pub captured : Bool → ℕ → Option ℕ
captured sync pc = cond sync (Some pc) None

-- "An event's answer: level fired (0, 1, 2), halted by it, interrupt asked, PC captured"; [6] where HALT "halts nothing", "the answer says so"
unfoldable pub seen : Status → Debug → Event → Firing → Seen
seen s d event f = record {
  level = f.level;
  halted = halted d event f;
  interrupt = f.interrupts;
  captured = captured s.sync event.pc;
  halting = halt_of d event;
}

-- "its halt sets TRG"; SSM sets no flag; [6] HALT "sets CSR[HALT]", "both flags may be set"
abbrev pub flagged : Status → Debug → Event → Firing → Status
flagged s d event f = with_halt (with_trg s (s.trg || f.halts)) (s.halt || halted_itself d event)

-- SYNC_PC is no longer pending
unfoldable pub status_after : Status → Debug → Event → Firing → Status
status_after s d event f = with_sync (with_bstat (with_halted (flagged s d event f) (halted d event f)) f.bstat) false
