-- [4] What is kept: by READ, WRITE, DUMP and FILL the lowest address that was not there; none in a history without a bus error of memory.
use Rattle.std.specs.Prelude.{ℕ, ◌≡◌, refl, Bool, true, false, List, [], ◌∷◌, Err, None, Ok, Option, Result, Some, ⊤}
use Rattle.grounds.specs.declared.Ground.{Ground}
use Rattle.std.proofs.Common.{◌∙◌, true≢false}
use Rattle.laws.specs.TestLaws.{by_test}
use Rattle.memory.specs.declared.Size.{Size}
use Rattle.memory.specs.declared.Size.TheVariants.{Byte, Word, Long}
use Rattle.memory.specs.Memory.{aligned, present, first_missing, value_at, fetched, reach}
use Rattle.memory.specs.MemoryLaws.{LowestMissing, lowest_missing}
use Rattle.grounds.specs.Grounds.{if_accepted}
use Rattle.command.specs.declared.Command.{Command}
use Rattle.command.specs.declared.Command.TheVariants.{Load, Store}
use Rattle.command.specs.declared.Base.{Base}
use Rattle.board.specs.Board.{fresh_board}
use Rattle.board.specs.State.{State}
use Rattle.access.specs.declared.Access.{Access}
use Rattle.access.specs.declared.Access.TheVariants.{NoAccess, Fetched, Stored, Missing}
use Rattle.access.specs.Access.{past, start_of, access_of}
use Rattle.work.specs.declared.Ending.{Ending}
use Rattle.work.specs.declared.Ending.TheVariants.{Complete, Failed, OneWord, TwoWords}
use Rattle.work.specs.Work.{access_ending, ending_of}
use Rattle.plan.specs.declared.Plan.{Plan}
use Rattle.plan.specs.declared.Plan.TheVariants.{Hold, Reject, Release, Work}
use Rattle.faults.specs.Fault.{fault_after}
use Rattle.faults.specs.FaultLaws.{load_keeps, store_keeps}
use Rattle.step.specs.Step.{left, plan_for, word_taken, stepped}
use Rattle.step.specs.StepFaultLaws.{step_of_none}
use Rattle.port.specs.Packet.{packet_verdict}
use Rattle.bus.specs.EventLaws.{event_changes_status_alone, breakpoint_changes_status_alone}
use Rattle.promises.specs.Machine.{stand_in}
use Rattle.promises.specs.History.{Call, lending, after_call, after, made}
use Rattle.promises.specs.History.Call.{packet, event, breakpoint}

-- ---- after a bus error of memory: of any state, and of any packet with which the work is done
-- the number is an address of the access, beyond memory, and every lower one of the access is there
pub record Kept (size : Size) (start : ℕ) (s next : State) : Type 0 where
  pub number : next.board.fault ≡ Some (first_missing s.memory size start)
  pub lowest : LowestMissing s.memory size start (first_missing s.memory size start)

module _ (size : Size) (base : Base) (s : State) (address value : ℕ) where
  -- READ and WRITE access their address, DUMP and FILL the pointer
  abbrev start : ℕ
  start = start_of base s.place.pointer address

  abbrev Fails : Command → Type 0
  Fails c = ending_of c s.board address (access_of c s.memory s.place.pointer address) ≡ Failed

  no_failure : (z : Size) (v past : ℕ) → access_ending (Fetched z v past) ≡ Failed → true ≡ false
  no_failure Byte v past e = cc
  no_failure Word v past e = cc
  no_failure Long v past e = cc

  load_short : Fails (Load size base) → present s.memory size start ≡ false
  unfolding fetched
  load_short e =
      let found = value_at s.memory size (aligned size start) in
      by_test (present s.memory size start) (λ t. t ∙ no_failure size found (past size start) (rw t at e)) (λ t. t)

  store_short : Fails (Store size base) → present s.memory size start ≡ false
  unfolding reach
  store_short e = by_test (present s.memory size start) (λ t. let none : Complete ≡ Failed = rw t at e in cc) (λ t. t)

  load_error : Fails (Load size base) → Kept size start s (left (Work (Load size base) address value) s)
  load_error e =
      let short = load_short e in
      record {
        number = (load_keeps size base s.board s.memory s.place.pointer address s.board.fault short).1;
        lowest = lowest_missing s.memory size start short;
      }

  store_error : Fails (Store size base) → Kept size start s (left (Work (Store size base) address value) s)
  store_error e =
      let short = store_short e in
      record {
        number = (store_keeps size base s.board s.memory s.place.pointer address s.board.fault short).1;
        lowest = lowest_missing s.memory size start short;
      }

-- .. of a packet
module _ (size : Size) (base : Base) (s : State) (word address value : ℕ) where
  also_before : {start : ℕ} {next : State} → Kept size start (word_taken s word) next → Kept size start s next
  also_before k = record { number = k.number; lowest = k.lowest }

  pub load_error_kept : plan_for s.board s.place word ≡ Work (Load size base) address value → Fails size base s address value (Load size base)
      → Kept size (start_of base s.place.pointer address) s (stepped s word)
  unfolding stepped
  load_error_kept plan e = rw plan (also_before (load_error size base (word_taken s word) address value e))

  pub store_error_kept : plan_for s.board s.place word ≡ Work (Store size base) address value → Fails size base s address value (Store size base)
      → Kept size (start_of base s.place.pointer address) s (stepped s word)
  unfolding stepped
  store_error_kept plan e = rw plan (also_before (store_error size base (word_taken s word) address value e))

-- ---- none
abbrev misses : Access → Bool
misses NoAccess = false
misses (Fetched size v past) = false
misses (Stored past) = false
misses (Missing first) = true

-- the packet's work is a bus error of memory
abbrev pub misses_by : Plan → State → Bool
misses_by (Hold phase) s = false
misses_by Reject s = false
misses_by (Release low) s = false
misses_by (Work c address value) s = misses (access_of c s.memory s.place.pointer address)

abbrev pub missed_by : State → Call → Bool
missed_by s (packet m word) = if_accepted (packet_verdict (lending s m) word) (misses_by (plan_for s.board s.place word) (lending s m)) false
missed_by s (event e) = false
missed_by s breakpoint = false

-- no accepted packet of the calls has one
unfoldable pub NoneMissed : State → List Call → Type 0
NoneMissed s [] = Unit {0}
NoneMissed s (c ∷ cs) = (missed_by s c ≡ false) × NoneMissed (after_call stand_in s c) cs

there_keeps : (e : Ending) (access : Access) (f : Option ℕ) → misses access ≡ false → fault_after e access f ≡ f
there_keeps Complete _ f h = refl
there_keeps Failed NoAccess f h = refl
there_keeps Failed (Fetched size v past) f h = refl
there_keeps Failed (Stored past) f h = refl
there_keeps Failed (Missing first) f h = absurd (true≢false h)
there_keeps (OneWord v) _ f h = refl
there_keeps (TwoWords v) _ f h = refl

left_keeps : (plan : Plan) (s : State) → misses_by plan s ≡ false → (left plan s).board.fault ≡ s.board.fault
left_keeps (Hold phase) s h = refl
left_keeps Reject s h = refl
left_keeps (Release low) s h = refl
left_keeps (Work c address value) s h =
    let access = access_of c s.memory s.place.pointer address in there_keeps (ending_of c s.board address access) access s.board.fault h

call_keeps_none : (s : State) (c : Call) → s.board.fault ≡ None → missed_by s c ≡ false → (after_call stand_in s c).board.fault ≡ None
call_keeps_none s (packet m word) none h = by (packet_verdict (lending s m) word) h
  where
    plan : Plan
    plan = plan_for s.board s.place word

    by : (v : Result ⊤ Ground) → if_accepted v (misses_by plan (lending s m)) false ≡ false
        → (if_accepted v (stepped (lending s m) word) (lending s m)).board.fault ≡ None
    by (Ok _) h = rw (step_of_none (lending s m) word none) (left_keeps plan (lending s m) h ∙ none)
    by (Err g) h = none
call_keeps_none s (event e) none h = rw (event_changes_status_alone s.board s.place e) none
call_keeps_none s breakpoint none h = rw (breakpoint_changes_status_alone s.board s.place) none

calls_keep_none : (s : State) (calls : List Call) → s.board.fault ≡ None → NoneMissed s calls → (after stand_in s calls).board.fault ≡ None
unfolding after NoneMissed
calls_keep_none s [] none h = none
calls_keep_none s (c ∷ cs) none h = calls_keep_none (after_call stand_in s c) cs (call_keeps_none s c none h.0) h.1

-- "an accepted history without a memory bus error keeps none"
pub none_missed_none_kept : (w : ℕ) (history : List Call) → NoneMissed (made w) history → (after stand_in (made w) history).board.fault ≡ None
unfolding fresh_board
none_missed_none_kept w history h = calls_keep_none (made w) history refl h
