-- Demand 3: a NOP does the same on two boards that agree in all but the status.
use Rattle.std.specs.Prelude.{ℕ, ◌≡◌, Bool, true, false, cond, set}
use Rattle.std.proofs.Math.Path.{refl}
use Rattle.std.proofs.Common.{sym, ap, subst}
use Rattle.command.specs.declared.Command.{Command}
use Rattle.command.specs.declared.Command.TheVariants.{Unknown, Nop, Load, Store, Show, Change}
use Rattle.command.specs.declared.Source.TheVariants as source
use Rattle.board.specs.declared.Board.{Board}
use Rattle.board.specs.declared.Status.{Status}
use Rattle.board.specs.Setters.{with_status, with_registers, with_control}
use Rattle.board.specs.State.{State, state_of, standing_of}
use Rattle.control.specs.Control.{control_index, control_listed, control_fetched, control_written}
use Rattle.registers.specs.Registers.{debug_written, board_after}
use Rattle.registers.specs.ChangeLaws.{each_change}
use Rattle.plan.specs.declared.Plan.{Plan}
use Rattle.plan.specs.declared.Plan.TheVariants.{Hold, Reject, Release, Work}
use Rattle.access.specs.Access.{access_of}
use Rattle.work.specs.Work.{ending_of, place_after}
use Rattle.faults.specs.Fault.{fault_after}
use Rattle.step.specs.StepFaultLaws.{nop_step}
use Rattle.step.specs.Step.{left, plan_for, stepped}
use Rattle.sound.specs.Sound.{PhaseWithin}
use Rattle.promises.specs.Demand3.{SameButStatus}
use Rattle.promises.specs.IgnoresStatusLaws.{IgnoresStatus, PlanIgnoresStatus, nop_ignores_status, nop_however_judged}

-- the state with another status
abbrev besides : State → Status → State
besides x s = state_of (with_status x.board s) x.place x.memory

module _ (x : State) (s : Status) where
  same_ending : (c : Command) (address : ℕ) → IgnoresStatus c
      → ending_of c (with_status x.board s) address (access_of c x.memory x.place.pointer address)
      ≡ ending_of c x.board address (access_of c x.memory x.place.pointer address)
  unfolding control_fetched
  same_ending Unknown address h = refl
  same_ending Nop address h = refl
  same_ending (Load z base) address h = refl
  same_ending (Store z base) address h = refl
  same_ending (Show (source.General n)) address h = refl
  same_ending (Show source.Control) address h = refl
  same_ending (Show source.Csr) address h = absurd (h refl)
  same_ending (Change target) address h = refl

  same_place : (plan : Plan) → PlanIgnoresStatus plan → (left plan (besides x s)).place ≡ (left plan x).place
  same_place (Hold phase) h = refl
  same_place Reject h = refl
  same_place (Release low) h = refl
  same_place (Work c address value) h =
      ap (place_after c x.place (access_of c x.memory x.place.pointer address)) (same_ending c address h)

  same_memory : (plan : Plan) → (left plan (besides x s)).memory ≡ (left plan x).memory
  same_memory (Hold phase) = refl
  same_memory Reject = refl
  same_memory (Release low) = refl
  same_memory (Work c address value) = refl

module _ (b : Board) (s : Status) where
  same : SameButStatus (with_status b s) b
  same = record { setting = refl; registers = refl; debug = refl; fault = refl }

  same_control : (n v : ℕ) → SameButStatus (control_written (with_status b s) n v) (control_written b n v)
  unfolding control_written
  same_control n v = by (control_listed n)
    where
      stored : Board → Board
      stored x = with_registers x (with_control b.registers (set b.registers.control (control_index n) v))

      by : (t : Bool) → SameButStatus (cond t (stored (with_status b s)) (with_status b s)) (cond t (stored b) b)
      by true = record { setting = refl; registers = refl; debug = refl; fault = refl }
      by false = same

  -- whatever work is done, it leaves the boards alike
  same_changed : (c : Command) (address value : ℕ) → SameButStatus (board_after c (with_status b s) address value) (board_after c b address value)
  unfolding debug_written
  same_changed c address value =
      each_change (λ change. SameButStatus (change (with_status b s)) (change b)) address value
      (record {
        none = same;
        csr_read = record { setting = refl; registers = refl; debug = refl; fault = refl };
        general = λ n. record { setting = refl; registers = refl; debug = refl; fault = refl };
        control = same_control address value;
        debug = λ r. record { setting = refl; registers = refl; debug = refl; fault = refl };
        go = record { setting = refl; registers = refl; debug = refl; fault = refl };
        sync_pc = record { setting = refl; registers = refl; debug = refl; fault = refl };
      })
      c

same_board : (x : State) (s : Status) (plan : Plan) → PlanIgnoresStatus plan → SameButStatus (left plan (besides x s)).board (left plan x).board
same_board x s (Hold phase) h = same x.board s
same_board x s Reject h = same x.board s
same_board x s (Release low) h = same x.board s
same_board x s (Work c address value) h =
    let changed = same_changed x.board s c address value in
    let access = access_of c x.memory x.place.pointer address in
    record {
      setting = changed.setting;
      registers = changed.registers;
      debug = changed.debug;
      fault = ap (λ e. fault_after e access x.board.fault) (same_ending x s c address h);
    }

-- a board that agrees with another in all but the status is that other with its own status
is_with_status : (a b : Board) → SameButStatus a b → a ≡ with_status b a.status
is_with_status a b h = λ i. record { w = h.setting i; status = a.status; registers = h.registers i; debug = h.debug i; fault = h.fault i }

-- what a NOP does on such boards
pub record SameNop (a : Board) (s : State) : Type 0 where
  pub place : (stepped (state_of a s.place s.memory) 0).place ≡ (stepped s 0).place
  pub board : SameButStatus (stepped (state_of a s.place s.memory) 0).board (stepped s 0).board
  pub memory : (stepped (state_of a s.place s.memory) 0).memory ≡ (stepped s 0).memory

module _ (w : ℕ) (x : State) (setting : x.board.w ≡ w) (fits : PhaseWithin w x.place.phase) where
  abbrev plan : Plan
  plan = plan_for x.board x.place 0

  same_plan : (s : Status) → plan_for (with_status x.board s) x.place 0 ≡ plan
  unfolding plan_for
  same_plan s = nop_however_judged x.board.w x.place.phase (standing_of (with_status x.board s) x.place) (standing_of x.board x.place)

  plan_ignores_status : PlanIgnoresStatus plan
  unfolding plan_for
  plan_ignores_status = rw setting (nop_ignores_status w x.place.phase (standing_of x.board x.place) fits)

  same_nop_with : (s : Status) → SameNop (with_status x.board s) x
  same_nop_with s = record {
    place = rw (nop_step (besides x s), nop_step x, same_plan s) (same_place x s plan plan_ignores_status);
    board = rw (nop_step (besides x s), nop_step x, same_plan s) (same_board x s plan plan_ignores_status);
    memory = rw (nop_step (besides x s), nop_step x, same_plan s) (same_memory x s plan);
  }

  pub same_nop : (a : Board) → SameButStatus a x.board → SameNop a x
  same_nop a h = subst (λ (b : Board). SameNop b x) (sym (is_with_status a x.board h)) (same_nop_with a.status)
