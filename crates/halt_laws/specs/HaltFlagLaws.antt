-- [6] over histories: a board that runs has none of TRG, HALT and BKPT set. So after an event HALT is set exactly if the program halted itself, and TRG exactly
-- if the breakpoint halted it; and nothing else sets HALT.
use Rattle.std.specs.Prelude.{ℕ, ◌≡◌, refl, true, false, ◌||◌, List, [], ◌∷◌, Err, Ok, Result, ⊤}
use Rattle.grounds.specs.declared.Ground.{Ground}
use Rattle.std.proofs.Common.{sym, ◌∙◌, subst, true≢false}
use Rattle.laws.specs.TestLaws.{either, neither}
use Rattle.grounds.specs.Grounds.{if_accepted}
use Rattle.command.specs.declared.Command.{Command}
use Rattle.command.specs.declared.DebugRegister.{DebugRegister}
use Rattle.command.specs.declared.DebugRegister.TheVariants.{Tdr}
use Rattle.command.specs.Command.{debug_number}
use Rattle.board.specs.declared.Board.{Board}
use Rattle.board.specs.declared.Place.{Place}
use Rattle.board.specs.declared.Status.{Status}
use Rattle.board.specs.declared.Debug.{Debug}
use Rattle.board.specs.Board.{fresh_board}
use Rattle.board.specs.State.{State}
use Rattle.csr.specs.Csr.{after_csr_read, after_go, after_sync_pc}
use Rattle.control.specs.Control.{control_written}
use Rattle.control.specs.ControlLaws.{control_changes_registers_alone}
use Rattle.registers.specs.Registers.{is, armed, debug_written, board_after}
use Rattle.registers.specs.ChangeLaws.{each_change}
use Rattle.plan.specs.declared.Plan.{Plan}
use Rattle.plan.specs.declared.Plan.TheVariants.{Hold, Reject, Release, Work}
use Rattle.step.specs.Step.{left, plan_for, word_taken, stepped}
use Rattle.port.specs.Packet.{packet_verdict}
use Rattle.trigger.specs.declared.Event.{Event}
use Rattle.firing.specs.Firing.{ssm, firing, halted_itself}
use Rattle.firing.specs.Breakpoint.{pressed, status_pressed}
use Rattle.bus.specs.Events.{event_verdict, breakpoint_verdict, board_after_event, board_after_breakpoint}
use Rattle.bus.specs.EventLaws.{accepted_while_running}
use Rattle.bus.specs.HaltLaws.{halting_of_event}
use Rattle.promises.specs.Machine.{stand_in}
use Rattle.promises.specs.History.{Call, lending, after_call, after, made}
use Rattle.promises.specs.History.Call.{packet, event, breakpoint}

-- ---- what a packet does to the status: it stays, CSR is read, TDR is written, or GO or SYNC_PC is done
pub record EachStatus (P : Status → Status → Type 0) : Type 0 where
  pub stays : (s : Status) → P s s
  pub csr_read : (s : Status) → P s (after_csr_read s)
  pub tdr_written : (s : Status) (value : ℕ) → P s (armed s value)
  pub go : (s : Status) → P s (after_go s)
  pub sync_pc : (s : Status) → P s (after_sync_pc s)

module _ (P : Status → Status → Type 0) (each : EachStatus P) where
  control_status : (b : Board) (n v : ℕ) → P b.status (control_written b n v).status
  control_status b n v = subst (λ (x : Board). P b.status x.status) (sym (control_changes_registers_alone b n v)) (each.stays b.status)

  debug_status : (b : Board) (r : DebugRegister) (v : ℕ) → P b.status (debug_written b r v).status
  unfolding debug_written
  debug_status b r v =
      either (P b.status) (is (debug_number r) Tdr) (armed b.status v) b.status (λ e. each.tdr_written b.status v) (λ e. each.stays b.status)

  work_status : (c : Command) (b : Board) (address value : ℕ) → P b.status (board_after c b address value).status
  work_status c b address value =
      each_change (λ change. P b.status (change b).status) address value
      (record {
        none = each.stays b.status;
        csr_read = each.csr_read b.status;
        general = λ n. each.stays b.status;
        control = control_status b address value;
        debug = λ r. debug_status b r value;
        go = each.go b.status;
        sync_pc = each.sync_pc b.status;
      })
      c

  packet_status : (s : State) (word : ℕ) → P s.board.status (stepped s word).board.status
  unfolding stepped
  packet_status s word = by_plan (plan_for s.board s.place word)
    where
      by_plan : (plan : Plan) → P s.board.status (left plan (word_taken s word)).board.status
      by_plan (Hold phase) = each.stays s.board.status
      by_plan Reject = each.stays s.board.status
      by_plan (Release low) = each.stays s.board.status
      by_plan (Work c address value) = work_status c (word_taken s word).board address value

-- ---- no packet sets HALT, and the breakpoint input leaves it
pub packet_sets_no_halt : (s : State) (word : ℕ) → (stepped s word).board.status.halt ≡ true → s.board.status.halt ≡ true
packet_sets_no_halt s word =
    packet_status (λ s t. t.halt ≡ true → s.halt ≡ true)
    (record { stays = λ s h. h; csr_read = λ s h. cc; tdr_written = λ s v h. h; go = λ s h. cc; sync_pc = λ s h. h })
    s word

pub breakpoint_leaves_halt : (b : Board) (p : Place) → (board_after_breakpoint b p).status.halt ≡ b.status.halt
unfolding status_pressed
breakpoint_leaves_halt b p = by (breakpoint_verdict b p) refl
  where
    by : (v : Result ⊤ Ground) → breakpoint_verdict b p ≡ v → (board_after_breakpoint b p).status.halt ≡ b.status.halt
    by (Ok _) e = rw e
    by (Err g) e = rw e

-- ---- a board that runs has no flag set
pub record NoFlag (s : Status) : Type 0 where
  pub trg : s.trg ≡ false
  pub halt : s.halt ≡ false
  pub bkpt : s.bkpt ≡ false

abbrev Bare : Status → Type 0
Bare s = s.halted ≡ false → NoFlag s

bare_changes : EachStatus (λ s t. Bare s → Bare t)
bare_changes = record {
  stays = λ s h. h;
  csr_read = λ s h runs. record { trg = refl; halt = refl; bkpt = refl };
  tdr_written = λ s v h runs. let none = h runs in record { trg = none.trg; halt = none.halt; bkpt = none.bkpt };
  go = λ s h runs. record { trg = refl; halt = refl; bkpt = refl };
  sync_pc = λ s h runs. let none = h runs in record { trg = none.trg; halt = none.halt; bkpt = none.bkpt };
}

seen_bare : (b : Board) (p : Place) (e : Event) → event_verdict b p e ≡ Ok tt → Bare b.status → Bare (board_after_event b p e).status
seen_bare b p e accepted h runs =
    let told = halting_of_event b p e accepted in
    let none = h (accepted_while_running b p e accepted) in
    let halts = neither (firing b.status b.debug e).halts (ssm b.debug || halted_itself b.debug e) (sym (told.stops ∙ told.halted) ∙ runs) in
    let itself = neither (ssm b.debug) (halted_itself b.debug e) halts.1 in
    record { trg = told.trg ∙ rw (halts.0, none.trg); halt = told.halt ∙ rw (itself.1, none.halt); bkpt = told.bkpt ∙ none.bkpt }

pressed_bare : (s : Status) (d : Debug) → Bare s → Bare (status_pressed s (pressed s d))
unfolding status_pressed pressed
pressed_bare s d h runs =
    let halts = neither s.halted (pressed s d).halted runs in
    let none = h halts.0 in
    record { trg = none.trg; halt = none.halt; bkpt = rw (none.bkpt, halts.1) }

call_bare : (s : State) (c : Call) → Bare s.board.status → Bare (after_call stand_in s c).board.status
call_bare s (packet m word) h = by (packet_verdict (lending s m) word)
  where
    by : (v : Result ⊤ Ground) → Bare (if_accepted v (stepped (lending s m) word) (lending s m)).board.status
    by (Ok _) = packet_status (λ s t. Bare s → Bare t) bare_changes (lending s m) word h
    by (Err g) = h
call_bare s (event e) h = by (event_verdict s.board s.place e) refl
  where
    by : (v : Result ⊤ Ground) → event_verdict s.board s.place e ≡ v → Bare (board_after_event s.board s.place e).status
    by (Ok _) a = seen_bare s.board s.place e a h
    by (Err g) a = rw a h
call_bare s breakpoint h = by (breakpoint_verdict s.board s.place) refl
  where
    by : (v : Result ⊤ Ground) → breakpoint_verdict s.board s.place ≡ v → Bare (board_after_breakpoint s.board s.place).status
    by (Ok _) a = rw a (pressed_bare s.board.status s.board.debug h)
    by (Err g) a = rw a h

calls_bare : (s : State) (calls : List Call) → Bare s.board.status → Bare (after stand_in s calls).board.status
unfolding after
calls_bare s [] h = h
calls_bare s (c ∷ cs) h = calls_bare (after_call stand_in s c) cs (call_bare s c h)

module _ (w : ℕ) (history : List Call) where
  abbrev here : State
  here = after stand_in (made w) history

  pub running_has_no_flag : here.board.status.halted ≡ false → NoFlag here.board.status
  unfolding fresh_board
  running_has_no_flag = calls_bare (made w) history (λ runs. absurd (true≢false runs))

  -- an accepted event, wherever a history leads to
  pub record FlagsTell (e : Event) (s : Status) : Type 0 where
    -- HALT is set exactly if the program halted itself
    pub halt : s.halt ≡ halted_itself here.board.debug e
    -- TRG is set exactly if the breakpoint halted it
    pub trg : s.trg ≡ (firing here.board.status here.board.debug e).halts

  pub flags_tell : (e : Event) → event_verdict here.board here.place e ≡ Ok tt → FlagsTell e (board_after_event here.board here.place e).status
  flags_tell e accepted =
      let none = running_has_no_flag (accepted_while_running here.board here.place e accepted) in
      let told = halting_of_event here.board here.place e accepted in
      record { halt = told.halt ∙ rw none.halt; trg = told.trg ∙ rw none.trg }
