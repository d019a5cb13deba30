-- [4] With one place a number is kept at rest alone; so a control register's error keeps none, whatever was kept before its word.
use Rattle.std.specs.Prelude.{ℕ, ◌≡◌, refl, true, false, List, [], ◌∷◌, Err, None, Ok, Option, Result, ⊤}
use Rattle.grounds.specs.declared.Ground.{Ground}
use Rattle.std.proofs.Common.{sym, ap, ◌∙◌, true≢false, eqb-true}
use Rattle.laws.specs.TestLaws.{by_test}
use Rattle.grounds.specs.Grounds.{if_accepted}
use Rattle.command.specs.declared.Command.{Command}
use Rattle.command.specs.declared.Command.TheVariants.{Nop, Show, Change}
use Rattle.command.specs.declared.Source.{Source}
use Rattle.command.specs.declared.Target.{Target}
use Rattle.board.specs.declared.Phase.{Phase}
use Rattle.board.specs.declared.Phase.TheVariants.{Rest, Due, Waiting, Upper}
use Rattle.board.specs.Board.{fresh_board, at_rest}
use Rattle.board.specs.State.{State, standing_of}
use Rattle.access.specs.declared.Access.{Access}
use Rattle.access.specs.declared.Access.TheVariants.{NoAccess}
use Rattle.access.specs.Access.{access_of}
use Rattle.work.specs.declared.Ending.{Ending}
use Rattle.work.specs.declared.Ending.TheVariants.{Complete, Failed, OneWord, TwoWords}
use Rattle.work.specs.Work.{ending_of, phase_after}
use Rattle.plan.specs.declared.Plan.{Plan}
use Rattle.plan.specs.declared.Plan.TheVariants.{Hold, Reject, Release, Work}
use Rattle.plan.specs.PlanLaws.{nop_plan}
use Rattle.faults.specs.Fault.{is_nop, fault_after}
use Rattle.faults.specs.FaultLaws.{is_nop_command, no_access_keeps_none}
use Rattle.step.specs.Step.{left, plan_for, word_taken, stepped}
use Rattle.port.specs.Packet.{packet_verdict}
use Rattle.bus.specs.EventLaws.{event_changes_status_alone, breakpoint_changes_status_alone}
use Rattle.promises.specs.Machine.{stand_in}
use Rattle.promises.specs.History.{Lent, Call, lending, after_call, after, made}
use Rattle.promises.specs.History.Call.{packet, event, breakpoint}

-- ---- with one place a number is kept at rest alone
-- a place under way finds none
abbrev Apart : State → Type 0
Apart s = at_rest s.place.phase ≡ false → s.board.fault ≡ None

-- what a packet's word leaves: none, or it is a NOP at rest
data Cleared (s : State) (word : ℕ) : Type 0 where
  none : (word_taken s word).board.fault ≡ None → Cleared s word
  nop_at_rest : s.place.phase ≡ Rest → word ≡ 0 → Cleared s word

clears : (s : State) (word : ℕ) → Apart s → Cleared s word
clears s word h = by s.place.phase refl
  where
    by : (phase : Phase) → s.place.phase ≡ phase → Cleared s word
    by Rest e = by_test (is_nop word) (λ t. nop_at_rest e (eqb-true word 0 t)) (λ t. none (rw (e, t)))
    by (Due c left t) e = none (rw e (h (rw e)))
    by (Waiting c left address value) e = none (rw e (h (rw e)))
    by (Upper low) e = none (rw e (h (rw e)))

-- a bus error leaves the port at rest
failed_rests : (e : Ending) (access : Access) (f : Option ℕ) → f ≡ None → at_rest (phase_after e) ≡ false → fault_after e access f ≡ None
failed_rests Complete _ f n h = n
failed_rests Failed _ f n h = absurd (true≢false h)
failed_rests (OneWord v) _ f n h = n
failed_rests (TwoWords v) _ f n h = n

left_apart : (plan : Plan) (s : State) → s.board.fault ≡ None → Apart (left plan s)
left_apart (Hold phase) s n h = n
left_apart Reject s n h = n
left_apart (Release low) s n h = n
left_apart (Work c address value) s n h =
    let access = access_of c s.memory s.place.pointer address in failed_rests (ending_of c s.board address access) access s.board.fault n h

packet_apart : (s : State) (word : ℕ) → Apart s → Apart (stepped s word)
unfolding stepped plan_for
packet_apart s word h = by (clears s word h)
  where
    by : Cleared s word → Apart (stepped s word)
    by (none n) = left_apart (plan_for s.board s.place word) (word_taken s word) n
    by (nop_at_rest e z) = λ t. absurd (true≢false (sym (rw (e, z, nop_plan (standing_of s.board s.place) s.board.w)) ∙ t))

call_apart : (s : State) (c : Call) → Apart s → Apart (after_call stand_in s c)
call_apart s (packet m word) h = by (packet_verdict (lending s m) word)
  where
    by : (v : Result ⊤ Ground) → Apart (if_accepted v (stepped (lending s m) word) (lending s m))
    by (Ok _) = packet_apart (lending s m) word h
    by (Err g) = h
call_apart s (event e) h = λ t. rw (event_changes_status_alone s.board s.place e) (h t)
call_apart s breakpoint h = λ t. rw (breakpoint_changes_status_alone s.board s.place) (h t)

calls_apart : (s : State) (calls : List Call) → Apart s → Apart (after stand_in s calls)
unfolding after
calls_apart s [] h = h
calls_apart s (c ∷ cs) h = calls_apart (after_call stand_in s c) cs (call_apart s c h)

pub kept_at_rest_alone : (w : ℕ) (history : List Call) → at_rest (after stand_in (made w) history).place.phase ≡ false
    → (after stand_in (made w) history).board.fault ≡ None
unfolding fresh_board
kept_at_rest_alone w history = calls_apart (made w) history (λ t. refl)

-- ---- "A control-register error keeps none": nor does any command but NOP that makes no access to memory
done_without : (s : State) (word : ℕ) (c : Command) (address value : ℕ) → Apart s → plan_for s.board s.place word ≡ Work c address value
    → is_nop_command c ≡ false → ((m : List ℕ) (pointer address : ℕ) → access_of c m pointer address ≡ NoAccess) → (stepped s word).board.fault ≡ None
unfolding stepped plan_for
done_without s word c address value h plan other access = by (clears s word h)
  where
    command_done : Plan → Command
    command_done p = elim p [ Hold phase ↦ Nop | Reject ↦ Nop | Release low ↦ Nop | Work d a v ↦ d ]

    by : Cleared s word → (stepped s word).board.fault ≡ None
    by (none n) =
        let ending = ending_of c (word_taken s word).board address NoAccess in
        rw (plan, access s.memory s.place.pointer address) (no_access_keeps_none ending (word_taken s word).board.fault ∙ n)
    by (nop_at_rest e z) =
        let done : Work Nop 0 0 ≡ Work c address value = sym (rw (e, z) (nop_plan (standing_of s.board s.place) s.board.w)) ∙ plan in
        absurd (true≢false (ap (λ p. is_nop_command (command_done p)) done ∙ other))

-- a packet with which the work of a control register, or of any other, is done, in any history
module _ (w : ℕ) (history : List Call) (m : Lent) (word address value : ℕ) where
  abbrev found : State
  found = lending (after stand_in (made w) history) m

  pub shown_keeps_none : (from : Source) → plan_for found.board found.place word ≡ Work (Show from) address value
      → (stepped found word).board.fault ≡ None
  shown_keeps_none from plan = done_without found word (Show from) address value (kept_at_rest_alone w history) plan refl (λ m pointer a. refl)

  pub changed_keeps_none : (target : Target) → plan_for found.board found.place word ≡ Work (Change target) address value
      → (stepped found word).board.fault ≡ None
  changed_keeps_none target plan = done_without found word (Change target) address value (kept_at_rest_alone w history) plan refl (λ m pointer a. refl)
