-- Laws: a command under way holds a register number below 16, in every state that a history leads to.
use Rattle.std.specs.Prelude.{ℕ, ◌/◌, ◌%◌, ◌-◌, ◌<◌, ◌≡◌, refl, Bool, true, cond, ◌&&◌, List, [], ◌∷◌, eqb, Err, Ok, Result, ⊤}
use Rattle.grounds.specs.declared.Ground.{Ground}
use Rattle.std.proofs.Common.{arith, eqb-true}
use Rattle.laws.specs.TestLaws.{either, both_hold}
use Rattle.command.specs.declared.Command.{Command}
use Rattle.command.specs.Command.{Row, table, looked_up, decoded_word, decoded, rdreg, wdreg, operand_words}
use Rattle.grounds.specs.Grounds.{if_accepted}
use Rattle.board.specs.declared.Operands.{Operands}
use Rattle.board.specs.declared.Phase.{Phase}
use Rattle.board.specs.declared.Phase.TheVariants.{Rest, Due, Waiting, Upper}
use Rattle.board.specs.declared.Standing.{Standing}
use Rattle.board.specs.Board.{fresh_place}
use Rattle.board.specs.State.{State, standing_of}
use Rattle.work.specs.declared.Ending.{Ending}
use Rattle.work.specs.declared.Ending.TheVariants.{Complete, Failed, OneWord, TwoWords}
use Rattle.access.specs.Access.{access_of}
use Rattle.work.specs.Work.{ending_of, phase_after}
use Rattle.plan.specs.declared.Plan.{Plan}
use Rattle.plan.specs.declared.Plan.TheVariants.{Hold, Reject, Release, Work}
use Rattle.plan.specs.Plan.{carries_c, legal_word, no_operands, with_operand, address_in, value_in, waits_of, work_after, collected, begun, continued, plan_of}
use Rattle.step.specs.StepFaultLaws.{step_place}
use Rattle.step.specs.Step.{left, plan_for, stepped}
use Rattle.port.specs.Packet.{packet_verdict}
use Rattle.promises.specs.Machine.{stand_in}
use Rattle.promises.specs.History.{Call, lending, after_call, after, made}
use Rattle.promises.specs.History.Call.{packet, event, breakpoint}
use Rattle.promises.specs.HeldRegister.{register_of, register_held}

-- no row of the table has a register number in its command
abbrev none_hold : List Row → Bool
none_hold [] = true
none_hold (r ∷ rs) = eqb (register_of r.command) 0 && none_hold rs

looked_up_holds_none : (word : ℕ) (rows : List Row) → none_hold rows ≡ true → register_of (looked_up word rows) < 16
looked_up_holds_none word [] h = omega arith
looked_up_holds_none word (r ∷ rs) h =
    let both = both_hold (eqb (register_of r.command) 0) (none_hold rs) h in
    let none : register_of r.command ≡ 0 = eqb-true (register_of r.command) 0 both.0 in
    either (λ (c : Command). register_of c < 16) (eqb word r.word) r.command (looked_up word rs) (λ e. omega arith)
    (λ e. looked_up_holds_none word rs both.1)

-- a command word has four bits for its register
pub decoded_register : (word : ℕ) → register_of (decoded word) < 16
unfolding decoded decoded_word
decoded_register word =
    either (λ (c : Command). register_of c < 16) (eqb (word / 16) 0x218) (rdreg (word % 16))
    (cond (eqb (word / 16) 0x208) (wdreg (word % 16)) (looked_up word table)) (λ e. omega arith)
    (λ e. either (λ (c : Command). register_of c < 16) (eqb (word / 16) 0x208) (wdreg (word % 16)) (looked_up word table) (λ f. omega arith)
    (λ f. looked_up_holds_none word table refl))

-- what a packet is taken for holds no other
abbrev PlanHolds : Plan → Type 0
PlanHolds (Hold phase) = register_held phase < 16
PlanHolds Reject = Unit {0}
PlanHolds (Release low) = Unit {0}
PlanHolds (Work c address value) = Unit {0}

work_after_holds : (left : ℕ) (c : Command) (address value : ℕ) → register_of c < 16 → PlanHolds (work_after left c address value)
unfolding work_after
work_after_holds left c a v h = either PlanHolds (eqb left 0) (Work c a v) (Hold (Waiting c left a v)) (λ e. tt) (λ e. h)

collected_holds : (w left : ℕ) (c : Command) (t : Operands) → register_of c < 16 → PlanHolds (collected w left c t)
unfolding collected
collected_holds w left c t h =
    either PlanHolds (eqb left 0) (work_after (waits_of w c) c (address_in (operand_words c) t) (value_in (operand_words c) t)) (Hold (Due c left t))
    (λ e. work_after_holds (waits_of w c) c (address_in (operand_words c) t) (value_in (operand_words c) t) h)
    (λ e. h)

plan_holds : (phase : Phase) (s : Standing) (w word : ℕ) → register_held phase < 16 → PlanHolds (plan_of phase s w word)
unfolding begun continued
plan_holds Rest s w word h =
    either PlanHolds (legal_word word s) (collected w (operand_words (decoded word)) (decoded word) no_operands) Reject
    (λ e. collected_holds w (operand_words (decoded word)) (decoded word) no_operands (decoded_register word))
    (λ e. tt)
plan_holds (Due c left t) s w word h =
    either PlanHolds (carries_c word) Reject (collected w (left - 1) c (with_operand t word)) (λ e. tt)
    (λ e. collected_holds w (left - 1) c (with_operand t word) h)
plan_holds (Waiting c left a v) s w word h = work_after_holds (left - 1) c a v h
plan_holds (Upper low) s w word h = tt

ending_holds_none : (ending : Ending) → register_held (phase_after ending) < 16
ending_holds_none Complete = omega arith
ending_holds_none Failed = omega arith
ending_holds_none (OneWord v) = omega arith
ending_holds_none (TwoWords v) = omega arith

left_holds : (plan : Plan) (s : State) → PlanHolds plan → register_held (left plan s).place.phase < 16
left_holds (Hold phase) s h = h
left_holds Reject s h = omega arith
left_holds (Release low) s h = omega arith
left_holds (Work c a v) s h = ending_holds_none (ending_of c s.board a (access_of c s.memory s.place.pointer a))

pub packet_keeps_register : (s : State) (word : ℕ) → register_held s.place.phase < 16 → register_held (stepped s word).place.phase < 16
unfolding plan_for
packet_keeps_register s word h =
    rw (step_place s word)
    (left_holds (plan_for s.board s.place word) s (plan_holds s.place.phase (standing_of s.board s.place) s.board.w word h))

call_keeps_register : (s : State) (c : Call) → register_held s.place.phase < 16 → register_held (after_call stand_in s c).place.phase < 16
call_keeps_register s (packet m word) h = by (packet_verdict (lending s m) word)
  where
    by : (v : Result ⊤ Ground) → register_held (if_accepted v (stepped (lending s m) word) (lending s m)).place.phase < 16
    by (Ok _) = packet_keeps_register (lending s m) word h
    by (Err g) = h
call_keeps_register s (event e) h = h
call_keeps_register s breakpoint h = h

history_keeps_register : (s : State) (calls : List Call) → register_held s.place.phase < 16 → register_held (after stand_in s calls).place.phase < 16
unfolding after
history_keeps_register s [] h = h
history_keeps_register s (c ∷ cs) h = history_keeps_register (after_call stand_in s c) cs (call_keeps_register s c h)

pub register_below_16 : (w : ℕ) (history : List Call) → register_held (after stand_in (made w) history).place.phase < 16
unfolding fresh_place
register_below_16 w history = history_keeps_register (made w) history (omega arith)
