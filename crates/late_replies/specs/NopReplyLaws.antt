-- Laws: after a NOP the port's next reply is not "illegal", whatever it finds: only a rejected word is answered so, and a NOP never is rejected.
use Rattle.std.specs.Prelude.{ℕ, ◌-◌, ◌%◌, ◌≤◌, ◌≡◌, refl, Bool, true, false, eqb, None, Option, Some}
use Rattle.memory.specs.declared.Size.{Size}
use Rattle.std.proofs.Common.{arith}
use Rattle.laws.specs.TestLaws.{either}
use Rattle.memory.specs.declared.Size.TheVariants.{Byte, Word, Long}
use Rattle.command.specs.declared.Command.{Command}
use Rattle.command.specs.declared.Command.TheVariants.{Unknown, Nop, Load, Store, Show, Change}
use Rattle.command.specs.declared.Source.{Source}
use Rattle.command.specs.declared.Source.TheVariants as source
use Rattle.command.specs.Command.{operand_words}
use Rattle.command.specs.Reply.{complete, bus_error, not_ready, illegal}
use Rattle.board.specs.declared.Operands.{Operands}
use Rattle.board.specs.declared.Phase.{Phase}
use Rattle.board.specs.declared.Phase.TheVariants.{Rest, Due, Waiting, Upper}
use Rattle.board.specs.declared.Standing.{Standing}
use Rattle.board.specs.State.{State, standing_of}
use Rattle.registers.specs.Registers.{reached}
use Rattle.work.specs.declared.Ending.{Ending}
use Rattle.work.specs.declared.Ending.TheVariants.{Complete, Failed, OneWord, TwoWords}
use Rattle.work.specs.Work.{change_ending, first_reply, phase_after}
use Rattle.plan.specs.declared.Plan.{Plan}
use Rattle.plan.specs.declared.Plan.TheVariants.{Hold, Reject, Release, Work}
use Rattle.plan.specs.Plan.{with_operand, address_in, value_in, waits_of, work_after, collected, continued, plan_of}
use Rattle.plan.specs.PlanLaws.{nop_plan}
use Rattle.control.specs.Control.{control_fetched}
use Rattle.step.specs.StepFaultLaws.{step_place}
use Rattle.step.specs.Step.{reply_in, reply_now, left, plan_for, stepped}
use Rattle.sound.specs.Sound.{Sound}
use Rattle.sound.specs.SoundPlanLaws.{PlanWithin, plan_within}
use Rattle.round_trip.specs.Meaning.{Scene}
use Rattle.round_trip.specs.RoundTrip.{scene_of}
use Rattle.round_trip.specs.ClosesLaws.{Fits}
use Rattle.round_trip.proofs.MeantWorkLaws.{word_cleared, work_ending, Sized, sound_is_sized, load_meant, store_meant, read_control_meant, csr_fits}

-- ---- the work's first reply is data, "complete" or a bus error
fits_no_illegal : (kind : Option Size) (e : Ending) → Fits kind e → first_reply e ≤ bus_error
fits_no_illegal kind Complete h = omega arith
fits_no_illegal kind Failed h = omega arith
fits_no_illegal None (OneWord v) h = absurd h
fits_no_illegal (Some Byte) (OneWord v) h = omega arith
fits_no_illegal (Some Word) (OneWord v) h = omega arith
fits_no_illegal (Some Long) (OneWord v) h = absurd h
fits_no_illegal None (TwoWords v) h = absurd h
fits_no_illegal (Some Byte) (TwoWords v) h = absurd h
fits_no_illegal (Some Word) (TwoWords v) h = absurd h
fits_no_illegal (Some Long) (TwoWords v) h = omega arith

change_no_illegal : (t : Bool) → first_reply (change_ending t) ≤ bus_error
change_no_illegal true = omega arith
change_no_illegal false = omega arith

module _ (s : Scene) (sized : Sized s) (address : ℕ) where
  cleared_sized : Sized (word_cleared s)
  cleared_sized = record { bytes = sized.bytes; general = sized.general; control = sized.control }

  shown_no_illegal : (from : Source) → first_reply (work_ending (Show from) address s) ≤ bus_error
  unfolding control_fetched
  shown_no_illegal (source.General n) = omega (arith, sized.general (n % 16))
  shown_no_illegal source.Control =
      fits_no_illegal (Some Long) (work_ending (Show source.Control) address s) ((read_control_meant s address 0).fits cleared_sized)
  shown_no_illegal source.Csr = omega (arith, csr_fits s.board)

  work_no_illegal : (c : Command) → first_reply (work_ending c address s) ≤ bus_error
  work_no_illegal Unknown = omega arith
  work_no_illegal Nop = omega arith
  work_no_illegal (Load size base) =
      fits_no_illegal (Some size) (work_ending (Load size base) address s) ((load_meant size s base address 0).fits cleared_sized)
  work_no_illegal (Store size base) =
      fits_no_illegal None (work_ending (Store size base) address s) ((store_meant size s base address 0).fits cleared_sized)
  work_no_illegal (Show from) = shown_no_illegal from
  work_no_illegal (Change target) = change_no_illegal (reached target address)

-- ---- what is not rejected is not answered so
abbrev Taken : Plan → Type 0
Taken (Hold phase) = Unit {0}
Taken Reject = ⊥
Taken (Release low) = Unit {0}
Taken (Work c address value) = Unit {0}

held_no_illegal : (phase : Phase) → reply_in phase not_ready ≤ bus_error
held_no_illegal Rest = omega arith
held_no_illegal (Due c left t) = omega arith
held_no_illegal (Waiting c left address value) = omega arith
held_no_illegal (Upper low) = omega arith

ended_no_illegal : (e : Ending) → first_reply e ≤ bus_error → reply_in (phase_after e) (first_reply e) ≤ bus_error
ended_no_illegal Complete h = h
ended_no_illegal Failed h = h
ended_no_illegal (OneWord v) h = h
ended_no_illegal (TwoWords v) h = h

taken_no_illegal : (s : State) → Sound s → (plan : Plan) → PlanWithin s.board.w plan → Taken plan → reply_now (left plan s).place ≤ bus_error
unfolding reply_now
taken_no_illegal s f (Hold phase) h t = held_no_illegal phase
taken_no_illegal s f Reject h t = absurd t
taken_no_illegal s f (Release low) h t = omega arith
taken_no_illegal s f (Work c address value) h t =
    ended_no_illegal (work_ending c address (scene_of s)) (work_no_illegal (scene_of s) (sound_is_sized f) address c)

-- ---- a NOP is taken, in every phase
work_after_taken : (left : ℕ) (c : Command) (address value : ℕ) → Taken (work_after left c address value)
unfolding work_after
work_after_taken left c address value = either Taken (eqb left 0) (Work c address value) (Hold (Waiting c left address value)) (λ e. tt) (λ e. tt)

collected_taken : (w left : ℕ) (c : Command) (t : Operands) → Taken (collected w left c t)
unfolding collected
collected_taken w left c t =
    either Taken (eqb left 0) (work_after (waits_of w c) c (address_in (operand_words c) t) (value_in (operand_words c) t)) (Hold (Due c left t))
    (λ e. work_after_taken (waits_of w c) c (address_in (operand_words c) t) (value_in (operand_words c) t)) (λ e. tt)

nop_taken : (phase : Phase) (s : Standing) (w : ℕ) → Taken (plan_of phase s w 0)
unfolding continued
nop_taken Rest s w = rw (nop_plan s w) tt
nop_taken (Due c left t) s w = collected_taken w (left - 1) c (with_operand t 0)
nop_taken (Waiting c left address value) s w = work_after_taken (left - 1) c address value
nop_taken (Upper low) s w = tt

-- After a NOP the port's next reply is not 1FFFF, from every state that is sound.
pub nop_never_illegal : {s : State} → Sound s → reply_now (stepped s 0).place ≡ illegal → ⊥
unfolding plan_for
nop_never_illegal {s} f e =
    let answered : reply_now (left (plan_for s.board s.place 0) s).place ≡ illegal = rw (step_place s 0) at e in
    let standing = standing_of s.board s.place in
    let plan = plan_of s.place.phase standing s.board.w 0 in
    let small : reply_now (left plan s).place ≤ bus_error =
    taken_no_illegal s f plan (plan_within s.place.phase standing s.board.w 0 f.place.phase) (nop_taken s.place.phase standing s.board.w) in
    omega arith

-- And where it is 1FFFF after a packet, the port is at rest.
pub illegal_is_at_rest : {s : State} → Sound s → (word : ℕ) → reply_now (stepped s word).place ≡ illegal → (stepped s word).place.phase ≡ Rest
unfolding plan_for
illegal_is_at_rest {s} f word =
    rw (step_place s word)
    (by_plan (plan_of s.place.phase (standing_of s.board s.place) s.board.w word)
    (plan_within s.place.phase (standing_of s.board s.place) s.board.w word f.place.phase))
  where
    by_plan : (plan : Plan) → PlanWithin s.board.w plan → reply_now (left plan s).place ≡ illegal → (left plan s).place.phase ≡ Rest
    by_plan (Hold phase) h e = absurd (omega (arith, taken_no_illegal s f (Hold phase) h tt))
    by_plan Reject h e = refl
    by_plan (Release low) h e = refl
    by_plan (Work c address value) h e = absurd (omega (arith, taken_no_illegal s f (Work c address value) h tt))

-- A NOP at rest is answered "complete".
pub nop_completes : (s : State) → s.place.phase ≡ Rest → reply_now (stepped s 0).place ≡ complete
unfolding stepped plan_for reply_now
nop_completes s e = rw (e, nop_plan (standing_of s.board s.place) s.board.w)
