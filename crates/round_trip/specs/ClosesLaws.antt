-- Laws of closing: the words of a request and then NOPs are read to the closing reply and no further.
use Prim.Native.Nat.{ℕ, zero, suc, ◌+◌, ◌/◌, ◌%◌, ◌≤◌}
use native.Mathlib.Omega.{arith}
use Rattle.std.specs.Prelude.{◌≡◌, false, length, None, Option, Some}
use Rattle.memory.specs.declared.Size.{Size}
use Rattle.std.proofs.Math.Path.{refl}
use mathlib.Core.List.{List, [], ◌∷◌, ◌++◌}
use Rattle.memory.specs.declared.Size.TheVariants.{Byte, Word, Long}
use Rattle.command.specs.declared.Command.{Command}
use Rattle.board.specs.Board.{fresh_place}
use Rattle.board.specs.Setters.{place_with}
use Rattle.board.specs.declared.Operands.{Operands}
use Rattle.board.specs.declared.Phase.TheVariants.{Due, Waiting}
use Rattle.work.specs.declared.Ending.{Ending}
use Rattle.work.specs.declared.Ending.TheVariants.{Complete as Completed, Failed, OneWord, TwoWords}
use Rattle.work.specs.Work.{first_reply, phase_after}
use Rattle.plan.specs.declared.Plan.TheVariants.{Work}
use Rattle.plan.specs.Plan.{with_operand, work_after, collected}
use Rattle.command.specs.Reply.{complete, bus_error}
use Rattle.board.specs.State.{State, state_of}
use Rattle.step.specs.Step.{reply_now, left, plan_for, stepped}
use Rattle.run.specs.Run.{ran, replies}
use Rattle.readings.specs.declared.Outcome.{Outcome}
use Rattle.readings.specs.declared.Outcome.TheVariants.{Value, Complete, BusError}
use Rattle.readings.specs.declared.Reader.{Reader}
use Rattle.readings.specs.declared.Reader.TheVariants.{First, Second, Closed}
use Rattle.readings.specs.Reader.{after_reply, after_replies, done, used}
use Rattle.building.specs.RequestWordLaws.{Clear}
use Rattle.pod_laws.specs.ReplyLaws.{after_byte, after_word, after_upper, after_lower}
use Rattle.round_trip.specs.Meaning.{Scene}
use Rattle.round_trip.specs.RoundTrip.{nops, resting, closing_replies}
use Rattle.round_trip.specs.PacketTakenLaws.{under, waits_none, waits_more, due_more, operand_taken, wait_taken, nop_at_rest}

pub record Closes (kind : Option Size) (words : List ℕ) (reader : Reader) (s : State) (outcome : Outcome) (final : State) : Type 0 where
  -- the replies to the words bring the outcome
  pub answer : after_replies kind reader (replies words s) ≡ Closed outcome
  -- and not before the last of them
  pub all : used kind reader (replies words s) ≡ length words
  -- what the words leave
  pub state : ran words s ≡ final

pub closes_on : (kind : Option Size) (word : ℕ) (words : List ℕ) (reader : Reader) (s : State) (outcome : Outcome) (final : State) → done reader ≡ false
    → Closes kind words (after_reply kind reader (reply_now s.place)) (stepped s word) outcome final
    → Closes kind (word ∷ words) reader s outcome final
unfolding replies ran
closes_on kind word words reader s outcome final more c = record { answer = c.answer; all = rw more (omega (arith, c.all)); state = c.state }

-- ---- the closing replies
-- the port's ending as the pod reads it
abbrev pub outcome_of : Ending → Outcome
outcome_of Completed = Complete
outcome_of Failed = BusError
outcome_of (OneWord v) = Value v
outcome_of (TwoWords v) = Value v

-- an ending that fits the result asked for
abbrev pub Fits : Option Size → Ending → Type 0
Fits None Completed = Unit {0}
Fits None Failed = Unit {0}
Fits None (OneWord v) = ⊥
Fits None (TwoWords v) = ⊥
Fits (Some size) Completed = ⊥
Fits (Some size) Failed = Unit {0}
Fits (Some Byte) (OneWord v) = v ≤ 0xFF
Fits (Some Word) (OneWord v) = v ≤ 0xFFFF
Fits (Some Long) (OneWord v) = ⊥
Fits (Some Byte) (TwoWords v) = ⊥
Fits (Some Word) (TwoWords v) = ⊥
Fits (Some Long) (TwoWords v) = v ≤ 0xFFFFFFFF

-- the work is done
abbrev pub ended_in : Ending → Scene → State
ended_in e s = state_of s.board (place_with fresh_place (phase_after e) s.chain s.pointer (first_reply e)) s.memory

last_closes : (kind : Option Size) (reader : Reader) (s : Scene) (reply : ℕ) (outcome : Outcome)
    → done reader ≡ false → after_reply kind reader reply ≡ Closed outcome
    → Closes kind (nops 1) reader (resting s reply) outcome (resting s complete)
unfolding replies ran reply_now
last_closes kind reader s reply outcome more closed = record { answer = closed; all = rw more; state = nop_at_rest s reply }

low_leaves : (s : Scene) (v : ℕ) → stepped (ended_in (TwoWords v) s) 0 ≡ resting s (v % 65536)
unfolding stepped plan_for
low_leaves s v = refl

pub ending_closes : (kind : Option Size) (e : Ending) (s : Scene) → Fits kind e
    → Closes kind (nops (closing_replies kind (outcome_of e))) First (ended_in e s) (outcome_of e) (resting s complete)
unfolding reply_now
ending_closes None Completed s f = last_closes None First s complete Complete refl refl
ending_closes None Failed s f = last_closes None First s bus_error BusError refl refl
ending_closes None (OneWord v) s f = absurd f
ending_closes None (TwoWords v) s f = absurd f
ending_closes (Some size) Completed s f = absurd f
ending_closes (Some size) Failed s f = last_closes (Some size) First s bus_error BusError refl refl
ending_closes (Some Byte) (OneWord v) s f = last_closes (Some Byte) First s v (Value v) refl (after_byte v f)
ending_closes (Some Word) (OneWord v) s f = last_closes (Some Word) First s v (Value v) refl (after_word v f)
ending_closes (Some Long) (OneWord v) s f = absurd f
ending_closes (Some Byte) (TwoWords v) s f = absurd f
ending_closes (Some Word) (TwoWords v) s f = absurd f
ending_closes (Some Long) (TwoWords v) s f =
    closes_on (Some Long) 0 (nops 1) First (ended_in (TwoWords v) s) (Value v) (resting s complete) refl
    (rw (after_upper v f, low_leaves s v) (last_closes (Some Long) (Second (v / 65536)) s (v % 65536) (Value v) refl (after_lower (Some Long) v)))

-- ---- the words before them
-- operand words taken one after the other
abbrev pub taken : Operands → List ℕ → Operands
taken t [] = t
taken t (word ∷ words) = taken (with_operand t word) words

module _ (kind : Option Size) (c : Command) (s : State) (outcome : Outcome) (final : State) where
  pub waits_close : (k n address value : ℕ) → Closes kind (nops n) First (left (Work c address value) s) outcome final
      → Closes kind (nops (k + n)) First (left (work_after k c address value) s) outcome final
  unfolding reply_now
  waits_close zero n address value h = let none : 0 + n ≡ n = omega arith in rw (none, waits_none c address value) h
  waits_close (suc k) n address value h =
      let more : suc k + n ≡ suc (k + n) = omega arith in
      rw (more, waits_more k c address value)
      (closes_on kind 0 (nops (k + n)) First (under c (Waiting c (suc k) address value) s) outcome final refl
      (rw (wait_taken k c address value s 0) (waits_close k n address value h)))

  pub operands_taken : (words further : List ℕ) (t : Operands) → Clear words
      → Closes kind further First (left (collected s.board.w 0 c (taken t words)) s) outcome final
      → Closes kind (words ++ further) First (left (collected s.board.w (length words) c t) s) outcome final
  unfolding reply_now
  operands_taken [] further t clear h = h
  operands_taken (word ∷ words) further t clear h =
      rw (due_more s.board.w (length words) c t)
      (closes_on kind word (words ++ further) First (under c (Due c (suc (length words)) t) s) outcome final refl
      (rw (operand_taken (length words) c t s word clear.0) (operands_taken words further (with_operand t word) clear.1 h)))
