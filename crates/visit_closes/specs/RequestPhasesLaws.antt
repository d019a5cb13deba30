-- A request's packets, by the port's phase: an operand is due, then it waits or shows its upper result word, and only at rest is the reader done.
use Prim.Native.Nat.{ℕ, zero, suc, ◌+◌, ◌≤◌}
use native.Mathlib.Omega.{arith}
use Rattle.std.specs.Prelude.{◌≡◌, true, false, length, None, Option, Some}
use Rattle.memory.specs.declared.Size.{Size}
use Rattle.std.proofs.Math.Path.{refl}
use Rattle.std.proofs.Common.{sym, ap, ◌∙◌, subst}
use mathlib.Core.List.{List, [], ◌∷◌}
use Rattle.memory.specs.declared.Size.TheVariants.{Byte, Word, Long}
use Rattle.command.specs.declared.Command.{Command}
use Rattle.board.specs.declared.Operands.{Operands}
use Rattle.board.specs.declared.Phase.{Phase}
use Rattle.board.specs.declared.Phase.TheVariants.{Rest, Due, Waiting, Upper}
use Rattle.board.specs.Board.{at_rest}
use Rattle.board.specs.State.{State}
use Rattle.work.specs.declared.Ending.{Ending}
use Rattle.work.specs.declared.Ending.TheVariants.{Complete, Failed, OneWord, TwoWords}
use Rattle.plan.specs.declared.Plan.TheVariants.{Work}
use Rattle.plan.specs.Plan.{no_operands, with_operand, waits_of, work_after, collected}
use Rattle.step.specs.Step.{reply_now, left, plan_for, stepped}
use Rattle.rest.specs.ToGoLaws.{waits_at_most}
use Rattle.requests.specs.declared.Request.{Request}
use Rattle.requests.specs.Request.{in_range, kind_of}
use Rattle.building.specs.RequestWords.{command_word, operands}
use Rattle.building.specs.RequestWordLaws.{Clear, operands_clear}
use Rattle.readings.specs.declared.Reader.{Reader}
use Rattle.readings.specs.declared.Reader.TheVariants.{First}
use Rattle.readings.specs.Reader.{after_reply, done}
use Rattle.pod_laws.specs.ReplyLaws.{after_byte, after_word, after_upper, after_lower}
use Rattle.pod_laws.specs.MeantCommand.{command_of}
use Rattle.pod_laws.specs.MeantCommandLaws.{decoded_as_meant}
use Rattle.pod_laws.specs.RequestCountLaws.{operand_count}
use Rattle.round_trip.specs.Meaning.{Scene}
use Rattle.round_trip.specs.RoundTrip.{resting, legal_there}
use Rattle.round_trip.specs.PacketTakenLaws.{waits_none, waits_more, due_none, due_more, operand_taken, wait_taken, scene_taken, command_taken}
use Rattle.round_trip.specs.ClosesLaws.{Fits, ended_in, taken}
use Rattle.round_trip.proofs.MeantWorkLaws.{Sized, work_ending, work_scene}
use Rattle.round_trip.proofs.MeaningLaws.{legal_is_known, address_sent, value_sent, work_is_meant}

-- ---- the phases
abbrev pub TakesOperand : Phase → Type 0
TakesOperand Rest = ⊥
TakesOperand (Due c left t) = Unit {0}
TakesOperand (Waiting c left address value) = ⊥
TakesOperand (Upper low) = ⊥

-- a packet's input is ignored
abbrev pub Ignores : Phase → Type 0
Ignores Rest = ⊥
Ignores (Due c left t) = ⊥
Ignores (Waiting c left address value) = Unit {0}
Ignores (Upper low) = Unit {0}

-- ---- what is ahead of a request
module _ (kind : Option Size) where
  abbrev pub reader_next : Reader → State → Reader
  reader_next reader s = after_reply kind reader (reply_now s.place)

  -- so many NOPs whose input is ignored, and then at rest the reply that ends the reading
  abbrev pub Waits : ℕ → Reader → State → Type 0
  Waits zero reader s = (at_rest s.place.phase ≡ true) × (done (reader_next reader s) ≡ true)
  Waits (suc n) reader s = Ignores s.place.phase × (done (reader_next reader s) ≡ false) × Waits n (reader_next reader s) (stepped s 0)

  -- operand words before them
  abbrev pub Ahead : List ℕ → ℕ → Reader → State → Type 0
  Ahead [] n reader s = Waits n reader s
  Ahead (word ∷ words) n reader s =
      TakesOperand s.place.phase × (done (reader_next reader s) ≡ false) × Ahead words n (reader_next reader s) (stepped s word)

-- ---- the closing replies
-- the packets that carry out an upper result word
abbrev pub shown_before : Ending → ℕ
shown_before Complete = 0
shown_before Failed = 0
shown_before (OneWord v) = 0
shown_before (TwoWords v) = 1

shown_at_most : (e : Ending) → shown_before e ≤ 1
shown_at_most Complete = omega arith
shown_at_most Failed = omega arith
shown_at_most (OneWord v) = omega arith
shown_at_most (TwoWords v) = omega arith

ending_ahead : (kind : Option Size) (e : Ending) (s : Scene) → Fits kind e → Waits kind (shown_before e) First (ended_in e s)
unfolding reply_now stepped plan_for
ending_ahead None Complete s f = (refl, refl)
ending_ahead None Failed s f = (refl, refl)
ending_ahead None (OneWord v) s f = absurd f
ending_ahead None (TwoWords v) s f = absurd f
ending_ahead (Some size) Complete s f = absurd f
ending_ahead (Some size) Failed s f = (refl, refl)
ending_ahead (Some Byte) (OneWord v) s f = (refl, rw (after_byte v f))
ending_ahead (Some Word) (OneWord v) s f = (refl, rw (after_word v f))
ending_ahead (Some Long) (OneWord v) s f = absurd f
ending_ahead (Some Byte) (TwoWords v) s f = absurd f
ending_ahead (Some Word) (TwoWords v) s f = absurd f
ending_ahead (Some Long) (TwoWords v) s f = (tt, rw (after_upper v f), rw (after_upper v f) (refl, rw (after_lower (Some Long) v)))

-- ---- the words before them
module _ (kind : Option Size) (c : Command) (s : State) where
  waits_ahead : (k n address value : ℕ) → Waits kind n First (left (Work c address value) s)
      → Waits kind (k + n) First (left (work_after k c address value) s)
  unfolding reply_now
  waits_ahead zero n address value h = let none : 0 + n ≡ n = omega arith in rw (none, waits_none c address value) h
  waits_ahead (suc k) n address value h =
      let more : suc k + n ≡ suc (k + n) = omega arith in
      rw (more, waits_more k c address value) (tt, refl, rw (wait_taken k c address value s 0) (waits_ahead k n address value h))

  operands_ahead : (words : List ℕ) (n : ℕ) (t : Operands) → Clear words
      → Waits kind n First (left (collected s.board.w 0 c (taken t words)) s)
      → Ahead kind words n First (left (collected s.board.w (length words) c t) s)
  unfolding reply_now
  operands_ahead [] n t clear h = h
  operands_ahead (word ∷ words) n t clear h =
      rw (due_more s.board.w (length words) c t)
      (tt, refl, rw (operand_taken (length words) c t s word clear.0) (operands_ahead words n (with_operand t word) clear.1 h))

-- ---- a request whose command word is legal
module _ (request : Request) (s : Scene) (next : ℕ) (h : in_range request ≡ true) (l : legal_there request s ≡ true) (z : Sized s) where
  -- once its command word is taken
  abbrev begun : Scene
  begun = scene_taken (command_word request) s

  -- the packets between its operand words and the one that carries out its closing reply
  abbrev pub waits_there : ℕ
  waits_there = waits_of s.board.w (command_of request) + shown_before (work_ending (command_of request) (address_sent request) begun)

  pub waits_bound : s.board.w ≤ 15 → waits_there ≤ 16
  waits_bound small =
      omega (arith, waits_at_most s.board.w (command_of request), shown_at_most (work_ending (command_of request) (address_sent request) begun))

  pub legal_ahead : Ahead (kind_of request) (operands request) waits_there First (stepped (resting s next) (command_word request))
  legal_ahead =
      let c = command_of request in
      let k = kind_of request in
      let w = s.board.w in
      let known = legal_is_known request s h l in
      let ending = work_ending c (address_sent request) begun in
      let sized : Sized begun = record { bytes = z.bytes; general = z.general; control = z.control } in
      let taken_as : stepped (resting s next) (command_word request) ≡ left (collected w (length (operands request)) c no_operands) (resting begun next) =
      command_taken c (command_word request) next s (decoded_as_meant request h) l
      ∙ ap (λ n. left (collected w n c no_operands) (resting begun next)) (sym (operand_count request known)) in
      subst (λ x. Ahead k (operands request) waits_there First x) (sym taken_as)
      (operands_ahead k c (resting begun next) (operands request) waits_there no_operands (operands_clear request h)
      (rw (due_none w c (taken no_operands (operands request)))
      (waits_ahead k c (resting begun next) (waits_of w c) (shown_before ending) (address_sent request) (value_sent request)
      (ending_ahead k ending (work_scene c (address_sent request) (value_sent request) begun) ((work_is_meant request s h known).fits sized)))))
