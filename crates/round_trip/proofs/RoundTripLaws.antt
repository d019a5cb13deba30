-- The round trip: a request's words and then NOPs, sent to a place at rest, are read as what the request means, and leave that.
use Rattle.std.specs.Prelude.{ℕ, suc, ◌-◌, ◌≡◌, refl, true, false, List, [], ◌∷◌, ◌++◌, length}
use Rattle.std.proofs.Common.{arith, subst}
use Rattle.plan.specs.declared.Plan.TheVariants.{Work}
use Rattle.plan.specs.Plan.{no_operands, waits_of}
use Rattle.step.specs.Step.{reply_now, left, stepped}
use Rattle.command.specs.Reply.{complete}
use Rattle.board.specs.State.{State}
use Rattle.run.specs.Run.{ran, replies}
use Rattle.requests.specs.declared.Request.{Request}
use Rattle.readings.specs.declared.Outcome.{Outcome}
use Rattle.readings.specs.declared.Outcome.TheVariants.{Illegal}
use Rattle.readings.specs.declared.Reader.TheVariants.{First}
use Rattle.requests.specs.Request.{in_range, kind_of}
use Rattle.building.specs.RequestWords.{command_word, operands}
use Rattle.building.specs.RequestWordLaws.{operands_clear}
use Rattle.pod_laws.specs.MeantCommand.{command_of}
use Rattle.pod_laws.specs.MeantCommandLaws.{decoded_as_meant}
use Rattle.pod_laws.specs.RequestCountLaws.{operand_count}
use Rattle.pod_laws.specs.NotYetLaws.{not_yet_until}
use Rattle.round_trip.specs.Meaning.{Scene, meaning}
use Rattle.round_trip.specs.RoundTrip.{nops, resting, legal_there, legal_leaves, second_word, illegal_leaves, closing_replies, nops_there, words_there, Trip}
use Rattle.round_trip.specs.PacketTakenLaws.{due_none, scene_taken, command_taken, illegal_taken}
use Rattle.round_trip.specs.ClosesLaws.{Closes, ending_closes, taken, waits_close, operands_taken}
use Rattle.round_trip.proofs.MeantWorkLaws.{Sized, work_ending, work_scene}
use Rattle.round_trip.proofs.MeaningLaws.{legal_is_known, address_sent, value_sent, work_is_meant}

-- ---- legal
module _ (request : Request) (s : Scene) (next : ℕ) (h : in_range request ≡ true) (l : legal_there request s ≡ true) (z : Sized s) where
  -- once its command word is taken
  abbrev begun : Scene
  begun = scene_taken (command_word request) s

  -- the closing replies, once the work is done
  told_as_meant : Closes (kind_of request) (nops (closing_replies (kind_of request) (meaning request s).outcome)) First
      (left (Work (command_of request) (address_sent request) (value_sent request)) (resting begun next))
      (meaning request s).outcome
      (legal_leaves request s)
  told_as_meant =
      let c = command_of request in
      let k = kind_of request in
      let m = work_is_meant request s h (legal_is_known request s h l) in
      let after = left (Work c (address_sent request) (value_sent request)) (resting begun next) in
      let there = work_scene c (address_sent request) (value_sent request) begun in
      let o = (meaning request s).outcome in
      subst (λ (x : Scene). Closes k (nops (closing_replies k o)) First after o (resting x complete)) m.leaves
      (subst (λ (x : Outcome). Closes k (nops (closing_replies k x)) First after x (resting there complete)) m.outcome
      (ending_closes k (work_ending c (address_sent request) begun) there (m.fits (record { bytes = z.bytes; general = z.general; control = z.control }))))

  -- the words after the command word
  pub legal_closes : Closes (kind_of request) (operands request ++ nops (nops_there request s)) First (stepped (resting s next) (command_word request))
      (meaning request s).outcome
      (legal_leaves request s)
  legal_closes =
      let c = command_of request in
      let k = kind_of request in
      let w = s.board.w in
      let o = (meaning request s).outcome in
      let final = legal_leaves request s in
      rw (command_taken c (command_word request) next s (decoded_as_meant request h) l, ← operand_count request (legal_is_known request s h l))
      (operands_taken k c (resting begun next) o final (operands request) (nops (nops_there request s)) no_operands (operands_clear request h)
      (rw (due_none w c (taken no_operands (operands request)))
      (waits_close k c (resting begun next) o final (waits_of w c) (closing_replies k o) (address_sent request) (value_sent request) told_as_meant)))

-- ---- illegal
pub illegal_closes : (request : Request) (s : Scene) (next : ℕ) → legal_there request s ≡ false
    → Closes (kind_of request) (second_word request ∷ []) First (stepped (resting s next) (command_word request)) Illegal (illegal_leaves request s)
unfolding replies ran reply_now
illegal_closes request s next l = rw (illegal_taken (command_word request) next s l) (record { answer = refl; all = refl; state = refl })

-- ---- both, as the port runs and the pod reads
trip_of : (request : Request) (words : List ℕ) (s : State) (outcome : Outcome) (final : State) → in_range request ≡ true
    → Closes (kind_of request) words First (stepped s (command_word request)) outcome final
    → Trip request (command_word request ∷ words) s outcome final
unfolding replies ran
trip_of request words s outcome final h c =
    let one_less : suc (length words) - 1 ≡ length words = omega arith in
    record {
      answer = rw (h, one_less, c.answer, c.all);
      not_yet = λ n f. rw h (not_yet_until (kind_of request) (replies words (stepped s (command_word request))) n (rw c.all (omega arith)));
      state = c.state;
    }

-- for every W: the place may hold any chain, pointer and next reply
pub round_trip : (request : Request) (s : Scene) (next : ℕ) → in_range request ≡ true → legal_there request s ≡ true → Sized s
    → Trip request (words_there request s) (resting s next) (meaning request s).outcome (legal_leaves request s)
round_trip request s next h l z =
    trip_of request (operands request ++ nops (nops_there request s)) (resting s next) (meaning request s).outcome (legal_leaves request s) h
    (legal_closes request s next h l z)

-- "Where the word is illegal, reading gives illegal": after one word more, which is itself taken as a command word
pub illegal_trip : (request : Request) (s : Scene) (next : ℕ) → in_range request ≡ true → legal_there request s ≡ false
    → Trip request (command_word request ∷ second_word request ∷ []) (resting s next) Illegal (illegal_leaves request s)
illegal_trip request s next h l =
    trip_of request (second_word request ∷ []) (resting s next) Illegal (illegal_leaves request s) h (illegal_closes request s next l)
