-- Laws of a run: how its loop goes on, and where its replies stand.
use Rattle.std.specs.Prelude.{ℕ, suc, ◌+◌, ◌≤◌, ◌<◌, ◌≡◌, refl, Bool, true, false, ◌&&◌, List, [], ◌∷◌, ◌++◌, leb, length, get_or, set, take, drop, Ok}
use Rattle.std.proofs.Common.{sym, ◌∙◌, append_assoc, add-one, arith, length-set, drop_of_length-le, take-append-drop, drop-cons, take-suc-set}
use Rattle.std.proofs.Common.{drop-set-lt, leb-true}
use Rattle.board.specs.declared.Board.{Board}
use Rattle.board.specs.declared.Place.{Place}
use Rattle.board.specs.declared.Phase.{Phase}
use Rattle.board.specs.declared.Phase.TheVariants.{Rest, Due, Waiting, Upper}
use Rattle.ranges.specs.Ranges.{in_range}
use Rattle.board.specs.State.{State, state_of}
use Rattle.work.specs.declared.Ending.{Ending}
use Rattle.work.specs.declared.Ending.TheVariants.{Complete, Failed, OneWord, TwoWords}
use Rattle.access.specs.Access.{access_of}
use Rattle.work.specs.Work.{ending_of, first_reply, phase_after}
use Rattle.plan.specs.declared.Plan.{Plan}
use Rattle.plan.specs.declared.Plan.TheVariants.{Hold, Reject, Release, Work}
use Rattle.command.specs.Reply.{not_ready}
use Rattle.step.specs.Step.{reply_in, reply_now, left, plan_for, word_taken, stepped}
use Rattle.run.specs.Run.{ran, replies, all_within, run_verdict}
use Rattle.run.specs.RunMirror.{written}
use Rattle.grounds.specs.declared.Ground.TheVariants.{WordTooLarge, MemoryTooLong, BufferTooShort, StateOutOfRange}
use Rattle.grounds.specs.Grounds.{check}
use Rattle.grounds.specs.GroundLaws.{accepted_holds}

-- the step, from the plan
pub stepped_as : (b : Board) (p : Place) (m : List ℕ) (word : ℕ) {plan : Plan} {next : State}
    → plan ≡ plan_for b p word → next ≡ left plan (word_taken (state_of b p m) word) → next ≡ stepped (state_of b p m) word
unfolding stepped
stepped_as b p m word e f = rw e at f

-- one word more: of the run, of its replies, of the words judged
pub ran_on : (words : List ℕ) (i : ℕ) (s : State) → i < length words → ran (drop i words) s ≡ ran (drop (i + 1) words) (stepped s (get_or words i 0))
unfolding ran
ran_on words i s h = rw (add-one i, drop-cons words i 0 h)

pub written_on : (words : List ℕ) (i : ℕ) (s : State) (out : List ℕ) → i < length words
    → written (drop i words) i s out ≡ written (drop (i + 1) words) (i + 1) (stepped s (get_or words i 0)) (set out i (reply_now s.place))
unfolding written
written_on words i s out h = rw (drop-cons words i 0 h, ← add-one i)

-- after any packet the reply to the next is the one held
pub reply_held : (s : State) (word : ℕ) {next : State} → next ≡ stepped s word → next.place.next ≡ reply_now next.place
unfolding stepped reply_now
reply_held s word step = rw step (by_plan (plan_for s.board s.place word) (word_taken s word))
  where
    by_phase : (phase : Phase) → not_ready ≡ reply_in phase not_ready
    by_phase Rest = refl
    by_phase (Due c left taken) = refl
    by_phase (Waiting c left address value) = refl
    by_phase (Upper low) = refl

    by_ending : (ending : Ending) → first_reply ending ≡ reply_in (phase_after ending) (first_reply ending)
    by_ending Complete = refl
    by_ending Failed = refl
    by_ending (OneWord value) = refl
    by_ending (TwoWords value) = refl

    by_plan : (plan : Plan) (s : State) → (left plan s).place.next ≡ reply_in (left plan s).place.phase (left plan s).place.next
    by_plan (Hold phase) s = by_phase phase
    by_plan Reject s = refl
    by_plan (Release low) s = refl
    by_plan (Work c address value) s = by_ending (ending_of c s.board address (access_of c s.memory s.place.pointer address))

pub goes_on : (words : List ℕ) (i : ℕ) (s : State) {next : State} (out : List ℕ) {reply : ℕ} → i < length words → reply ≡ reply_now s.place
    → next ≡ stepped s (get_or words i 0)
    → (ran (drop (i + 1) words) next ≡ ran (drop i words) s)
    × (written (drop (i + 1) words) (i + 1) next (set out i reply) ≡ written (drop i words) i s out)
    × (next.place.next ≡ reply_now next.place)
goes_on words i s out h e step =
    (rw step (sym (ran_on words i s h)), rw (e, step) (sym (written_on words i s out h)), reply_held s (get_or words i 0) step)

pub within_on : (words : List ℕ) (i : ℕ) (within : Bool) → i < length words
    → ((leb (get_or words i 0) 0x1FFFF && within) && all_within (drop (i + 1) words)) ≡ (within && all_within (drop i words))
unfolding all_within
within_on words i within h = rw (add-one i, drop-cons words i 0 h) (turned (leb (get_or words i 0) 0x1FFFF) within (all_within (drop (suc i) words)))
  where
    turned : (x y z : Bool) → ((x && y) && z) ≡ (y && (x && z))
    turned true y z = refl
    turned false true z = refl
    turned false false z = refl

-- the same, the words before it first
pub within_next : (words : List ℕ) (i : ℕ) (within : Bool) → i < length words
    → ((within && leb (get_or words i 0) 0x1FFFF) && all_within (drop (i + 1) words)) ≡ (within && all_within (drop i words))
unfolding all_within
within_next words i true h = rw (add-one i, drop-cons words i 0 h)
within_next words i false h = refl

-- the words are done
pub ran_out : (words : List ℕ) (i : ℕ) (s : State) → length words ≤ i → ran (drop i words) s ≡ s
unfolding ran
ran_out words i s h = rw (drop_of_length-le words h)

pub written_out : (words : List ℕ) (i j : ℕ) (s : State) (out : List ℕ) → length words ≤ i → written (drop i words) j s out ≡ out
unfolding written
written_out words i j s out h = rw (drop_of_length-le words h)

pub within_out : (words : List ℕ) (i : ℕ) (within : Bool) → length words ≤ i → (within && all_within (drop i words)) ≡ within
unfolding all_within
within_out words i true h = rw (drop_of_length-le words h)
within_out words i false h = refl

-- the replies stand at the front, one for each word, and what was beyond them stays
pub written_from : (words : List ℕ) (i : ℕ) (s : State) (out : List ℕ) → i + length words ≤ length out
    → written words i s out ≡ take i out ++ (replies words s ++ drop (i + length words) out)
unfolding written replies
written_from [] i s out h = let none : i + 0 ≡ i = omega arith in rw none (sym (take-append-drop i out))
written_from (word ∷ words) i s out h =
    let room : i < length out = omega arith in
    let beyond : suc i + length words ≡ i + suc (length words) = omega arith in
    written_from words (i + 1) (stepped s word) (set out i (reply_now s.place)) (simp length-set (omega arith))
    ∙ rw (
      add-one i,
      take-suc-set out i (reply_now s.place) room,
      drop-set-lt (suc i + length words) out i (reply_now s.place) (omega arith),
      append_assoc,
      beyond,
    )

pub written_whole : (words : List ℕ) (s : State) (out : List ℕ) → length words ≤ length out → written words 0 s out ≡ replies words s ++ drop (length words) out
written_whole words s out h = let all : 0 + length words ≡ length words = omega arith in rw all at (written_from words 0 s out (omega arith))

-- a run that is accepted has room for its replies
pub accepted_has_room : (s : State) (words : List ℕ) (room : ℕ) → run_verdict s words room ≡ Ok tt → length words ≤ room
unfolding run_verdict
accepted_has_room s words room e =
    let fits = check (leb (length words) room) BufferTooShort ∷ [] in
    let small = check (all_within words) WordTooLarge ∷ fits in
    let short = check (leb (length s.memory) 65536) MemoryTooLong ∷ small in
    let past-12 = (accepted_holds (in_range s.board s.place) StateOutOfRange short e).1 in
    let past-3 = (accepted_holds (leb (length s.memory) 65536) MemoryTooLong small past-12).1 in
    let past-1 = (accepted_holds (all_within words) WordTooLarge fits past-3).1 in
    leb-true _ _ (accepted_holds (leb (length words) room) BufferTooShort [] past-1).0
