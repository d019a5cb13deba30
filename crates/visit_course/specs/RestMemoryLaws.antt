-- Laws of bringing a port to rest: the NOPs do the work of the one command that is under way, and no other.
use Prim.Native.Nat.{ℕ, zero, suc, ◌+◌, ◌-◌, ◌/◌, ◌%◌, ◌<◌}
use native.Mathlib.Omega.{arith}
use Rattle.std.specs.Prelude.{◌≡◌, true, false, ◌&&◌, List, eqb, leb, ltb, length, get_or, set}
use Rattle.std.proofs.Math.Path.{refl}
use Rattle.std.proofs.Common.{ap, sym, ◌∙◌, true≢false, get_or-set_other, eqb-true, le-leb, lt-ltb}
use Rattle.laws.specs.TestLaws.{by_test, either}
use Rattle.memory.specs.declared.Size.{Size}
use Rattle.memory.specs.declared.Size.TheVariants.{Byte, Word, Long}
use Rattle.memory.specs.Memory.{bytes, aligned, present, put_word, put_at, stored}
use Rattle.memory.specs.MemoryLaws.{store_keeps_length}
use Rattle.command.specs.declared.Command.{Command}
use Rattle.command.specs.declared.Command.TheVariants.{Unknown, Nop, Load, Store, Show, Change}
use Rattle.command.specs.Command.{operand_words}
use Rattle.board.specs.declared.Board.{Board}
use Rattle.board.specs.declared.Operands.{Operands}
use Rattle.board.specs.declared.Phase.{Phase}
use Rattle.board.specs.declared.Phase.TheVariants.{Rest, Due, Waiting, Upper}
use Rattle.board.specs.declared.Standing.{Standing}
use Rattle.board.specs.Board.{at_rest}
use Rattle.board.specs.State.{State, standing_of}
use Rattle.registers.specs.Registers.{board_after}
use Rattle.work.specs.declared.Ending.{Ending}
use Rattle.work.specs.declared.Ending.TheVariants.{Complete, Failed, OneWord, TwoWords}
use Rattle.access.specs.Access.{start_of, access_of, memory_after}
use Rattle.work.specs.Work.{ending_of, phase_after}
use Rattle.plan.specs.declared.Plan.{Plan}
use Rattle.plan.specs.declared.Plan.TheVariants.{Hold, Reject, Release, Work}
use Rattle.plan.specs.Plan.{with_operand, address_in, value_in, work_after, waits_of, collected, continued, plan_of}
use Rattle.plan.specs.PlanLaws.{nop_plan}
use Rattle.step.specs.Step.{worked, left, plan_for, stepped}
use Rattle.step.specs.StepFaultLaws.{nop_step}
use Rattle.round_trip.specs.Meaning.{cleared}
use Rattle.sound.specs.Sound.{PhaseWithin, Sound}
use Rattle.sound.specs.SoundLaws.{packet_keeps_sound}
use Rattle.visit.specs.Visit.{table_in_range}
use Rattle.round_trip.specs.BroughtToRest.{rested, rest_budget, rest_scene}
use Rattle.round_trip.proofs.BroughtToRestLaws.{comes_to_rest}
use Rattle.visit_course.specs.VisitCourse.{course_of}
use Rattle.visit_course.specs.CourseIsLaws.{course_is}
use Rattle.visit_course.specs.RestMemory.{command_under_way, address_due, value_due, memory_at_rest, board_at_rest, is_store, touches, RestCompletes}

-- ---- a NOP leaves what is to come to rest
-- the work still to be done, whatever reads it off: the board or memory
module _ {A : Type 0} (after : Command → ℕ → ℕ → A) where
  abbrev due : Phase → A
  due phase = after (command_under_way phase) (address_due phase) (value_due phase)

  abbrev due_plan : Plan → A
  due_plan (Hold phase) = due phase
  due_plan Reject = after Nop 0 0
  due_plan (Release low) = after Nop 0 0
  due_plan (Work c address value) = after c address value

  work_due : (n : ℕ) (c : Command) (a v : ℕ) → due_plan (work_after n c a v) ≡ after c a v
  unfolding work_after
  work_due n c a v = either (λ p. due_plan p ≡ after c a v) (eqb n 0) (Work c a v) (Hold (Waiting c n a v)) (λ e. refl) (λ e. refl)

  collected_due : (w n : ℕ) (c : Command) (t : Operands) → due_plan (collected w n c t) ≡ due (Due c n t)
  unfolding collected
  collected_due w n c t =
      either (λ p. due_plan p ≡ due (Due c n t)) (eqb n 0) (work_after (waits_of w c) c (address_in (operand_words c) t) (value_in (operand_words c) t))
      (Hold (Due c n t))
      (λ e. rw (eqb-true n 0 e) (work_due (waits_of w c) c (address_in (operand_words c) t) (value_in (operand_words c) t)))
      (λ e. refl)

  nop_due : (phase : Phase) (s : Standing) (w : ℕ) → PhaseWithin w phase → due_plan (plan_of phase s w 0) ≡ due phase
  unfolding continued
  nop_due Rest s w h = rw (nop_plan s w)
  nop_due (Due c zero t) s w h = absurd (omega (arith, h.0))
  nop_due (Due c (suc n) t) s w h =
      let one : suc n - 1 ≡ n = omega arith in rw one (collected_due w n c (with_operand t 0))
  nop_due (Waiting c n a v) s w h = work_due (n - 1) c a v
  nop_due (Upper low) s w h = refl

module _ (s : State) where
  -- what a command's work would leave here
  abbrev memory_by : Command → ℕ → ℕ → List ℕ
  memory_by c a v = memory_after c s.memory s.place.pointer a v

  abbrev board_by : Command → ℕ → ℕ → Board
  board_by c a v = (worked c a v s).board

-- where a command's work has been done, none is under way
done_memory : (e : Ending) (m : List ℕ) (pointer : ℕ)
    → memory_after (command_under_way (phase_after e)) m pointer (address_due (phase_after e)) (value_due (phase_after e)) ≡ m
done_memory Complete m pointer = refl
done_memory Failed m pointer = refl
done_memory (OneWord v) m pointer = refl
done_memory (TwoWords v) m pointer = refl

done_board : (s : State) (e : Ending)
    → (worked (command_under_way (phase_after e)) (address_due (phase_after e)) (value_due (phase_after e)) s).board ≡ s.board
done_board s Complete = refl
done_board s Failed = refl
done_board s (OneWord v) = refl
done_board s (TwoWords v) = refl

left_memory : (plan : Plan) (s : State) → memory_at_rest (left plan s) ≡ due_plan (memory_by s) plan
left_memory (Hold phase) s = refl
left_memory Reject s = refl
left_memory (Release low) s = refl
left_memory (Work c a v) s = done_memory (ending_of c s.board a (access_of c s.memory s.place.pointer a)) (memory_by s c a v) _

left_board : (plan : Plan) (s : State) → board_at_rest (left plan s) ≡ due_plan (board_by s) plan
left_board (Hold phase) s = refl
left_board Reject s = refl
left_board (Release low) s = refl
left_board (Work c a v) s = done_board (left (Work c a v) s) (ending_of c s.board a (access_of c s.memory s.place.pointer a))

nop_keeps_memory : (s : State) → Sound s → memory_at_rest (stepped s 0) ≡ memory_at_rest s
unfolding plan_for
nop_keeps_memory s f =
    ap memory_at_rest (nop_step s)
    ∙ left_memory (plan_for s.board s.place 0) s
    ∙ nop_due (memory_by s) s.place.phase (standing_of s.board s.place) s.board.w f.place.phase

nop_keeps_board : (s : State) → Sound s → board_at_rest (stepped s 0) ≡ board_at_rest s
unfolding plan_for
nop_keeps_board s f =
    ap board_at_rest (nop_step s)
    ∙ left_board (plan_for s.board s.place 0) s
    ∙ nop_due (board_by s) s.place.phase (standing_of s.board s.place) s.board.w f.place.phase

-- ---- and so do NOPs until it rests
-- what every NOP keeps
rested_keeps : {A : Type 0} (of : State → A) → ((s : State) → Sound s → of (stepped s 0) ≡ of s) → (k : ℕ) (s : State) → Sound s → of (rested k s) ≡ of s
unfolding rested
rested_keeps of nop zero s f = refl
rested_keeps of nop (suc k) s f =
    by_test (at_rest s.place.phase) (λ t. rw t) (λ t. rw t (rested_keeps of nop k (stepped s 0) (packet_keeps_sound f 0) ∙ nop s f))

rest_due : {A : Type 0} (after : Command → ℕ → ℕ → A) (phase : Phase) → at_rest phase ≡ true → due after phase ≡ after Nop 0 0
rest_due after Rest t = refl
rest_due after (Due c n t) e = absurd (true≢false (sym e))
rest_due after (Waiting c n a v) e = absurd (true≢false (sym e))
rest_due after (Upper low) e = absurd (true≢false (sym e))

memory_at_rest_lem : (s : State) → Sound s → (rest_scene s).memory ≡ memory_at_rest s
memory_at_rest_lem s f =
    let r = rested rest_budget s in
    sym (rest_due (memory_by r) r.place.phase (comes_to_rest f)) ∙ rested_keeps memory_at_rest nop_keeps_memory rest_budget s f

board_at_rest_lem : (s : State) → Sound s → (rest_scene s).board ≡ board_at_rest s
board_at_rest_lem s f =
    let r = rested rest_budget s in sym (rest_due (board_by r) r.place.phase (comes_to_rest f)) ∙ rested_keeps board_at_rest nop_keeps_board rest_budget s f

-- ---- one access, and no other byte
word_elsewhere : (m : List ℕ) (at i v : ℕ) → (i ≡ at → ⊥) → (i ≡ at + 1 → ⊥) → get_or (put_word m at v) i 0 ≡ get_or m i 0
word_elsewhere m at i v f g = get_or-set_other (set m at (v / 256 % 256)) (at + 1) i (v % 256) 0 g ∙ get_or-set_other m at i (v / 256 % 256) 0 f

module _ (m : List ℕ) (at i : ℕ) where
  -- byte i is none of so many from there on
  apart : (n d : ℕ) → (leb at i && ltb i (at + n)) ≡ false → d < n → i ≡ at + d → ⊥
  apart n d t less e =
      let low = le-leb at i (omega arith) in
      let high = lt-ltb i (at + n) (omega arith) in
      true≢false (sym (rw (low, high)) ∙ t)

  put_elsewhere : (size : Size) (v : ℕ) → (leb at i && ltb i (at + bytes size)) ≡ false → get_or (put_at m size at v) i 0 ≡ get_or m i 0
  put_elsewhere Byte v t = get_or-set_other m at i (v % 256) 0 (λ e. apart 1 0 t (omega arith) (omega arith))
  put_elsewhere Word v t = word_elsewhere m at i v (λ e. apart 2 0 t (omega arith) (omega arith)) (apart 2 1 t (omega arith))
  put_elsewhere Long v t =
      word_elsewhere (put_word m at (v / 65536)) (at + 2) i v (apart 4 2 t (omega arith)) (λ e. apart 4 3 t (omega arith) (omega arith))
      ∙ word_elsewhere m at i (v / 65536) (λ e. apart 4 0 t (omega arith) (omega arith)) (apart 4 1 t (omega arith))

work_elsewhere : (c : Command) (m : List ℕ) (pointer a v i : ℕ) → touches c pointer a i ≡ false → get_or (memory_after c m pointer a v) i 0 ≡ get_or m i 0
unfolding stored
work_elsewhere Unknown m p a v i t = refl
work_elsewhere Nop m p a v i t = refl
work_elsewhere (Load size base) m p a v i t = refl
work_elsewhere (Store size base) m p a v i t =
    let start = start_of base p a in
    either (λ (l : List ℕ). get_or l i 0 ≡ get_or m i 0) (present m size start) (put_at m size (aligned size start) v) m
    (λ e. put_elsewhere m (aligned size start) i size v t) (λ e. refl)
work_elsewhere (Show source) m p a v i t = refl
work_elsewhere (Change target) m p a v i t = refl

work_keeps_size : (c : Command) (m : List ℕ) (pointer a v : ℕ) → length (memory_after c m pointer a v) ≡ length m
work_keeps_size Unknown m p a v = refl
work_keeps_size Nop m p a v = refl
work_keeps_size (Load size base) m p a v = refl
work_keeps_size (Store size base) m p a v = store_keeps_length m size (start_of base p a) v
work_keeps_size (Show source) m p a v = refl
work_keeps_size (Change target) m p a v = refl

no_store : (c : Command) (m : List ℕ) (pointer a v : ℕ) → is_store c ≡ false → memory_after c m pointer a v ≡ m
no_store Unknown m p a v t = refl
no_store Nop m p a v t = refl
no_store (Load size base) m p a v t = refl
no_store (Store size base) m p a v t = absurd (true≢false t)
no_store (Show source) m p a v t = refl
no_store (Change target) m p a v t = refl

store_leaves_board : (c : Command) (b : Board) (a v : ℕ) → is_store c ≡ true → cleared (board_after c b a v) ≡ cleared b
store_leaves_board Unknown b a v t = refl
store_leaves_board Nop b a v t = refl
store_leaves_board (Load size base) b a v t = refl
store_leaves_board (Store size base) b a v t = refl
store_leaves_board (Show source) b a v t = absurd (true≢false (sym t))
store_leaves_board (Change target) b a v t = absurd (true≢false (sym t))

-- ---- the promise
pub rest_completes : (s : State) → Sound s → RestCompletes s (rest_scene s)
rest_completes s f =
    let phase = s.place.phase in
    let memory = memory_at_rest_lem s f in
    let board = board_at_rest_lem s f in
    record {
      memory = memory;
      board = board;
      idle = λ t. memory ∙ no_store (command_under_way phase) s.memory s.place.pointer (address_due phase) (value_due phase) t;
      one = λ size base e. memory ∙ ap (λ (c : Command). memory_after c s.memory s.place.pointer (address_due phase) (value_due phase)) e;
      elsewhere = λ i t. rw memory (work_elsewhere (command_under_way phase) s.memory s.place.pointer (address_due phase) (value_due phase) i t);
      size = rw memory (work_keeps_size (command_under_way phase) s.memory s.place.pointer (address_due phase) (value_due phase));
      board_stays = λ t. ap cleared board ∙ store_leaves_board (command_under_way phase) s.board (address_due phase) (value_due phase) t;
    }

-- .. of a visit: "Memory is as it was where no WRITE or FILL was under way", and else but for the bytes of that one access
module _ (address longwords : ℕ) (range : table_in_range address longwords ≡ true) (s : State) (f : Sound s) where
  pub visit_keeps_memory : is_store (command_under_way s.place.phase) ≡ false → (course_of address longwords s).leaves.memory ≡ s.memory
  visit_keeps_memory t = (course_is address longwords range s f).memory ∙ (rest_completes s f).idle t

  pub visit_keeps_bytes : (i : ℕ) → touches (command_under_way s.place.phase) s.place.pointer (address_due s.place.phase) i ≡ false
      → get_or (course_of address longwords s).leaves.memory i 0 ≡ get_or s.memory i 0
  visit_keeps_bytes i t = rw (course_is address longwords range s f).memory ((rest_completes s f).elsewhere i t)
