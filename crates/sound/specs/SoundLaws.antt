-- Laws: a fresh board is sound, a sound state is within the ranges of 12, and a packet keeps it sound; each reply is one of 01's list.
use Rattle.std.specs.Prelude.{ℕ, zero, suc, ◌%◌, ◌^◌, ◌≤◌, ◌<◌, ◌≡◌, refl, Bool, true, false, cond, ◌||◌, eqb, set, replicate, Option}
use Rattle.std.proofs.Common.{arith, ap, ◌∙◌, le-leb}
use Rattle.std.proofs.lemmas.Nat.{and_le_r}
use Rattle.laws.specs.TestLaws.{either}
use Rattle.memory.specs.declared.Size.{Size}
use Rattle.memory.specs.Memory.{AllBelow}
use Rattle.memory.specs.MemoryLaws.{set_keeps_below}
use Rattle.command.specs.declared.DebugRegister.{DebugRegister}
use Rattle.command.specs.declared.DebugRegister.TheVariants.{Csr, Baar, Aatr, Tdr, Pbr, Pbmr, Abhr, Ablr, Dbr, Dbmr}
use Rattle.command.specs.declared.Command.{Command}
use Rattle.command.specs.Command.{debug_number, operand_words, write, fill}
use Rattle.command.specs.Reply.{complete}
use Rattle.board.specs.declared.Board.{Board}
use Rattle.board.specs.declared.Status.{Status}
use Rattle.board.specs.declared.Debug.{Debug}
use Rattle.board.specs.declared.Phase.{Phase}
use Rattle.board.specs.declared.Phase.TheVariants.{Rest, Due, Waiting, Upper}
use Rattle.board.specs.declared.Place.{Place}
use Rattle.board.specs.Board.{fresh_board, fresh_place}
use Rattle.board.specs.RegisterBits.{ebl_of}
use Rattle.ranges.specs.Ranges.{phase_in_range, bstat_in_range, in_range}
use Rattle.csr.specs.Csr.{flag, csr_written, bstat_read}
use Rattle.control.specs.Control.{control_index, control_listed, general_written, control_written}
use Rattle.control.specs.ControlLaws.{control_changes_registers_alone}
use Rattle.registers.specs.Registers.{is, armed, debug_loaded, debug_written, board_after}
use Rattle.registers.specs.ChangeLaws.{each_change}
use Rattle.access.specs.AccessLaws.{no_other_changes_memory}
use Rattle.plan.specs.declared.Plan.{Plan}
use Rattle.plan.specs.declared.Plan.TheVariants.{Hold, Reject, Release, Work}
use Rattle.board.specs.Setters.{with_status, with_registers, with_control, with_fault}
use Rattle.board.specs.State.{State, standing_of}
use Rattle.step.specs.Step.{reply_in, reply_now, left, plan_for, word_taken, stepped}
use Rattle.sound.specs.SoundPlanLaws.{PlanWithin, plan_within}
use Rattle.sound.specs.SoundWorkLaws.{work_keeps_memory, work_keeps_place, listed_reply, work_reply_listed}
use Rattle.sound.specs.Sound.{DebugWithin, SoundBoard, PhaseWithin, SoundPlace, SoundMemory, Sound}

-- ---- the board
loaded : (k : ℕ) (t : Bool) (x y : ℕ) → x < k → y < k → cond t x y < k
loaded k true x y f g = f
loaded k false x y f g = g

debug_keeps : (n v : ℕ) (d : Debug) → v < 2 ^ 32 → DebugWithin d → DebugWithin (debug_loaded n v d)
unfolding debug_loaded
debug_keeps n v d f h =
    record {
      csr = loaded (2 ^ 32) (is n Csr) (csr_written v) d.csr (omega (arith, and_le_r v 0x0007FF70)) h.csr;
      baar = loaded (2 ^ 8) (is n Baar || is n Aatr) (v % 2 ^ 8) d.baar (omega arith) h.baar;
      aatr = loaded (2 ^ 16) (is n Aatr) (v % 2 ^ 16) d.aatr (omega arith) h.aatr;
      tdr = loaded (2 ^ 32) (is n Tdr) v d.tdr f h.tdr;
      pbr = loaded (2 ^ 32) (is n Pbr) v d.pbr f h.pbr;
      pbmr = loaded (2 ^ 32) (is n Pbmr) v d.pbmr f h.pbmr;
      abhr = loaded (2 ^ 32) (is n Abhr) v d.abhr f h.abhr;
      ablr = loaded (2 ^ 32) (is n Ablr) v d.ablr f h.ablr;
      dbr = loaded (2 ^ 32) (is n Dbr) v d.dbr f h.dbr;
      dbmr = loaded (2 ^ 32) (is n Dbmr) v d.dbmr f h.dbmr;
    }

flag_in_range : (x : Bool) → bstat_in_range (flag x) ≡ true
unfolding bstat_in_range
flag_in_range true = refl
flag_in_range false = refl

read_in_range : (s : ℕ) → bstat_in_range s ≡ true → bstat_in_range (bstat_read s) ≡ true
unfolding bstat_read bstat_in_range
read_in_range s h = either (λ x. bstat_in_range x ≡ true) (eqb s 2 || eqb s 6) 0 s (λ e. refl) (λ e. h)

module _ (w : ℕ) (b : Board) (h : SoundBoard w b) where
  -- another status, with BSTAT in its range
  pub status_keeps : (s : Status) → bstat_in_range s.bstat ≡ true → SoundBoard w (with_status b s)
  status_keeps s e = record { setting = h.setting; small = h.small; bstat = e; general = h.general; control = h.control; debug = h.debug }

  general_keeps : (n v : ℕ) → v < 2 ^ 32 → SoundBoard w (general_written b n v)
  general_keeps n v f = record {
    setting = h.setting;
    small = h.small;
    bstat = h.bstat;
    general = set_keeps_below (2 ^ 32) b.registers.general (n % 16) v h.general f;
    control = h.control;
    debug = h.debug;
  }

  control_keeps : (n v : ℕ) → v < 2 ^ 32 → SoundBoard w (control_written b n v)
  unfolding control_written
  control_keeps n v f =
      either (SoundBoard w) (control_listed n) (with_registers b (with_control b.registers (set b.registers.control (control_index n) v))) b
      (λ e.
      record {
        setting = h.setting;
        small = h.small;
        bstat = h.bstat;
        general = h.general;
        control = set_keeps_below (2 ^ 32) b.registers.control (control_index n) v h.control f;
        debug = h.debug;
      })
      (λ e. h)

  debug_write_keeps : (r : DebugRegister) (v : ℕ) → v < 2 ^ 32 → SoundBoard w (debug_written b r v)
  unfolding debug_written
  debug_write_keeps r v f = record {
    setting = h.setting;
    small = h.small;
    bstat = either (λ (s : Status). bstat_in_range s.bstat ≡ true) (is (debug_number r) Tdr) (armed b.status v) b.status (λ e. flag_in_range (ebl_of v))
        (λ e. h.bstat);
    general = h.general;
    control = h.control;
    debug = debug_keeps (debug_number r) v b.debug f h.debug;
  }

  work_keeps_board : (c : Command) (address value : ℕ) → value < 2 ^ 32 → SoundBoard w (board_after c b address value)
  work_keeps_board c a v f =
      each_change (λ change. SoundBoard w (change b)) a v
      (record {
        none = h;
        csr_read = status_keeps _ (read_in_range b.status.bstat h.bstat);
        general = λ n. general_keeps n v f;
        control = control_keeps a v f;
        debug = λ r. debug_write_keeps r v f;
        go = status_keeps _ h.bstat;
        sync_pc = status_keeps _ h.bstat;
      })
      c

-- [4] the number that is kept has no range of its own
pub fault_keeps : {w : ℕ} {b : Board} (f : Option ℕ) → SoundBoard w b → SoundBoard w (with_fault b f)
fault_keeps f h = record { setting = h.setting; small = h.small; bstat = h.bstat; general = h.general; control = h.control; debug = h.debug }

-- ---- the packet
reply_in_listed : (phase : Phase) (next : ℕ) → listed_reply next ≡ true → listed_reply (reply_in phase next) ≡ true
reply_in_listed Rest next h = h
reply_in_listed (Due c left t) next h = refl
reply_in_listed (Waiting c left a v) next h = refl
reply_in_listed (Upper low) next h = h

module _ (w : ℕ) (s : State) (h : SoundBoard w s.board) (k : SoundPlace w s.place) (l : SoundMemory s.memory) where
  plan_keeps_place : (plan : Plan) → PlanWithin w plan → SoundPlace w (left plan s).place
  plan_keeps_place (Hold phase) f = record { phase = f; next = omega arith; pointer = k.pointer }
  plan_keeps_place Reject f = record { phase = tt; next = omega arith; pointer = k.pointer }
  plan_keeps_place (Release low) f = record { phase = tt; next = omega arith; pointer = k.pointer }
  plan_keeps_place (Work c a v) f = work_keeps_place w c s.board s.place s.memory a h k l

  plan_keeps_board : (plan : Plan) → PlanWithin w plan → SoundBoard w (left plan s).board
  plan_keeps_board (Hold phase) f = h
  plan_keeps_board Reject f = h
  plan_keeps_board (Release low) f = h
  plan_keeps_board (Work c a v) f = fault_keeps _ (work_keeps_board w s.board h c a v f.1)

  plan_keeps_memory : (plan : Plan) → SoundMemory (left plan s).memory
  plan_keeps_memory (Hold phase) = l
  plan_keeps_memory Reject = l
  plan_keeps_memory (Release low) = l
  plan_keeps_memory (Work c a v) = work_keeps_memory c s.memory s.place.pointer a v l

  plan_reply_listed : (plan : Plan) → PlanWithin w plan → listed_reply (left plan s).place.next ≡ true
  plan_reply_listed (Hold phase) f = refl
  plan_reply_listed Reject f = refl
  plan_reply_listed (Release low) f = rw (le-leb low complete (omega arith))
  plan_reply_listed (Work c a v) f = work_reply_listed w c s.board s.place s.memory a h l

module _ (w : ℕ) (s : State) (h : SoundBoard w s.board) (k : SoundPlace w s.place) (l : SoundMemory s.memory) (word : ℕ) where
  within : PlanWithin w (plan_for s.board s.place word)
  unfolding plan_for
  within = rw h.setting (plan_within s.place.phase (standing_of s.board s.place) w word k.phase)

  taken : SoundBoard w (word_taken s word).board
  taken = fault_keeps _ h

  pub packet_keeps_place : SoundPlace w (stepped s word).place
  unfolding stepped
  packet_keeps_place = plan_keeps_place w (word_taken s word) taken k l (plan_for s.board s.place word) within

  pub packet_keeps_board : SoundBoard w (stepped s word).board
  unfolding stepped
  packet_keeps_board = plan_keeps_board w (word_taken s word) taken k l (plan_for s.board s.place word) within

  pub packet_keeps_memory : SoundMemory (stepped s word).memory
  unfolding stepped
  packet_keeps_memory = plan_keeps_memory w (word_taken s word) taken k l (plan_for s.board s.place word)

  -- whatever was held before, the reply that a packet leaves is one of the list
  pub packet_leaves_listed_reply : listed_reply (reply_now (stepped s word).place) ≡ true
  unfolding stepped reply_now
  packet_leaves_listed_reply =
      let after = (left (plan_for s.board s.place word) (word_taken s word)).place in
      reply_in_listed after.phase after.next (plan_reply_listed w (word_taken s word) taken k l (plan_for s.board s.place word) within)

-- ---- W, whatever is held
work_keeps_w : (c : Command) (b : Board) (address value : ℕ) → (board_after c b address value).w ≡ b.w
unfolding debug_written
work_keeps_w c b a v =
    each_change (λ change. (change b).w ≡ b.w) a v
    (record {
      none = refl;
      csr_read = refl;
      general = λ n. refl;
      control = ap (λ (x : Board). x.w) (control_changes_registers_alone b a v);
      debug = λ r. refl;
      go = refl;
      sync_pc = refl;
    })
    c

pub packet_keeps_w : (s : State) (word : ℕ) → (stepped s word).board.w ≡ s.board.w
unfolding stepped
packet_keeps_w s word = by_plan (plan_for s.board s.place word)
  where
    by_plan : (plan : Plan) → (left plan (word_taken s word)).board.w ≡ s.board.w
    by_plan (Hold phase) = refl
    by_plan Reject = refl
    by_plan (Release low) = refl
    by_plan (Work c a v) = work_keeps_w c (word_taken s word).board a v

-- ---- "memory changes only by WRITE and FILL"
pub no_other_packet_changes_memory : (s : State) (word : ℕ)
    → ((z : Size) (a v : ℕ) → plan_for s.board s.place word ≡ Work (write z) a v → ⊥)
    → ((z : Size) (a v : ℕ) → plan_for s.board s.place word ≡ Work (fill z) a v → ⊥)
    → (stepped s word).memory ≡ s.memory
unfolding stepped
no_other_packet_changes_memory s word f g = by_plan (plan_for s.board s.place word) refl
  where
    by_plan : (plan : Plan) → plan_for s.board s.place word ≡ plan → (left plan (word_taken s word)).memory ≡ s.memory
    by_plan (Hold phase) e = refl
    by_plan Reject e = refl
    by_plan (Release low) e = refl
    by_plan (Work c a v) e =
        no_other_changes_memory c (λ z h. f z a v (e ∙ ap (λ x. Work x a v) h)) (λ z h. g z a v (e ∙ ap (λ x. Work x a v) h))
        s.memory s.place.pointer a v

-- ---- a state
pub packet_keeps_sound : {s : State} → Sound s → (word : ℕ) → Sound (stepped s word)
packet_keeps_sound {s} f word =
    let w = s.board.w in
    let board : SoundBoard w (stepped s word).board = packet_keeps_board w s f.board f.place f.memory word in
    record {
      board = rw board.setting board;
      place = rw board.setting (packet_keeps_place w s f.board f.place f.memory word);
      memory = packet_keeps_memory w s f.board f.place f.memory word;
    }

-- ---- the ranges of 12
phase_in_range_lem : (w : ℕ) (phase : Phase) → PhaseWithin w phase → phase_in_range w phase ≡ true
phase_in_range_lem w Rest h = refl
phase_in_range_lem w (Due c left t) h = rw (le-leb 1 left h.0, le-leb left (operand_words c) h.1)
phase_in_range_lem w (Waiting c left a v) h = rw (le-leb 1 left h.0, le-leb left w h.1) h.2
phase_in_range_lem w (Upper low) h = refl

pub sound_is_in_range : (w : ℕ) (b : Board) (p : Place) → SoundBoard w b → SoundPlace w p → in_range b p ≡ true
unfolding in_range
sound_is_in_range w b p h k =
    rw (
      h.setting,
      le-leb w 15 h.small,
      h.bstat,
      phase_in_range_lem w p.phase k.phase,
      le-leb p.next 0x1FFFF k.next,
      le-leb p.pointer 65536
          k.pointer,
    )

-- ---- a fresh board
zeros_below : (n k : ℕ) → 1 ≤ k → AllBelow k (replicate n 0)
zeros_below zero k h i = omega arith
zeros_below (suc n) k h zero = omega arith
zeros_below (suc n) k h (suc i) = zeros_below n k h i

pub fresh_board_is_sound : (w : ℕ) → w ≤ 15 → SoundBoard w (fresh_board w)
unfolding fresh_board bstat_in_range
fresh_board_is_sound w h =
    record {
      setting = refl;
      small = h;
      bstat = refl;
      general = zeros_below 16 (2 ^ 32) (omega arith);
      control = zeros_below 10 (2 ^ 32) (omega arith);
      debug =
          record {
            csr = omega arith;
            baar = omega arith;
            aatr = omega arith;
            tdr = omega arith;
            pbr = omega arith;
            pbmr = omega arith;
            abhr = omega arith;
            ablr = omega arith;
            dbr = omega arith;
            dbmr = omega arith;
          };
    }

pub fresh_place_is_sound : (w : ℕ) → SoundPlace w fresh_place
unfolding fresh_place
fresh_place_is_sound w = record { phase = tt; next = omega arith; pointer = omega arith }

pub fresh_reply_is_listed : listed_reply (reply_now fresh_place) ≡ true
unfolding fresh_place reply_now
fresh_reply_is_listed = refl
