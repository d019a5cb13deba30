-- Laws: what NOPs lead to. What is under way comes to its end as if the packets waited for had not been, so W plays no part in it.
use Rattle.std.specs.Prelude.{ℕ, zero, suc, ◌-◌, ◌≤◌, ◌≡◌, refl, true, false}
use Rattle.std.proofs.Common.{arith, ap, sym, ◌∙◌}
use Rattle.laws.specs.TestLaws.{by_test}
use Rattle.command.specs.declared.Command.{Command}
use Rattle.command.specs.declared.Command.TheVariants.{Unknown, Nop, Load, Store, Show, Change}
use Rattle.command.specs.declared.Source.TheVariants as source
use Rattle.command.specs.Command.{operand_words}
use Rattle.board.specs.declared.Board.{Board}
use Rattle.board.specs.declared.Operands.{Operands}
use Rattle.board.specs.declared.Phase.{Phase}
use Rattle.board.specs.declared.Phase.TheVariants.{Rest, Due, Waiting, Upper}
use Rattle.board.specs.Board.{at_rest}
use Rattle.board.specs.Setters.{with_w, place_with}
use Rattle.board.specs.State.{State, state_of}
use Rattle.csr.specs.Csr.{csr_value}
use Rattle.control.specs.Control.{control_fetched, control_written, control_listed}
use Rattle.registers.specs.Registers.{debug_written, board_after}
use Rattle.registers.specs.ChangeLaws.{each_change}
use Rattle.access.specs.declared.Access.{Access}
use Rattle.access.specs.Access.{access_of}
use Rattle.work.specs.declared.Ending.{Ending}
use Rattle.work.specs.declared.Ending.TheVariants.{Complete, Failed, OneWord, TwoWords}
use Rattle.work.specs.Work.{ending_of, phase_after}
use Rattle.plan.specs.Plan.{with_operand, address_in, value_in, work_after, waits_of, collected, continued}
use Rattle.step.specs.Step.{left, plan_for, stepped, worked}
use Rattle.sound.specs.Sound.{Sound, PhaseWithin}
use Rattle.sound.specs.SoundLaws.{packet_keeps_sound, packet_keeps_w}
use Rattle.rest.specs.ToGoLaws.{to_go, to_go_at_most, none_to_go}
use Rattle.rest.specs.NopLaws.{nop_takes_one_off}
use Rattle.round_trip.specs.Meaning.{Scene}
use Rattle.round_trip.specs.RoundTrip.{scene_of}
use Rattle.round_trip.specs.BroughtToRest.{rested, rest_budget, rest_scene}
use Rattle.round_trip.specs.PacketTakenLaws.{waits_none, waits_more, due_none, due_more, work_under}
use Rattle.round_trip.proofs.EveryWLaws.{at_w}

-- ---- the work, with another wait setting
abbrev pub at_setting : ℕ → State → State
at_setting w s = state_of (with_w s.board w) s.place s.memory

ending_at : (w : ℕ) (c : Command) (b : Board) (address : ℕ) (access : Access) → ending_of c (with_w b w) address access ≡ ending_of c b address access
unfolding csr_value control_fetched
ending_at w Unknown b address _ = refl
ending_at w Nop b address _ = refl
ending_at w (Load size base) b address _ = refl
ending_at w (Store size base) b address _ = refl
ending_at w (Show (source.General n)) b address _ = refl
ending_at w (Show source.Control) b address _ = refl
ending_at w (Show source.Csr) b address _ = refl
ending_at w (Change target) b address _ = refl

change_at : (w : ℕ) (c : Command) (b : Board) (address value : ℕ) → board_after c (with_w b w) address value ≡ with_w (board_after c b address value) w
unfolding debug_written control_written
change_at w c b address value =
    each_change (λ change. change (with_w b w) ≡ with_w (change b) w) address value
    (record {
      none = refl;
      csr_read = refl;
      general = λ n. refl;
      control = by_test (control_listed address) (λ h. rw h) (λ h. rw h);
      debug = λ r. refl;
      go = refl;
      sync_pc = refl;
    })
    c

pub work_at : (w : ℕ) (c : Command) (address value : ℕ) (s : State) → worked c address value (at_setting w s) ≡ at_setting w (worked c address value s)
work_at w c address value s =
    rw (
      ending_at w c s.board address (access_of c s.memory s.place.pointer address),
      change_at w c s.board address value,
    )

-- ---- where NOPs lead to
-- so many operand words of zero more
abbrev pub zeros_taken : ℕ → Operands → Operands
zeros_taken zero t = t
zeros_taken (suc n) t = zeros_taken n (with_operand t 0)

-- the scene that a command's work leaves, its operand words in
abbrev worked_scene : Command → Operands → State → Scene
worked_scene c t s = scene_of (worked c (address_in (operand_words c) t) (value_in (operand_words c) t) s)

abbrev pub settled : Phase → State → Scene
settled Rest s = scene_of s
settled (Due c n t) s = worked_scene c (zeros_taken n t) s
settled (Waiting c n address value) s = scene_of (worked c address value s)
settled (Upper low) s = scene_of s

-- W plays no part in it
pub settled_at : (w : ℕ) (phase : Phase) (s : State) → settled phase (at_setting w s) ≡ at_w w (settled phase s)
settled_at w Rest s = refl
settled_at w (Due c n t) s =
    let all = zeros_taken n t in ap scene_of (work_at w c (address_in (operand_words c) all) (value_in (operand_words c) all) s)
settled_at w (Waiting c n address value) s = ap scene_of (work_at w c address value s)
settled_at w (Upper low) s = refl

-- work leaves nothing more to do than to carry an upper word out
after_work : (e : Ending) (s : State) → settled (phase_after e) s ≡ scene_of s
after_work Complete s = refl
after_work Failed s = refl
after_work (OneWord v) s = refl
after_work (TwoWords v) s = refl

module _ (c : Command) (s : State) where
  ready_settles : (k address value : ℕ)
      → settled (left (work_after k c address value) s).place.phase (left (work_after k c address value) s) ≡ scene_of (worked c address value s)
  ready_settles zero address value =
      rw (waits_none c address value)
      (after_work (ending_of c s.board address (access_of c s.memory s.place.pointer address)) (worked c address value s))
  ready_settles (suc k) address value =
      rw (waits_more k c address value) (ap scene_of (work_under c (Waiting c (suc k) address value) s address value))

  collected_settles : (w n : ℕ) (t : Operands)
      → settled (left (collected w n c t) s).place.phase (left (collected w n c t) s) ≡ worked_scene c (zeros_taken n t) s
  collected_settles w zero t = rw (due_none w c t) (ready_settles (waits_of w c) (address_in (operand_words c) t) (value_in (operand_words c) t))
  collected_settles w (suc n) t =
      let all = zeros_taken (suc n) t in
      rw (due_more w n c t)
      (ap scene_of (work_under c (Due c (suc n) t) s (address_in (operand_words c) all) (value_in (operand_words c) all)))

-- ---- a NOP takes it on
abbrev in_phase : Phase → State → State
in_phase phase s = state_of s.board (place_with s.place phase s.place.chain s.place.pointer s.place.next) s.memory

nop_settles : (s : State) (phase : Phase) → PhaseWithin s.board.w phase → at_rest phase ≡ false
    → settled (stepped (in_phase phase s) 0).place.phase (stepped (in_phase phase s) 0) ≡ settled phase (in_phase phase s)
unfolding stepped plan_for continued
nop_settles s Rest within moving = cc
nop_settles s (Due c zero t) within moving = absurd (omega (arith, within.0))
nop_settles s (Due c (suc n) t) within moving =
    let one_less : suc n - 1 ≡ n = omega arith in
    rw one_less (collected_settles c (in_phase (Due c (suc n) t) s) s.board.w n (with_operand t 0))
nop_settles s (Waiting c zero address value) within moving = absurd (omega (arith, within.0))
nop_settles s (Waiting c (suc k) address value) within moving =
    let one_less : suc k - 1 ≡ k = omega arith in
    rw one_less (ready_settles c (in_phase (Waiting c (suc k) address value) s) k address value)
nop_settles s (Upper low) within moving = refl

rested_settles : (k : ℕ) (s : State) → Sound s → to_go s.board.w s.place.phase ≤ k → scene_of (rested k s) ≡ settled s.place.phase s
unfolding rested
rested_settles zero s f few = rw (none_to_go s.board.w s.place.phase f.place.phase few)
rested_settles (suc k) s f few =
    by_test (at_rest s.place.phase)
    (λ t. rw t (at_rest_lem s.place.phase t))
    (λ t.
    rw t
    (rested_settles k (stepped s 0) (packet_keeps_sound f 0)
    (rw (packet_keeps_w s 0) (omega (arith, nop_takes_one_off s.board.w s refl f.place.phase)))
    ∙ nop_settles s s.place.phase f.place.phase t))
  where
    at_rest_lem : (phase : Phase) → at_rest phase ≡ true → scene_of s ≡ settled phase s
    at_rest_lem Rest t = refl
    at_rest_lem (Due c n o) t = cc
    at_rest_lem (Waiting c n a v) t = cc
    at_rest_lem (Upper low) t = refl

pub rest_is_settled : (s : State) → Sound s → rest_scene s ≡ settled s.place.phase s
rest_is_settled s f =
    rested_settles rest_budget s f (omega (arith, to_go_at_most s.board.w s.place.phase f.place.phase, f.board.small))

-- ---- so bringing the port to rest leaves the same at every W
pub rest_at : (w : ℕ) (s : State) → Sound s → Sound (at_setting w s) → rest_scene (at_setting w s) ≡ at_w w (rest_scene s)
rest_at w s f g =
    rest_is_settled (at_setting w s) g ∙ settled_at w s.place.phase s ∙ ap (at_w w) (sym (rest_is_settled s f))
