-- Laws of a packet's step: a command under way goes on as if nothing had been held, and a NOP at rest leaves all but the reply.
use Rattle.std.specs.Prelude.{ℕ, zero, suc, ◌-◌, ◌≤◌, ◌≡◌, refl, Bool, true, false, ◌&&◌, ◌||◌}
use Rattle.std.proofs.Common.{arith, sym, ◌∙◌, ne_eqb, eqb-true}
use Rattle.std.proofs.lemmas.Bool.{lt-leb}
use Rattle.command.specs.declared.Command.{Command}
use Rattle.command.specs.declared.Command.TheVariants.{Unknown, Nop, Load, Store, Show, Change}
use Rattle.command.specs.declared.Base.TheVariants.{Address, Pointer}
use Rattle.command.specs.Command.{decoded_word, decoded, operand_words}
use Rattle.command.specs.Reply.{complete, not_ready, illegal}
use Rattle.board.specs.declared.Operands.{Operands}
use Rattle.board.specs.declared.Standing.{Standing}
use Rattle.board.specs.declared.Chain.{Chain}
use Rattle.board.specs.declared.Phase.{Phase}
use Rattle.board.specs.declared.Phase.TheVariants.{Due, Waiting}
use Rattle.work.specs.declared.Ending.{Ending}
use Rattle.work.specs.declared.Ending.TheVariants.{Complete, Failed, OneWord, TwoWords}
use Rattle.access.specs.Access.{access_of}
use Rattle.work.specs.Work.{ending_of, chain_by, chain_after}
use Rattle.plan.specs.declared.Plan.TheVariants.{Hold, Work}
use Rattle.plan.specs.Plan.{with_operand, no_operands, address_in, value_in, waits_of, work_after, collected, begun, continued, legal_word}
use Rattle.plan.specs.Plan.Input.{command_word}
use Rattle.plan.specs.PlanLaws.{nop_plan}
use Rattle.faults.specs.Fault.{is_nop, fault_taken}
use Rattle.laws.specs.TestLaws.{by_test}
use Rattle.board.specs.Setters.{with_fault, place_with}
use Rattle.board.specs.State.{State, state_of}
use Rattle.step.specs.Step.{chain_during, left, plan_for, stepped}
use Rattle.round_trip.specs.Meaning.{Scene}
use Rattle.round_trip.specs.RoundTrip.{resting, unchained, standing_in}

during_during : (c : Command) (chain : Chain) → chain_during c (chain_during c chain) ≡ chain_during c chain
during_during Unknown chain = refl
during_during Nop chain = refl
during_during (Load s Address) chain = refl
during_during (Load s Pointer) chain = refl
during_during (Store s Address) chain = refl
during_during (Store s Pointer) chain = refl
during_during (Show source) chain = refl
during_during (Change target) chain = refl

by_during : (c : Command) (chain : Chain) → chain_by c (chain_during c chain) ≡ chain_by c chain
by_during Unknown chain = refl
by_during Nop chain = refl
by_during (Load s base) chain = refl
by_during (Store s base) chain = refl
by_during (Show source) chain = refl
by_during (Change target) chain = refl

after_during : (e : Ending) (c : Command) (chain : Chain) → chain_after e c (chain_during c chain) ≡ chain_after e c chain
after_during Complete c chain = by_during c chain
after_during Failed c chain = refl
after_during (OneWord v) c chain = by_during c chain
after_during (TwoWords v) c chain = by_during c chain

-- the state while a command is under way
abbrev pub under : Command → Phase → State → State
under c phase s = state_of s.board (place_with s.place phase (chain_during c s.place.chain) s.place.pointer not_ready) s.memory

-- what is left decides the plan
pub waits_none : (c : Command) (address value : ℕ) → work_after 0 c address value ≡ Work c address value
unfolding work_after
waits_none c address value = refl

pub waits_more : (k : ℕ) (c : Command) (address value : ℕ) → work_after (suc k) c address value ≡ Hold (Waiting c (suc k) address value)
unfolding work_after
waits_more k c address value = rw (ne_eqb (suc k) 0 (omega arith))

pub due_none : (w : ℕ) (c : Command) (t : Operands)
    → collected w 0 c t ≡ work_after (waits_of w c) c (address_in (operand_words c) t) (value_in (operand_words c) t)
unfolding collected
due_none w c t = refl

pub due_more : (w n : ℕ) (c : Command) (t : Operands) → collected w (suc n) c t ≡ Hold (Due c (suc n) t)
unfolding collected
due_more w n c t = rw (ne_eqb (suc n) 0 (omega arith))

module _ (c : Command) (phase : Phase) (s : State) where
  under_again : (further : Phase) → under c further (under c phase s) ≡ under c further s
  under_again further = rw (during_during c s.place.chain)

  pub work_under : (address value : ℕ) → left (Work c address value) (under c phase s) ≡ left (Work c address value) s
  work_under address value = rw (after_during (ending_of c s.board address (access_of c s.memory s.place.pointer address)) c s.place.chain)

  ready_under : (k address value : ℕ) → left (work_after k c address value) (under c phase s) ≡ left (work_after k c address value) s
  ready_under zero address value = rw (waits_none c address value) (work_under address value)
  ready_under (suc k) address value = rw (waits_more k c address value) (under_again (Waiting c (suc k) address value))

  collected_under : (w n : ℕ) (t : Operands) → left (collected w n c t) (under c phase s) ≡ left (collected w n c t) s
  collected_under w zero t = rw (due_none w c t) (ready_under (waits_of w c) (address_in (operand_words c) t) (value_in (operand_words c) t))
  collected_under w (suc n) t = rw (due_more w n c t) (under_again (Due c (suc n) t))

-- an operand word with C clear is taken
pub operand_taken : (n : ℕ) (c : Command) (t : Operands) (s : State) (word : ℕ) → word ≤ 0xFFFF
    → stepped (under c (Due c (suc n) t) s) word ≡ left (collected s.board.w n c (with_operand t word)) s
unfolding stepped plan_for continued
operand_taken n c t s word clear =
    let one_less : suc n - 1 ≡ n = omega arith in
    rw (lt-leb 0x10000 word (omega arith), one_less) (collected_under c (Due c (suc n) t) s s.board.w n (with_operand t word))

-- a packet waited for
pub wait_taken : (k : ℕ) (c : Command) (address value : ℕ) (s : State) (word : ℕ)
    → stepped (under c (Waiting c (suc k) address value) s) word ≡ left (work_after k c address value) s
unfolding stepped plan_for
wait_taken k c address value s word =
    let one_less : suc k - 1 ≡ k = omega arith in rw one_less (ready_under c (Waiting c (suc k) address value) s k address value)

-- [4] a scene as a command word leaves it
abbrev pub scene_taken : ℕ → Scene → Scene
scene_taken word s = record {
  board = with_fault s.board (fault_taken command_word word s.board.fault);
  chain = s.chain;
  pointer = s.pointer;
  memory = s.memory;
}

-- "Every packet accepted at rest is a command word taken"
pub command_taken : (c : Command) (word next : ℕ) (s : Scene) → decoded word ≡ c → legal_word word (standing_in s) ≡ true
    → stepped (resting s next) word ≡ left (collected s.board.w (operand_words c) c no_operands) (resting (scene_taken word s) next)
unfolding stepped plan_for begun
command_taken c word next s d l = rw (l, d)

-- a NOP is legal
illegal_is_no_nop : (word : ℕ) (s : Standing) → legal_word word s ≡ false → is_nop word ≡ false
unfolding decoded decoded_word
illegal_is_no_nop word s l = by_test (is_nop word) (λ e. e ∙ sym (legal s.halted) ∙ (rw (eqb-true word 0 e) at l)) (λ e. e)
  where
    legal : (halted : Bool) → ((halted || true) && true) ≡ true
    legal true = refl
    legal false = refl

-- ".. is illegal: the next reply is 0x1FFFF and the port is at rest"
pub illegal_taken : (word next : ℕ) (s : Scene) → legal_word word (standing_in s) ≡ false → stepped (resting s next) word ≡ resting (unchained s) illegal
unfolding stepped plan_for begun
illegal_taken word next s l = rw (l, illegal_is_no_nop word (standing_in s) l)

-- a NOP at rest: all stays, and the next reply is "complete"
pub nop_at_rest : (s : Scene) (next : ℕ) → stepped (resting s next) 0 ≡ resting s complete
unfolding stepped plan_for
nop_at_rest s next = rw (nop_plan (standing_in s) s.board.w)
