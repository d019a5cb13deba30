-- Coming to rest: how many packets a phase has to go, at most 4 + W, and what a plan leaves of them.
use Rattle.std.specs.Prelude.{ℕ, ◌+◌, ◌-◌, ◌≤◌, ◌≡◌, refl, Bool, true, false, cond, List, eqb, Err, None, Ok, Option, Result, Some, ⊤}
use Rattle.std.proofs.Common.{zero-le, le_refl, arith}
use Rattle.memory.specs.declared.Size.{Size}
use Rattle.memory.specs.declared.Size.TheVariants.{Byte, Word, Long}
use Rattle.memory.specs.Memory.{fetched, reach}
use Rattle.command.specs.declared.Command.{Command}
use Rattle.command.specs.declared.Command.TheVariants.{Unknown, Nop, Load, Store, Show, Change}
use Rattle.command.specs.declared.Source.{Source}
use Rattle.command.specs.declared.Source.TheVariants as source
use Rattle.command.specs.Command.{size_words, operand_words, result_words, waits}
use Rattle.command.specs.CommandLaws.{four_at_most}
use Rattle.board.specs.declared.Board.{Board}
use Rattle.board.specs.declared.Operands.{Operands}
use Rattle.board.specs.declared.Phase.{Phase}
use Rattle.board.specs.declared.Phase.TheVariants.{Rest, Due, Waiting, Upper}
use Rattle.board.specs.Board.{at_rest}
use Rattle.registers.specs.Registers.{shown, reached}
use Rattle.access.specs.Access.{past, fetched_access, stored_access, start_of, access_of}
use Rattle.work.specs.Work.{access_ending, shown_ending, change_ending, ending_of, phase_after}
use Rattle.plan.specs.declared.Plan.{Plan}
use Rattle.plan.specs.declared.Plan.TheVariants.{Hold, Reject, Release, Work}
use Rattle.plan.specs.Plan.{carries_c, address_in, value_in, with_operand, work_after, waits_of, collected, continued}
use Rattle.board.specs.State.{State}
use Rattle.step.specs.Step.{left}
use Rattle.sound.specs.Sound.{PhaseWithin}
use Rattle.laws.specs.TestLaws.{either}

-- the packets that carry out an upper result word: one where there are two words
abbrev pub uppers : Command → ℕ
uppers c = result_words c - 1

abbrev pub to_go : ℕ → Phase → ℕ
to_go w Rest = 0
to_go w (Due c left t) = left + waits_of w c + uppers c
to_go w (Waiting c left address value) = left + uppers c
to_go w (Upper low) = 1

pub waits_at_most : (w : ℕ) (c : Command) → waits_of w c ≤ w
waits_at_most w c = either (λ (n : ℕ). n ≤ w) (waits c) w 0 (λ e. le_refl w) (λ e. zero-le)

pub to_go_at_most : (w : ℕ) (phase : Phase) → PhaseWithin w phase → to_go w phase ≤ 4 + w
to_go_at_most w Rest h = zero-le
to_go_at_most w (Due c left t) h = omega (arith, h.1, four_at_most c, waits_at_most w c)
to_go_at_most w (Waiting c left address value) h = omega (arith, h.1, four_at_most c)
to_go_at_most w (Upper low) h = omega arith

pub none_to_go : (w : ℕ) (phase : Phase) → PhaseWithin w phase → to_go w phase ≤ 0 → phase ≡ Rest
none_to_go w Rest h l = refl
none_to_go w (Due c left t) h l = absurd (omega (arith, h.0))
none_to_go w (Waiting c left address value) h l = absurd (omega (arith, h.0))
none_to_go w (Upper low) h l = absurd (omega arith)

-- not at rest there is something to go
pub some_to_go : (w : ℕ) (phase : Phase) → PhaseWithin w phase → cond (at_rest phase) 0 1 ≤ to_go w phase
some_to_go w Rest h = zero-le
some_to_go w (Due c left t) h = omega (arith, h.0)
some_to_go w (Waiting c left address value) h = omega (arith, h.0)
some_to_go w (Upper low) h = omega arith

-- what the work leaves to go: the upper result word, where there are two
accessed : (w : ℕ) (s : Size) (f : Result ℕ ℕ) (past : ℕ) → to_go w (phase_after (access_ending (fetched_access s past f))) ≤ size_words s - 1
accessed w Byte (Ok v) past = zero-le
accessed w Word (Ok v) past = zero-le
accessed w Long (Ok v) past = le_refl _
accessed w s (Err first) past = zero-le

stores : (w : ℕ) (r : Result ⊤ ℕ) (past : ℕ) → to_go w (phase_after (access_ending (stored_access past r))) ≤ 0
stores w (Ok _) past = zero-le
stores w (Err first) past = zero-le

shows : (w : ℕ) (f : Option ℕ) → to_go w (phase_after (shown_ending f)) ≤ 1
shows w (Some v) = le_refl _
shows w None = zero-le

changes : (w : ℕ) (t : Bool) → to_go w (phase_after (change_ending t)) ≤ 0
changes w true = zero-le
changes w false = zero-le

two_shown : (source : Source) → uppers (Show source) ≡ 1
two_shown (source.General n) = refl
two_shown source.Control = refl
two_shown source.Csr = refl

work_to_go : (w : ℕ) (c : Command) (b : Board) (m : List ℕ) (pointer address : ℕ)
    → to_go w (phase_after (ending_of c b address (access_of c m pointer address))) ≤ uppers c
work_to_go w Unknown b m pointer address = zero-le
work_to_go w Nop b m pointer address = zero-le
work_to_go w (Load s base) b m pointer address = accessed w s (fetched m s (start_of base pointer address)) (past s (start_of base pointer address))
work_to_go w (Store s base) b m pointer address = stores w (reach m s (start_of base pointer address)) (past s (start_of base pointer address))
work_to_go w (Show source) b m pointer address = rw (two_shown source) (shows w (shown source b address))
work_to_go w (Change target) b m pointer address = omega (arith, changes w (reached target address))

-- a plan that leaves at most n to go
abbrev pub PlanLeaves : ℕ → ℕ → Plan → Type 0
PlanLeaves w n (Hold phase) = to_go w phase ≤ n
PlanLeaves w n Reject = Unit {0}
PlanLeaves w n (Release low) = Unit {0}
PlanLeaves w n (Work c address value) = uppers c ≤ n

pub leaves_more : (w n more : ℕ) (plan : Plan) → n ≤ more → PlanLeaves w n plan → PlanLeaves w more plan
leaves_more w n more (Hold phase) l h = omega arith
leaves_more w n more Reject l h = tt
leaves_more w n more (Release low) l h = tt
leaves_more w n more (Work c address value) l h = omega arith

pub place_leaves : (w n : ℕ) (plan : Plan) (s : State) → PlanLeaves w n plan → to_go w (left plan s).place.phase ≤ n
place_leaves w n (Hold phase) s h = h
place_leaves w n Reject s h = zero-le
place_leaves w n (Release low) s h = zero-le
place_leaves w n (Work c address value) s h = omega (arith, work_to_go w c s.board s.memory s.place.pointer address)

pub work_after_leaves : (w left : ℕ) (c : Command) (address value : ℕ) → PlanLeaves w (left + uppers c) (work_after left c address value)
unfolding work_after
work_after_leaves w left c address value =
    either (PlanLeaves w (left + uppers c)) (eqb left 0) (Work c address value) (Hold (Waiting c left address value)) (λ e. omega arith) (λ e. le_refl _)

collected_leaves : (w left : ℕ) (c : Command) (t : Operands) → PlanLeaves w (left + waits_of w c + uppers c) (collected w left c t)
unfolding collected
collected_leaves w left c t =
    either (PlanLeaves w (left + waits_of w c + uppers c)) (eqb left 0)
    (work_after (waits_of w c) c (address_in (operand_words c) t) (value_in (operand_words c) t))
    (Hold (Due c left t))
    (λ e. leaves_more w (waits_of w c + uppers c) (left + waits_of w c + uppers c)
    (work_after (waits_of w c) c (address_in (operand_words c) t) (value_in (operand_words c) t)) (omega arith)
    (work_after_leaves w (waits_of w c) c (address_in (operand_words c) t) (value_in (operand_words c) t)))
    (λ e. le_refl _)

pub continued_leaves : (c : Command) (left : ℕ) (t : Operands) (w word : ℕ) → PlanLeaves w (left - 1 + waits_of w c + uppers c) (continued c left t w word)
unfolding continued
continued_leaves c left t w word =
    either (PlanLeaves w (left - 1 + waits_of w c + uppers c)) (carries_c word) Reject (collected w (left - 1) c (with_operand t word))
    (λ e. tt) (λ e. collected_leaves w (left - 1) c (with_operand t word))
