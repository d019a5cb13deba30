-- Packets (01): the step of an accepted packet. Its reply is fixed by the state before it; then its input is taken.
use Rattle.std.specs.Prelude.{ℕ}
use Rattle.command.specs.declared.Command.{Command}
use Rattle.command.specs.declared.Command.TheVariants.{Unknown, Nop, Load, Store, Show, Change}
use Rattle.command.specs.declared.Base.TheVariants.{Address, Pointer}
use Rattle.command.specs.Reply.{not_ready, illegal}
use Rattle.board.specs.declared.Board.{Board}
use Rattle.board.specs.declared.Place.{Place}
use Rattle.board.specs.declared.Phase.{Phase}
use Rattle.board.specs.declared.Phase.TheVariants.{Rest, Due, Waiting, Upper}
use Rattle.board.specs.declared.Chain.{Chain}
use Rattle.board.specs.declared.Chain.TheVariants.{Off}
use Rattle.board.specs.Setters.{with_fault, place_with}
use Rattle.board.specs.State.{State, state_of, standing_of}
use Rattle.registers.specs.Registers.{board_after}
use Rattle.access.specs.Access.{access_of, memory_after}
use Rattle.work.specs.Work.{ending_of, place_after}
use Rattle.plan.specs.declared.Plan.{Plan}
use Rattle.plan.specs.declared.Plan.TheVariants.{Hold, Reject, Release, Work}
use Rattle.plan.specs.Plan.{taken_for, plan_of}
use Rattle.faults.specs.Fault.{fault_taken, fault_after}

-- "While operands are due the reply is 0x10000"; waiting too; else the reply held
abbrev pub reply_in : Phase → ℕ → ℕ
reply_in Rest next = next
reply_in (Due c left t) next = not_ready
reply_in (Waiting c left a d) next = not_ready
reply_in (Upper low) next = next

unfoldable pub reply_now : Place → ℕ
reply_now p = reply_in p.phase p.next

-- while a command is under way "DUMP and FILL keep theirs", any other has none
abbrev pub chain_during : Command → Chain → Chain
chain_during Unknown chain = Off
chain_during Nop chain = chain
chain_during (Load s Address) chain = Off
chain_during (Load s Pointer) chain = chain
chain_during (Store s Address) chain = Off
chain_during (Store s Pointer) chain = chain
chain_during (Show source) chain = Off
chain_during (Change target) chain = Off

abbrev pub chain_in : Phase → Chain → Chain
chain_in Rest chain = chain
chain_in (Due c left t) chain = chain_during c chain
chain_in (Waiting c left a d) chain = chain_during c chain
chain_in (Upper low) chain = chain

-- "the next reply is 0x1FFFF and the port is at rest"; "illegal command word .. or a drop ends the chain"
abbrev pub rejected : Place → Place
rejected p = place_with p Rest Off p.pointer illegal

-- "On entering those phases the held next reply becomes 0x10000"
abbrev pub holding : Place → Phase → Place
holding p phase = place_with p phase (chain_in phase p.chain) p.pointer not_ready

-- the upper word leaves: "the closing reply leaves with the next packet"
abbrev pub released : Place → ℕ → Place
released p low = place_with p Rest p.chain p.pointer low

-- "then the work is done"; [4] a memory command's bus error keeps the lowest address that was not there
abbrev pub worked : Command → ℕ → ℕ → State → State
worked c address value s =
    let access = access_of c s.memory s.place.pointer address in
    let ending = ending_of c s.board address access in
    state_of (with_fault (board_after c s.board address value) (fault_after ending access s.board.fault)) (place_after c s.place access ending)
    (memory_after c s.memory s.place.pointer address value)

-- what a packet leaves, by what it is taken for: where no command works, the board and memory stay
abbrev pub left : Plan → State → State
left (Hold phase) s = state_of s.board (holding s.place phase) s.memory
left Reject s = state_of s.board (rejected s.place) s.memory
left (Release low) s = state_of s.board (released s.place low) s.memory
left (Work c address value) s = worked c address value s

unfoldable pub plan_for : Board → Place → ℕ → Plan
plan_for b p word = plan_of p.phase (standing_of b p) b.w word

-- [4] "until the next command word other than NOP"
abbrev pub word_taken : State → ℕ → State
word_taken s word = state_of (with_fault s.board (fault_taken (taken_for s.place.phase) word s.board.fault)) s.place s.memory

unfoldable pub stepped : State → ℕ → State
stepped s word = left (plan_for s.board s.place word) (word_taken s word)
