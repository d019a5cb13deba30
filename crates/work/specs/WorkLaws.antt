-- Laws of the work: a bus error leaves the pointer and memory; NOP leaves the chain.
use Rattle.std.specs.Prelude.{ℕ, ◌≡◌, refl, Bool, true, false, cond, List, Err, None, Ok, Option, Some}
use Rattle.memory.specs.declared.Size.TheVariants.{Byte, Word, Long}
use Rattle.memory.specs.Memory.{aligned, present, first_missing, put_at, stored, reach}
use Rattle.command.specs.declared.Source.{Source}
use Rattle.command.specs.declared.Source.TheVariants as source
use Rattle.command.specs.declared.Command.{Command}
use Rattle.command.specs.declared.Command.TheVariants.{Unknown, Nop, Load, Store, Show, Change}
use Rattle.command.specs.Command.{nop}
use Rattle.board.specs.declared.Board.{Board}
use Rattle.board.specs.declared.Chain.{Chain}
use Rattle.access.specs.declared.Access.{Access}
use Rattle.access.specs.declared.Access.TheVariants.{NoAccess, Fetched, Stored, Missing}
use Rattle.work.specs.declared.Ending.TheVariants.{Failed}
use Rattle.access.specs.Access.{past, stored_access, start_of, access_of, memory_after, pointer_after}
use Rattle.work.specs.WorkMirror.{value_ending}
use Rattle.work.specs.Work.{access_ending, shown_ending, ending_of, chain_by}

-- every register is shown in two words
pub register_ending : (from : Source) (found : Option ℕ) → value_ending (Show from) found ≡ shown_ending found
register_ending (source.General n) (Some v) = refl
register_ending source.Control (Some v) = refl
register_ending source.Csr (Some v) = refl
register_ending from None = refl

-- "A bus error doesn't move it."
failed_access_leaves_pointer : (x : Access) (pointer : ℕ) → access_ending x ≡ Failed → pointer_after x pointer ≡ pointer
failed_access_leaves_pointer NoAccess pointer e = refl
failed_access_leaves_pointer (Fetched Byte v past) pointer e = cc
failed_access_leaves_pointer (Fetched Word v past) pointer e = cc
failed_access_leaves_pointer (Fetched Long v past) pointer e = cc
failed_access_leaves_pointer (Stored past) pointer e = cc
failed_access_leaves_pointer (Missing first) pointer e = refl

pub bus_error_leaves_pointer : (c : Command) (b : Board) (m : List ℕ) (pointer address : ℕ)
    → ending_of c b address (access_of c m pointer address) ≡ Failed → pointer_after (access_of c m pointer address) pointer ≡ pointer
bus_error_leaves_pointer Unknown b m pointer address e = refl
bus_error_leaves_pointer Nop b m pointer address e = refl
bus_error_leaves_pointer (Load s base) b m pointer address e = failed_access_leaves_pointer (access_of (Load s base) m pointer address) pointer e
bus_error_leaves_pointer (Store s base) b m pointer address e = failed_access_leaves_pointer (access_of (Store s base) m pointer address) pointer e
bus_error_leaves_pointer (Show source) b m pointer address e = refl
bus_error_leaves_pointer (Change target) b m pointer address e = refl

-- "a bus error .. alters nothing"
pub bus_error_leaves_memory : (c : Command) (b : Board) (m : List ℕ) (pointer address value : ℕ)
    → ending_of c b address (access_of c m pointer address) ≡ Failed → memory_after c m pointer address value ≡ m
unfolding stored reach
bus_error_leaves_memory Unknown b m pointer address value e = refl
bus_error_leaves_memory Nop b m pointer address value e = refl
bus_error_leaves_memory (Load s base) b m pointer address value e = refl
bus_error_leaves_memory (Store s base) b m pointer address value e =
    let start = start_of base pointer address in
    missed (present m s start) (past s start) (first_missing m s start) (put_at m s (aligned s start) value) e
  where
    missed : (t : Bool) (n first : ℕ) (x : List ℕ) → access_ending (stored_access n (cond t (Ok tt) (Err first))) ≡ Failed → cond t x m ≡ m
    missed true n first x h = cc
    missed false n first x h = refl
bus_error_leaves_memory (Show source) b m pointer address value e = refl
bus_error_leaves_memory (Change target) b m pointer address value e = refl

-- "NOPs may stand between."
pub nop_keeps_chain : (chain : Chain) → chain_by nop chain ≡ chain
nop_keeps_chain chain = refl
