-- Laws of the access by the commands' names: WRITE stores at its address, FILL at the pointer, and nothing else changes memory; what an access
-- leaves of the pointer.
use Rattle.std.specs.Prelude.{ℕ, ◌^◌, ◌<◌, ◌≡◌, refl, true, List}
use Rattle.std.proofs.Common.{arith}
use Rattle.memory.specs.declared.Size.{Size}
use Rattle.memory.specs.Memory.{present, fetched, stored, reach}
use Rattle.command.specs.declared.Command.{Command}
use Rattle.command.specs.declared.Command.TheVariants.{Unknown, Nop, Load, Store, Show, Change}
use Rattle.command.specs.declared.Base.{Base}
use Rattle.command.specs.declared.Base.TheVariants.{Address, Pointer}
use Rattle.command.specs.Command.{write, fill}
use Rattle.access.specs.Access.{past, start_of, access_of, memory_after, pointer_after}

pub write_stores : (s : Size) (m : List ℕ) (pointer address value : ℕ) → memory_after (write s) m pointer address value ≡ stored m s address value
write_stores s m pointer address value = refl

pub fill_stores : (s : Size) (m : List ℕ) (pointer address value : ℕ) → memory_after (fill s) m pointer address value ≡ stored m s pointer value
fill_stores s m pointer address value = refl

-- "memory changes only by WRITE and FILL"
pub no_other_changes_memory : (c : Command) → ((s : Size) → c ≡ write s → ⊥) → ((s : Size) → c ≡ fill s → ⊥) → (m : List ℕ) (pointer address value : ℕ)
    → memory_after c m pointer address value ≡ m
no_other_changes_memory Unknown f g m pointer address value = refl
no_other_changes_memory Nop f g m pointer address value = refl
no_other_changes_memory (Load s base) f g m pointer address value = refl
no_other_changes_memory (Store s Address) f g m pointer address value = absurd (f s refl)
no_other_changes_memory (Store s Pointer) f g m pointer address value = absurd (g s refl)
no_other_changes_memory (Show source) f g m pointer address value = refl
no_other_changes_memory (Change target) f g m pointer address value = refl

-- "leave the pointer at aligned address plus size"; DUMP and FILL "at that plus the size"
pub load_moves_pointer : (s : Size) (base : Base) (m : List ℕ) (pointer address : ℕ) → present m s (start_of base pointer address) ≡ true
    → pointer_after (access_of (Load s base) m pointer address) pointer ≡ past s (start_of base pointer address)
unfolding fetched
load_moves_pointer s base m pointer address e = rw e

pub store_moves_pointer : (s : Size) (base : Base) (m : List ℕ) (pointer address : ℕ) → present m s (start_of base pointer address) ≡ true
    → pointer_after (access_of (Store s base) m pointer address) pointer ≡ past s (start_of base pointer address)
unfolding reach
store_moves_pointer s base m pointer address e = rw e

-- "The pointer is kept modulo 2^32."
pub past_below : (s : Size) (address : ℕ) → past s address < 2 ^ 32
past_below s address = omega arith
