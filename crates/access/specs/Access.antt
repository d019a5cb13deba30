-- Packets (01): the memory access of READ, WRITE, DUMP and FILL, and the pointer.
use Rattle.std.specs.Prelude.{ℕ, ◌+◌, ◌%◌, ◌^◌, List, Err, Ok, Result, ⊤}
use Rattle.memory.specs.declared.Size.{Size}
use Rattle.memory.specs.Memory.{bytes, aligned, fetched, stored, reach}
use Rattle.command.specs.declared.Command.{Command}
use Rattle.command.specs.declared.Command.TheVariants.{Unknown, Nop, Load, Store, Show, Change}
use Rattle.command.specs.declared.Base.{Base}
use Rattle.command.specs.declared.Base.TheVariants.{Address, Pointer}
use Rattle.access.specs.declared.Access.{Access}
use Rattle.access.specs.declared.Access.TheVariants.{NoAccess, Fetched, Stored, Missing}

-- "leave the pointer at aligned address plus size"; "The pointer is kept modulo 2^32"
abbrev pub past : Size → ℕ → ℕ
past size address = (aligned size address + bytes size) % 2 ^ 32

-- "An access with any byte beyond memory is a bus error and alters nothing"; [4] "shall also answer the lowest address of the access that isn't there"
abbrev pub fetched_access : Size → ℕ → Result ℕ ℕ → Access
fetched_access s past (Ok v) = Fetched s v past
fetched_access s past (Err first) = Missing first

abbrev pub stored_access : ℕ → Result ⊤ ℕ → Access
stored_access past (Ok _) = Stored past
stored_access past (Err first) = Missing first

abbrev pub fetching : List ℕ → Size → ℕ → Access
fetching m s a = fetched_access s (past s a) (fetched m s a)

abbrev pub storing : List ℕ → Size → ℕ → Access
storing m s a = stored_access (past s a) (reach m s a)

-- READ and WRITE access their address; of DUMP and FILL "each accesses the pointer"
abbrev pub start_of : Base → ℕ → ℕ → ℕ
start_of Address pointer address = address
start_of Pointer pointer address = pointer

abbrev pub access_of : Command → List ℕ → ℕ → ℕ → Access
access_of Unknown m pointer address = NoAccess
access_of Nop m pointer address = NoAccess
access_of (Load s base) m pointer address = fetching m s (start_of base pointer address)
access_of (Store s base) m pointer address = storing m s (start_of base pointer address)
access_of (Show source) m pointer address = NoAccess
access_of (Change target) m pointer address = NoAccess

-- "memory changes only by WRITE and FILL"
abbrev pub memory_after : Command → List ℕ → ℕ → ℕ → ℕ → List ℕ
memory_after Unknown m pointer address value = m
memory_after Nop m pointer address value = m
memory_after (Load s base) m pointer address value = m
memory_after (Store s base) m pointer address value = stored m s (start_of base pointer address) value
memory_after (Show source) m pointer address value = m
memory_after (Change target) m pointer address value = m

-- "A bus error doesn't move it."
abbrev pub pointer_after : Access → ℕ → ℕ
pointer_after NoAccess pointer = pointer
pointer_after (Fetched s v past) pointer = past
pointer_after (Stored past) pointer = past
pointer_after (Missing first) pointer = pointer
