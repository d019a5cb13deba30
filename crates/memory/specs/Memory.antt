-- Packets (01): sizes, alignment, and memory, most significant byte first.
use Rattle.std.specs.Prelude.{ℕ, ◌+◌, ◌-◌, ◌*◌, ◌/◌, ◌%◌, ◌<◌, Bool, cond, List, length, get_or, set, leb, Err, Ok, Result, ⊤}
use Rattle.memory.specs.declared.Size.{Size}
use Rattle.memory.specs.declared.Size.TheVariants.{Byte, Word, Long}

abbrev pub bytes : Size → ℕ
bytes Byte = 1
bytes Word = 2
bytes Long = 4

-- "Words and longwords force the low 1 or 2 address bits to zero."
abbrev pub aligned : Size → ℕ → ℕ
aligned size address = address - address % bytes size

-- no byte of the access lies beyond memory
abbrev pub present : List ℕ → Size → ℕ → Bool
present memory size address = leb (aligned size address + bytes size) (length memory)

-- [4] "the lowest address of the access that isn't there": its own where memory has ended by then, else where memory ends
abbrev pub first_missing : List ℕ → Size → ℕ → ℕ
first_missing memory size address = cond (leb (length memory) (aligned size address)) (aligned size address) (length memory)

-- "most significant byte first"
abbrev pub word_at : List ℕ → ℕ → ℕ
word_at memory at = get_or memory at 0 * 256 + get_or memory (at + 1) 0

-- "byte results have zero above"
abbrev pub value_at : List ℕ → Size → ℕ → ℕ
value_at memory Byte at = get_or memory at 0
value_at memory Word at = word_at memory at
value_at memory Long at = word_at memory at * 65536 + word_at memory (at + 2)

-- "An access with any byte beyond memory is a bus error"
unfoldable pub fetched : List ℕ → Size → ℕ → Result ℕ ℕ
fetched memory size address =
    cond (present memory size address) (Ok (value_at memory size (aligned size address))) (Err (first_missing memory size address))

abbrev pub put_word : List ℕ → ℕ → ℕ → List ℕ
put_word memory at value = set (set memory at (value / 256 % 256)) (at + 1) (value % 256)

-- "Byte operands use the low 8 bits"
abbrev pub put_at : List ℕ → Size → ℕ → ℕ → List ℕ
put_at memory Byte at value = set memory at (value % 256)
put_at memory Word at value = put_word memory at value
put_at memory Long at value = put_word (put_word memory at (value / 65536)) (at + 2) value

-- ".. and alters nothing"
unfoldable pub stored : List ℕ → Size → ℕ → ℕ → List ℕ
stored memory size address value = cond (present memory size address) (put_at memory size (aligned size address) value) memory

-- [4] "The memory access shall also answer the lowest address": what a store answers
unfoldable pub reach : List ℕ → Size → ℕ → Result ⊤ ℕ
reach memory size address = cond (present memory size address) (Ok tt) (Err (first_missing memory size address))

-- every element of a list is below a bound
abbrev pub AllBelow : ℕ → List ℕ → Type 0
AllBelow k l = (i : ℕ) → get_or l i 0 < k
