-- A gateway's visit (docs/gateway.md, "The visit, packet by packet"): what is asked, in this order, and before which request a marker comes.
use Rattle.std.specs.Prelude.{ℕ, ◌+◌, ◌-◌, ◌*◌, ◌%◌, ◌^◌, Bool, cond, ◌&&◌, ◌||◌, eqb, leb, ltb, get_or}
use Rattle.memory.specs.declared.Size.TheVariants.{Long}
use Rattle.control.specs.Control.{control_numbers}
use Rattle.requests.specs.declared.Request.{Request}
use Rattle.requests.specs.declared.Request.TheVariants.{Read, Dump, Rdreg, Rcreg, Rdmreg}

-- "RDREG 0 to 15", "RCREG 002, 004, ..", "RDMREG 0"
abbrev pub registers_asked : ℕ
registers_asked = 27

abbrev pub register_request : ℕ → Request
register_request j = cond (ltb j 16) (Rdreg j) (cond (ltb j 26) (Rcreg (get_or control_numbers (j - 16) 0)) (Rdmreg 0))

-- "where k is a multiple of 256": a block of the table begins
abbrev pub begins : ℕ → Bool
begins k = eqb (k % 256) 0

-- an address has 32 bits
abbrev pub address_at : ℕ → ℕ → ℕ
address_at address k = (address + 4 * k) % 2 ^ 32

-- "number k, counted from 0, is a longword DUMP; but where k is a multiple of 256 .. a longword READ of address + 4k"
abbrev pub table_request : ℕ → ℕ → Request
table_request address k = cond (begins k) (Read Long (address_at address k)) (Dump Long)

-- "The visit, in this order": the request with number j, of a visit whose table begins at the address
unfoldable pub request_at : ℕ → ℕ → Request
request_at address j = cond (ltb j registers_asked) (register_request j) (table_request address (j - registers_asked))

abbrev pub in_table : ℕ → Bool
in_table j = leb registers_asked j

-- a marker comes before request j of so many: where a block begins, and after the last of them
unfoldable pub marked : ℕ → ℕ → Bool
marked ends j = in_table j && begins (j - registers_asked) || leb ends j
