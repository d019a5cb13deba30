-- Packets (01): the replies that are no data. "Replies: S=0 with data, or 0x0FFFF complete; 0x10000 not ready; 0x10001 bus error; 0x1FFFF illegal."
use Rattle.std.specs.Prelude.{ℕ}

abbrev pub complete : ℕ
complete = 0x0FFFF

abbrev pub not_ready : ℕ
not_ready = 0x10000

abbrev pub bus_error : ℕ
bus_error = 0x10001

abbrev pub illegal : ℕ
illegal = 0x1FFFF
