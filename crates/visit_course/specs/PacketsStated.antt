-- A gateway's visit (docs/gateway.md): the number of its packets, by W, whether the processor is halted, and how many longwords are there of how many.
use Rattle.std.specs.Prelude.{ℕ, ◌+◌, ◌*◌, ◌/◌, Bool, cond, ltb}
use Rattle.asked.specs.Marker.{marker_packets}
use Rattle.visit_course.specs.TableRead.{longwords_asked}

-- halted: a command word and two result words each, of a control register two operand words and the waits too;
-- running: "illegal" with the packet after the command word, and a marker
abbrev pub processor_packets : ℕ → Bool → ℕ
processor_packets w halted = cond halted (16 * 3 + 10 * (5 + w)) (26 * (2 + marker_packets))

-- CSR
abbrev pub registers_packets : ℕ → Bool → ℕ
registers_packets w halted = processor_packets w halted + 3

-- 256 longwords to a block, the last of which may be short
abbrev pub blocks : ℕ → ℕ
blocks asked = (asked + 255) / 256

-- a DUMP for each, with one reply less where it is a bus error; a block has a marker, and its READ two operand words
abbrev pub table_packets : ℕ → ℕ → ℕ → ℕ
table_packets w there longwords =
    (3 + w) * there + cond (ltb there longwords) (2 + w) 0 + (marker_packets + 2) * blocks (longwords_asked there longwords)

-- "a marker", the registers, the table, "a marker"
abbrev pub packets_stated : ℕ → Bool → ℕ → ℕ → ℕ
packets_stated w halted there longwords = marker_packets + (registers_packets w halted + (table_packets w there longwords + marker_packets))
