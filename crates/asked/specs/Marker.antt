-- A gateway's visit (docs/gateway.md): a marker, packet by packet, the first with number 0.
use Rattle.std.specs.Prelude.{ℕ, suc, ◌+◌, Bool, cond, ◌||◌, eqb, leb}
use Rattle.command.specs.Reply.{complete, illegal}

-- "4 + 15 NOPs bring every port with W up to 15 to rest"
abbrev pub nops_to_rest : ℕ
nops_to_rest = 19

-- one NOP carries out the closing reply of what was under way, and one more that of a NOP
abbrev pub illegal_at : ℕ
illegal_at = nops_to_rest + 2

-- after the illegal word, two NOPs
abbrev pub last_at : ℕ
last_at = illegal_at + 2

-- "A marker is 24 packets"
abbrev pub marker_packets : ℕ
marker_packets = suc last_at

-- no command has this word
abbrev pub illegal_word : ℕ
illegal_word = 0xFFFF

unfoldable pub mark_word : ℕ → ℕ
mark_word i = cond (eqb i illegal_at) illegal_word 0

-- "the reply must be": any while the port comes to rest; then 0FFFF, and 1FFFF exactly at the packet after the illegal word
unfoldable pub mark_holds : ℕ → ℕ → Bool
mark_holds i reply = leb i nops_to_rest || eqb reply (cond (eqb i (suc illegal_at)) illegal complete)
