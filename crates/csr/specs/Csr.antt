-- Packets (01): CSR, what is written of it, what reading and GO clear, and a pending SYNC_PC.
use Rattle.std.specs.Prelude.{ℕ, ◌+◌, ◌*◌, ◌%◌, ◌^◌, Bool, true, false, cond, ◌||◌, eqb}
use Rattle.std.specs.Int.Bits.{bit_and}
use Rattle.board.specs.declared.Board.{Board}
use Rattle.board.specs.declared.Status.{Status}
use Rattle.board.specs.Setters.{with_halted, with_fof, with_trg, with_halt, with_bkpt, with_bstat, with_sync}

abbrev pub flag : Bool → ℕ
flag true = 1
flag false = 0

-- "Only the bits of 0x0007FF70 are written."
abbrev pub csr_written : ℕ → ℕ
csr_written value = bit_and value 0x0007FF70

-- "BSTAT 31-28, FOF 27, TRG 26, HALT 25, BKPT 24, HRL 23-20 (1)", and the written bits, BKD 18 and SSM 4 among them
unfoldable pub csr_value : Board → ℕ
csr_value b =
    b.status.bstat % 16 * 2 ^ 28
    + flag b.status.fof * 2 ^ 27
    + flag b.status.trg * 2 ^ 26
    + flag b.status.halt * 2 ^ 25
    + flag b.status.bkpt * 2 ^ 24
    + 1 * 2 ^ 20
    + csr_written b.debug.csr

-- ".. and BSTAT if 2 or 6"
unfoldable pub bstat_read : ℕ → ℕ
bstat_read bstat = cond (eqb bstat 2 || eqb bstat 6) 0 bstat

-- "Reading clears FOF, TRG, HALT, BKPT, and BSTAT if 2 or 6"
abbrev pub after_csr_read : Status → Status
after_csr_read s = with_bstat (with_bkpt (with_halt (with_trg (with_fof s false) false) false) false) (bstat_read s.bstat)

-- "GO clears TRG, HALT, BKPT"; the processor runs
abbrev pub after_go : Status → Status
after_go s = with_halted (with_bkpt (with_halt (with_trg s false) false) false) false

-- SYNC_PC is pending until the next event
abbrev pub after_sync_pc : Status → Status
after_sync_pc s = with_sync s true
