-- Examples of meaning and of the exchange, computed from the definitions.
use Rattle.std.specs.Prelude.{ℕ, ◌≡◌, refl, false, List, [], ◌∷◌}
use Rattle.memory.specs.declared.Size.TheVariants.{Byte, Word, Long}
use Rattle.memory.specs.Memory.{fetched}
use Rattle.command.specs.Command.{decoded, decoded_word}
use Rattle.command.specs.Reply.{complete}
use Rattle.board.specs.declared.Chain.TheVariants.{Off}
use Rattle.board.specs.Board.{fresh_board, fresh_place}
use Rattle.csr.specs.Csr.{csr_value}
use Rattle.control.specs.Control.{control_index}
use Rattle.plan.specs.Plan.{work_after, collected, begun, continued}
use Rattle.board.specs.State.{state_of}
use Rattle.step.specs.Step.{reply_now, plan_for, stepped}
use Rattle.run.specs.Run.{ran}
use Rattle.requests.specs.declared.Request.TheVariants.{Read, Write, Dump, Fill, Rcreg, Rdmreg}
use Rattle.readings.specs.declared.Outcome.TheVariants.{Value, BusError, Illegal}
use Rattle.round_trip.specs.Meaning.{Scene, meaning}
use Rattle.round_trip.specs.RoundTrip.{resting, outcome_there, packets_there, all_words}
use Rattle.round_trip.specs.BroughtToRest.{rest_nops, rest_budget}

abbrev sixteen : List ℕ
sixteen = 0 ∷ 1 ∷ 2 ∷ 3 ∷ 4 ∷ 5 ∷ 6 ∷ 7 ∷ 8 ∷ 9 ∷ 10 ∷ 11 ∷ 12 ∷ 13 ∷ 14 ∷ 15 ∷ []

-- a fresh board over some memory
abbrev fresh : ℕ → List ℕ → Scene
fresh w m = record { board = fresh_board w; chain = Off; pointer = 0; memory = m }

-- P1 and P2 as requests: a READ of a longword, and a DUMP of a byte after it
pub p1_means : outcome_there (Read Long 4) (fresh 1 sixteen) ≡ Value 0x04050607
unfolding fresh_board decoded decoded_word
p1_means = refl

pub p2_means : outcome_there (Dump Byte) (meaning (Read Long 4) (fresh 1 sixteen)).leaves ≡ Value 8
unfolding fresh_board decoded decoded_word
p2_means = refl

-- the six packets of P1
pub p1_packets : packets_there (Read Long 4) (fresh 1 sixteen) ≡ 6
unfolding fresh_board decoded decoded_word packets_there
p1_packets = refl

-- P3: CSR of a fresh board, and again
pub p3_means : (w : ℕ) (m : List ℕ) → (meaning (Rdmreg 0) (fresh w m)).outcome ≡ Value 0x01100000
unfolding fresh_board csr_value
p3_means w m = refl

-- P6, P7
pub p6_means : outcome_there (Read Byte 0) (fresh 0 []) ≡ BusError
unfolding fresh_board decoded decoded_word
p6_means = refl

pub p7_means : outcome_there (Fill Byte 1) (meaning (Read Byte 4) (fresh 0 sixteen)).leaves ≡ Illegal
unfolding fresh_board decoded decoded_word
p7_means = refl

-- a FILL that is illegal, and all its words sent: the data word is taken as GO
pub illegal_fill_goes : (ran (all_words (Fill Word 0x0C00) 0) (resting (fresh 0 []) complete)).board.status.halted ≡ false
unfolding ran stepped fresh_board fresh_place plan_for begun collected work_after decoded decoded_word
illegal_fill_goes = refl

-- a word written big-endian at an odd address, and a FILL after it
pub write_means : (meaning (Write Word 3 0xAABB) (fresh 0 (0 ∷ 0 ∷ 0 ∷ 0 ∷ 0 ∷ []))).leaves.memory ≡ 0 ∷ 0 ∷ 0xAA ∷ 0xBB ∷ 0 ∷ []
unfolding fresh_board
write_means = refl

pub fill_means : (meaning (Fill Byte 7) (meaning (Write Word 3 0xAABB) (fresh 0 (0 ∷ 0 ∷ 0 ∷ 0 ∷ 0 ∷ []))).leaves).leaves.memory ≡ 0 ∷ 0 ∷ 0xAA ∷ 0xBB ∷ 7 ∷ []
unfolding fresh_board
fill_means = refl

-- a control register that is not listed
pub rcreg_unlisted : (w : ℕ) (m : List ℕ) → outcome_there (Rcreg 0x003) (fresh w m) ≡ BusError
unfolding fresh_board decoded decoded_word control_index
rcreg_unlisted w m = refl

-- after a READ's command word alone two NOPs and W are sent as operands and waits, and one carries the upper word out
pub half_sent_rests : rest_nops rest_budget (ran (0x1980 ∷ []) (state_of (fresh_board 2) fresh_place sixteen)) ≡ 5
unfolding rest_nops ran stepped fresh_board fresh_place reply_now plan_for begun continued collected work_after decoded decoded_word fetched
half_sent_rests = refl
