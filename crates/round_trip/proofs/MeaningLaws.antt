-- Laws of meaning: the port's work on a request's operand words is what the request means.
use Rattle.std.specs.Prelude.{ℕ, ◌*◌, ◌+◌, ◌%◌, ◌≡◌, refl, true, false, not, ◌||◌, Some}
use Rattle.std.proofs.Common.{arith, div-add-mod', leb-true, ne_eqb}
use Rattle.memory.specs.declared.Size.TheVariants.{Byte, Word, Long}
use Rattle.command.specs.declared.Command.{Command}
use Rattle.command.specs.declared.Command.TheVariants.{Unknown}
use Rattle.command.specs.declared.Base.TheVariants.{Address, Pointer}
use Rattle.command.specs.Command.{decoded, operand_words}
use Rattle.board.specs.declared.Standing.{Standing}
use Rattle.csr.specs.Csr.{csr_value}
use Rattle.legality.specs.Legality.{legal_command}
use Rattle.plan.specs.Plan.{carries_c, no_operands, address_in, value_in}
use Rattle.requests.specs.declared.Request.{Request}
use Rattle.requests.specs.declared.Request.TheVariants.{Rdreg, Wdreg, Read, Write, Dump, Fill, Go, Nop, SyncPc, Rcreg, Wcreg, Rdmreg, Wdmreg}
use Rattle.requests.specs.Request.{data_in_range, in_range, kind_of}
use Rattle.building.specs.RequestWords.{size_code, command_word, operands}
use Rattle.laws.specs.TestLaws.{both_hold}
use Rattle.pod_laws.specs.MeantCommand.{command_of}
use Rattle.pod_laws.specs.MeantCommandLaws.{decoded_as_meant}
use Rattle.pod_laws.specs.RequestCountLaws.{found_rdmreg, operand_count}
use Rattle.round_trip.specs.Meaning.{Scene, cleared, meaning}
use Rattle.round_trip.specs.RoundTrip.{standing_in, legal_there}
use Rattle.round_trip.specs.PacketTakenLaws.{scene_taken}
use Rattle.round_trip.specs.ClosesLaws.{taken}
use Rattle.round_trip.proofs.MeantWorkLaws.{Meant, word_cleared, load_meant, store_meant, read_control_meant, write_control_meant, csr_fits, debug_meant}

-- a legal word is a command's
no_command : (c : Command) (s : Standing) → legal_command c s ≡ true → c ≡ Unknown → ⊥
no_command c s l e =
    let unknown : legal_command Unknown s ≡ true = rw e at l in
    let no : false ≡ true = (both_hold (s.halted || true) false unknown).1 in
    let z : ◌≡◌ {A = ℕ} 0 1 = cc in
    omega arith

pub legal_is_known : (request : Request) (s : Scene) → in_range request ≡ true → legal_there request s ≡ true → command_of request ≡ Unknown → ⊥
legal_is_known request s h l e =
    no_command (decoded (command_word request)) (standing_in s)
    (both_hold (not (carries_c (command_word request))) (legal_command (decoded (command_word request)) (standing_in s)) l).1
    (rw (decoded_as_meant request h) e)

-- the address and the data that the port takes from a request's operand words
abbrev pub address_sent : Request → ℕ
address_sent request = address_in (operand_words (command_of request)) (taken no_operands (operands request))

abbrev pub value_sent : Request → ℕ
value_sent request = value_in (operand_words (command_of request)) (taken no_operands (operands request))

-- [4] a scene as a request's command word leaves it
abbrev begun : Request → Scene → Scene
begun (Rdreg n) s = word_cleared s
begun (Wdreg n v) s = word_cleared s
begun (Read size a) s = word_cleared s
begun (Write size a v) s = word_cleared s
begun (Dump size) s = word_cleared s
begun (Fill size v) s = word_cleared s
begun Go s = word_cleared s
begun Nop s = s
begun SyncPc s = word_cleared s
begun (Rcreg rc) s = word_cleared s
begun (Wcreg rc v) s = word_cleared s
begun (Rdmreg n) s = word_cleared s
begun (Wdmreg n v) s = word_cleared s

word_clears : (request : Request) (s : Scene) → scene_taken (command_word request) s ≡ begun request s
word_clears (Rdreg n) s = rw (ne_eqb (0x2180 + n) 0 (λ e. omega arith))
word_clears (Wdreg n v) s = rw (ne_eqb (0x2080 + n) 0 (λ e. omega arith))
word_clears (Read size a) s = rw (ne_eqb (0x1900 + size_code size) 0 (λ e. omega arith))
word_clears (Write size a v) s = rw (ne_eqb (0x1800 + size_code size) 0 (λ e. omega arith))
word_clears (Dump size) s = rw (ne_eqb (0x1D00 + size_code size) 0 (λ e. omega arith))
word_clears (Fill size v) s = rw (ne_eqb (0x1C00 + size_code size) 0 (λ e. omega arith))
word_clears Go s = refl
word_clears Nop s = refl
word_clears SyncPc s = refl
word_clears (Rcreg rc) s = refl
word_clears (Wcreg rc v) s = refl
word_clears (Rdmreg n) s = rw (ne_eqb (0x2D80 + n) 0 (λ e. omega arith))
word_clears (Wdmreg n v) s = rw (ne_eqb (0x2C80 + n) 0 (λ e. omega arith))

begun_is_meant : (request : Request) (s : Scene) → in_range request ≡ true → (command_of request ≡ Unknown → ⊥)
    → Meant (command_of request) (address_sent request) (value_sent request) (kind_of request) (begun request s) (meaning request s)
unfolding csr_value
begun_is_meant (Rdreg n) s h known =
    let small = leb-true n 15 h in
    let same : n % 16 ≡ n = omega arith in
    record { outcome = rw same; leaves = refl; fits = λ f. omega (arith, f.general (n % 16)) }
begun_is_meant (Wdreg n v) s h known =
    let small = leb-true n 15 (both_hold (data_in_range Long v) _ h).1 in
    let same : n % 16 ≡ n = omega arith in
    record { outcome = refl; leaves = rw (same, div-add-mod' v 65536); fits = λ f. tt }
begun_is_meant (Read size a) s h known = rw (div-add-mod' a 65536) (load_meant size s Address a a)
begun_is_meant (Write Byte a v) s h known = rw (div-add-mod' a 65536) (store_meant Byte s Address a v)
begun_is_meant (Write Word a v) s h known = rw (div-add-mod' a 65536) (store_meant Word s Address a v)
begun_is_meant (Write Long a v) s h known = rw (div-add-mod' a 65536, div-add-mod' v 65536) (store_meant Long s Address a v)
begun_is_meant (Dump size) s h known = load_meant size s Pointer 0 0
begun_is_meant (Fill Byte v) s h known = store_meant Byte s Pointer (0 * 65536 + v) v
begun_is_meant (Fill Word v) s h known = store_meant Word s Pointer (0 * 65536 + v) v
begun_is_meant (Fill Long v) s h known = rw (div-add-mod' v 65536) (store_meant Long s Pointer v v)
begun_is_meant Go s h known = record { outcome = refl; leaves = refl; fits = λ f. tt }
begun_is_meant Nop s h known = record { outcome = refl; leaves = refl; fits = λ f. tt }
begun_is_meant SyncPc s h known = record { outcome = refl; leaves = refl; fits = λ f. tt }
begun_is_meant (Rcreg rc) s h known = rw (div-add-mod' rc 65536) (read_control_meant s rc rc)
begun_is_meant (Wcreg rc v) s h known = rw (div-add-mod' rc 65536, div-add-mod' v 65536) (write_control_meant s rc v)
begun_is_meant (Rdmreg n) s h known =
    found_rdmreg
    (λ c. Meant c (address_in (operand_words c) no_operands) (value_in (operand_words c) no_operands) (Some Long) (word_cleared s) (meaning (Rdmreg n) s)) n
    (record { outcome = refl; leaves = refl; fits = λ f. csr_fits (cleared s.board) })
    known
begun_is_meant (Wdmreg n v) s h known = rw (← operand_count (Wdmreg n v) known, div-add-mod' v 65536) (debug_meant n v v s known)

-- what the work on a request's words comes to, once its command word is taken
pub work_is_meant : (request : Request) (s : Scene) → in_range request ≡ true → (command_of request ≡ Unknown → ⊥)
    → Meant (command_of request) (address_sent request) (value_sent request) (kind_of request) (scene_taken (command_word request) s) (meaning request s)
work_is_meant request s h known = rw (word_clears request s) (begun_is_meant request s h known)
