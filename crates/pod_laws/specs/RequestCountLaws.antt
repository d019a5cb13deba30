-- Laws of counts: a request has as many operand and result words as the table gives for the command it means.
use Rattle.std.specs.Prelude.{ℕ, ◌≤◌, ◌≡◌, refl, cond, List, [], ◌∷◌, eqb, length}
use Rattle.std.proofs.Common.{arith, eqb-true}
use Rattle.laws.specs.TestLaws.{either}
use Rattle.command.specs.declared.DebugRegister.{DebugRegister}
use Rattle.command.specs.declared.DebugRegister.TheVariants.{Csr, Baar, Aatr, Tdr, Pbr, Pbmr, Abhr, Ablr, Dbr, Dbmr}
use Rattle.command.specs.declared.Command.{Command}
use Rattle.command.specs.declared.Command.TheVariants.{Unknown}
use Rattle.command.specs.Command.{Row, looked_up, debug_number, rdmreg, wdmreg, operand_words, result_words}
use Rattle.command.specs.CommandLaws.{size_words_bound}
use Rattle.requests.specs.declared.Request.{Request}
use Rattle.requests.specs.declared.Request.TheVariants.{Rdreg, Wdreg, Read, Write, Dump, Fill, Go, Nop, SyncPc, Rcreg, Wcreg, Rdmreg, Wdmreg}
use Rattle.requests.specs.Request.{kind_of, kind_words}
use Rattle.building.specs.RequestWords.{operands, built_words}
use Rattle.building.specs.RequestWordLaws.{data_length}
use Rattle.pod_laws.specs.MeantCommand.{debug_rows, command_of}

-- what holds of each row's word and command
abbrev EachRow : (ℕ → Command → Type 0) → List Row → Type 0
EachRow P [] = Unit {0}
EachRow P (r ∷ rs) = P r.word r.command × EachRow P rs

-- holds of a number found among them
found_has : (P : ℕ → Command → Type 0) (n : ℕ) (rs : List Row) → EachRow P rs → (looked_up n rs ≡ Unknown → ⊥) → P n (looked_up n rs)
found_has P n [] each known = absurd (known refl)
found_has P n (r ∷ rs) each known =
    either (λ c. (c ≡ Unknown → ⊥) → P n c) (eqb n r.word) r.command (looked_up n rs)
    (λ e here. rw (eqb-true n r.word e) each.0)
    (λ e. found_has P n rs each.1)
    known

-- .. so what holds of each register's number and its WDMREG holds of a number that WDMREG takes
pub found_debug : (P : ℕ → Command → Type 0) (n : ℕ) → ((r : DebugRegister) → P (debug_number r) (wdmreg r)) → (looked_up n debug_rows ≡ Unknown → ⊥)
    → P n (looked_up n debug_rows)
found_debug P n each =
    found_has P n debug_rows
    (each Csr, (each Baar, (each Aatr, (each Tdr, (each Pbr, (each Pbmr, (each Abhr, (each Ablr, (each Dbr, (each Dbmr, tt))))))))))

-- RDMREG with n = 0, the one that is listed
pub found_rdmreg : (P : Command → Type 0) (n : ℕ) → P rdmreg → (cond (eqb n 0) rdmreg Unknown ≡ Unknown → ⊥) → P (cond (eqb n 0) rdmreg Unknown)
found_rdmreg P n p known = either (λ c. (c ≡ Unknown → ⊥) → P c) (eqb n 0) rdmreg Unknown (λ e here. p) (λ e here. absurd (here refl)) known

-- the columns "Operand words" and "Result words"
abbrev Counted : Request → Command → Type 0
Counted request c = (length (operands request) ≡ operand_words c) × (kind_words (kind_of request) ≡ result_words c)

-- no request has more than four operand words; as many as the table gives, where the word is a command's
counted : (request : Request) → (length (operands request) ≤ 4) × ((command_of request ≡ Unknown → ⊥) → Counted request (command_of request))
counted (Rdreg register) = (omega arith, λ known. (refl, refl))
counted (Wdreg register value) = (omega arith, λ known. (refl, refl))
counted (Read size address) = (omega arith, λ known. (refl, refl))
counted (Write size address value) =
    (omega (arith, data_length size value, size_words_bound size), λ known. (omega (arith, data_length size value), refl))
counted (Dump size) = (omega arith, λ known. (refl, refl))
counted (Fill size value) = (omega (arith, data_length size value, size_words_bound size), λ known. (data_length size value, refl))
counted Go = (omega arith, λ known. (refl, refl))
counted Nop = (omega arith, λ known. (refl, refl))
counted SyncPc = (omega arith, λ known. (refl, refl))
counted (Rcreg rc) = (omega arith, λ known. (refl, refl))
counted (Wcreg rc value) = (omega arith, λ known. (refl, refl))
counted (Rdmreg n) = (omega arith, found_rdmreg (Counted (Rdmreg n)) n (refl, refl))
counted (Wdmreg n value) = (omega arith, found_debug (λ k. Counted (Wdmreg n value)) n (λ r. (refl, refl)))

pub operand_count : (request : Request) → (command_of request ≡ Unknown → ⊥) → length (operands request) ≡ operand_words (command_of request)
operand_count request known = ((counted request).1 known).0

pub result_count : (request : Request) → (command_of request ≡ Unknown → ⊥) → kind_words (kind_of request) ≡ result_words (command_of request)
result_count request known = ((counted request).1 known).1

-- a buffer of five words holds every request
pub word_count_bound : (request : Request) → length (built_words request) ≤ 5
word_count_bound request = omega (arith, (counted request).0)
