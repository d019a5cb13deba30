-- The line `state` (the desk's language, `stand_in`): "`state name=value ..` of all the board holds".
use Rattle.std.specs.Prelude.{ℕ, Bool, cond, List, [], ◌∷◌, ◌++◌, get_or, None, Option, Some}
use Prim.Native.String.{String}
use Rattle.board.specs.declared.Board.{Board}
use Rattle.board.specs.declared.Debug.{Debug}
use Rattle.board.specs.declared.Place.{Place}
use Rattle.board.specs.declared.Phase.{Phase}
use Rattle.board.specs.declared.Phase.TheVariants.{Rest, Due, Waiting, Upper}
use Rattle.board.specs.declared.Chain.{Chain}
use Rattle.board.specs.declared.Chain.TheVariants.{Off, Dumping, Filling}
use Rattle.csr.specs.Csr.{csr_value}
use Rattle.text.specs.Text.{ascii}
use Rattle.text.specs.NumberText.{hex_text, number_text}

-- a name, and a value of so many digits
pub record Field : Type 0 where
  pub name : String
  pub digits : ℕ
  pub value : ℕ

abbrev pub field : String → ℕ → ℕ → Field
field name digits value = record { name = name; digits = digits; value = value }

-- `NAME=VALUE ` for each
abbrev pub fields_text : List Field → List ℕ
fields_text [] = []
fields_text (f ∷ fields) = ascii f.name ++ (ascii "=" ++ (hex_text f.digits f.value ++ (ascii " " ++ fields_text fields)))

-- "flags 0 or 1"
abbrev pub bit_of : Bool → ℕ
bit_of flag = cond flag 1 0

-- "`w` one"
abbrev pub status_fields : Board → List Field
status_fields b = field "w" 1 b.w ∷ field "halted" 1 (bit_of b.status.halted) ∷ field "csr" 8 (csr_value b) ∷ []

-- "eight digits for 32-bit registers, `aatr` four, `baar` two"
abbrev pub debug_fields : Debug → List Field
debug_fields d =
    field "tdr" 8 d.tdr
    ∷ field "aatr" 4 d.aatr
    ∷ field "baar" 2 d.baar
    ∷ field "pbr" 8 d.pbr
    ∷ field "pbmr" 8 d.pbmr
    ∷ field "abhr" 8 d.abhr
    ∷ field "ablr" 8 d.ablr
    ∷ field "dbr" 8 d.dbr
    ∷ field "dbmr" 8 d.dbmr
    ∷ []

-- "`d0`..`d7`", of the sixteen registers
abbrev pub data_fields : List ℕ → List Field
data_fields general =
    field "d0" 8 (get_or general 0 0)
    ∷ field "d1" 8 (get_or general 1 0)
    ∷ field "d2" 8 (get_or general 2 0)
    ∷ field "d3" 8 (get_or general 3 0)
    ∷ field "d4" 8 (get_or general 4 0)
    ∷ field "d5" 8 (get_or general 5 0)
    ∷ field "d6" 8 (get_or general 6 0)
    ∷ field "d7" 8 (get_or general 7 0)
    ∷ []

-- "`a0`..`a7`"
abbrev pub address_fields : List ℕ → List Field
address_fields general =
    field "a0" 8 (get_or general 8 0)
    ∷ field "a1" 8 (get_or general 9 0)
    ∷ field "a2" 8 (get_or general 10 0)
    ∷ field "a3" 8 (get_or general 11 0)
    ∷ field "a4" 8 (get_or general 12 0)
    ∷ field "a5" 8 (get_or general 13 0)
    ∷ field "a6" 8 (get_or general 14 0)
    ∷ field "a7" 8 (get_or general 15 0)
    ∷ []

-- "`cacr acr0 acr1 vbr macsr mask acc sr pc rambar`"
abbrev pub control_fields : List ℕ → List Field
control_fields control =
    field "cacr" 8 (get_or control 0 0)
    ∷ field "acr0" 8 (get_or control 1 0)
    ∷ field "acr1" 8 (get_or control 2 0)
    ∷ field "vbr" 8 (get_or control 3 0)
    ∷ field "macsr" 8 (get_or control 4 0)
    ∷ field "mask" 8 (get_or control 5 0)
    ∷ field "acc" 8 (get_or control 6 0)
    ∷ field "sr" 8 (get_or control 7 0)
    ∷ field "pc" 8 (get_or control 8 0)
    ∷ field "rambar" 8 (get_or control 9 0)
    ∷ []

abbrev pub sync_fields : Bool → List Field
sync_fields sync = field "sync" 1 (bit_of sync) ∷ []

unfoldable pub registers_text : Board → List ℕ
registers_text b =
    fields_text (status_fields b)
    ++ fields_text (debug_fields b.debug)
    ++ fields_text (data_fields b.registers.general)
    ++ fields_text (address_fields b.registers.general)
    ++ fields_text (control_fields b.registers.control)

-- "`phase` one of `rest`, `operands:LEFT`, `waiting:LEFT`, `low:WORD` (the low result word, four digits)"
abbrev pub phase_text : Phase → List ℕ
phase_text Rest = ascii "phase=rest"
phase_text (Due command left operands) = ascii "phase=operands:" ++ number_text left
phase_text (Waiting command left address value) = ascii "phase=waiting:" ++ number_text left
phase_text (Upper low) = ascii "phase=low:" ++ hex_text 4 low

-- "`chain` one of `none`, `dump`, `fill`"
abbrev pub chain_text : Chain → List ℕ
chain_text Off = ascii " chain=none"
chain_text Dumping = ascii " chain=dump"
chain_text Filling = ascii " chain=fill"

-- "`pointer` and `next` five"
abbrev pub place_text : Place → List ℕ
place_text p =
    phase_text p.phase
    ++ chain_text p.chain
    ++ ascii " pointer="
    ++ hex_text 5 p.pointer
    ++ ascii " next="
    ++ hex_text 5 p.next

-- [4] "gains ` fault=ADDRESS` (eight hexadecimal digits) or ` fault=none` at its end"
abbrev pub fault_text : Option ℕ → List ℕ
fault_text None = ascii " fault=none"
fault_text (Some first) = ascii " fault=" ++ hex_text 8 first

unfoldable pub state_text : Board → Place → List ℕ
state_text b p = ascii "state " ++ registers_text b ++ fields_text (sync_fields b.status.sync) ++ place_text p ++ fault_text b.fault
