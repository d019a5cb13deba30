-- The text of the answers to a packet, an event, the breakpoint input and `peek` (the desk's language, `stand_in`).
use Rattle.std.specs.Prelude.{ℕ, zero, suc, Bool, List, [], ◌++◌, get_or, Err, None, Ok, Option, Result, Some}
use Rattle.grounds.specs.declared.Ground.{Ground}
use Rattle.halting.specs.declared.Halting.{Halting}
use Rattle.halting.specs.declared.Halting.TheVariants.{NoHalt, Halts, Ignored}
use Rattle.firing.specs.declared.Seen.{Seen}
use Rattle.firing.specs.declared.Pressed.{Pressed}
use Rattle.text.specs.Text.{ascii, flag_text}
use Rattle.text.specs.NumberText.{hex_text}
use Rattle.refusal_text.specs.RefusalText.{refused_text}

-- "`reply X` with five digits, or `refused N at 0`"
abbrev pub packet_text : Result ℕ Ground → List ℕ
packet_text (Ok reply) = ascii "reply " ++ hex_text 5 reply
packet_text (Err why) = refused_text why

-- "halted H interrupt I"
abbrev pub halted_text : Bool → Bool → List ℕ
halted_text halted interrupt = ascii " halted " ++ flag_text halted ++ ascii " interrupt " ++ flag_text interrupt

-- "pc P, P eight digits or `none`"
abbrev pub captured_text : Option ℕ → List ℕ
captured_text None = ascii " pc none"
captured_text (Some pc) = ascii " pc " ++ hex_text 8 pc

-- [6] "The answer to a line with a mark gains ` ignored 1` where HALT halted nothing, ` ignored 0` otherwise"
abbrev pub halting_text : Halting → List ℕ
halting_text NoHalt = []
halting_text Halts = ascii " ignored 0"
halting_text Ignored = ascii " ignored 1"

-- "`event level L halted H interrupt I pc P`"
abbrev pub seen_text : Seen → List ℕ
seen_text seen =
    ascii "event level " ++ hex_text 1 seen.level ++ halted_text seen.halted seen.interrupt ++ captured_text seen.captured
    ++ halting_text seen.halting

abbrev pub event_text : Result Seen Ground → List ℕ
event_text (Err why) = refused_text why
event_text (Ok seen) = seen_text seen

-- "`breakpoint halted H interrupt I`"
abbrev pub pressed_text : Pressed → List ℕ
pressed_text pressed = ascii "breakpoint" ++ halted_text pressed.halted pressed.interrupt

abbrev pub breakpoint_text : Result Pressed Ground → List ℕ
breakpoint_text (Err why) = refused_text why
breakpoint_text (Ok pressed) = pressed_text pressed

-- so many bytes from a place on, two digits each; one that is not there counts as 0
abbrev pub bytes_text : List ℕ → ℕ → ℕ → List ℕ
bytes_text m from zero = []
bytes_text m from (suc count) = hex_text 2 (get_or m from 0) ++ bytes_text m (suc from) count

-- "`peek HEX`: N bytes of memory from A"
abbrev pub peek_text : List ℕ → ℕ → ℕ → List ℕ
peek_text m from count = ascii "peek " ++ bytes_text m from count
