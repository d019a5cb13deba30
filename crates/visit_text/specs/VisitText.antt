-- The desk's language, `gateway`: the text of packets, of what was read and of how the visit ended.
use Rattle.std.specs.Prelude.{ℕ, ◌-◌, cond, List, ◌++◌, ltb, get_or}
use Rattle.control.specs.Control.{control_numbers}
use Rattle.readings.specs.declared.Outcome.{Outcome}
use Rattle.readings.specs.declared.Outcome.TheVariants.{Value, Complete, BusError, Illegal}
use Rattle.asked.specs.VisitRequests.{address_at}
use Rattle.visit.specs.declared.Reason.{Reason}
use Rattle.visit.specs.declared.Reason.TheVariants.{Late, NotReady, NoReply, WordTooLarge, ImpossibleReply}
use Rattle.text.specs.Text.{ascii}
use Rattle.text.specs.NumberText.{hex_text, decimal_text}

-- `packet X`
abbrev pub packet_text : ℕ → List ℕ
packet_text word = ascii "packet " ++ hex_text 5 word

-- "d0 .. d7, a0 .. a7"
abbrev pub register_text : ℕ → List ℕ
register_text j = cond (ltb j 8) (ascii "register d" ++ hex_text 1 j) (ascii "register a" ++ hex_text 1 (j - 8))

-- "the ten control registers by number"
abbrev pub control_text : ℕ → List ℕ
control_text number = ascii "control " ++ hex_text 3 number

-- "table 00000100": the longword's address
abbrev pub table_text : ℕ → List ℕ
table_text place = ascii "table " ++ hex_text 8 place

-- what result j is of
abbrev pub subject_text : ℕ → ℕ → List ℕ
subject_text address j =
    cond (ltb j 16) (register_text j)
    (cond (ltb j 26) (control_text (get_or control_numbers (j - 16) 0)) (cond (ltb j 27) (ascii "csr") (table_text (address_at address (j - 27)))))

-- "the value, or illegal, or bus-error"
abbrev pub value_text : Outcome → List ℕ
value_text (Value value) = hex_text 8 value
value_text Complete = ascii "complete"
value_text BusError = ascii "bus-error"
value_text Illegal = ascii "illegal"

-- a line
abbrev pub result_text : ℕ → ℕ → Outcome → List ℕ
result_text address j outcome = subject_text address j ++ ascii " " ++ value_text outcome ++ ascii "\n"

-- `read packets 214`
abbrev pub read_text : ℕ → List ℕ
read_text packets = ascii "read packets " ++ decimal_text packets

-- "REASON is .."
abbrev pub reason_text : Reason → List ℕ
reason_text Late = ascii "late"
reason_text NotReady = ascii "not-ready"
reason_text NoReply = ascii "no-reply"
reason_text WordTooLarge = ascii "word"
reason_text ImpossibleReply = ascii "reply"

-- `not-read packet N REASON`
abbrev pub not_read_text : ℕ → Reason → List ℕ
not_read_text packet reason = ascii "not-read packet " ++ decimal_text packet ++ ascii " " ++ reason_text reason
