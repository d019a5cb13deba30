-- Laws of what an answer is made of: letters, digits and spaces, so that no line end is among its bytes; and every answer but that to a silent line has some.
use Rattle.std.specs.Prelude.{ℕ, zero, suc, ◌+◌, ◌/◌, ◌%◌, ◌^◌, ◌≤◌, ◌<◌, ◌≡◌, refl, Bool, true, false, cond, ◌&&◌, List, [], ◌∷◌, ◌++◌, leb, ltb, Err, None}
use Rattle.std.specs.Prelude.{Ok, Option, Result, Some, ⊤}
use Rattle.readings.specs.declared.Outcome.{Outcome}
use Rattle.firing.specs.declared.Pressed.{Pressed}
use Rattle.firing.specs.declared.Seen.{Seen}
use Rattle.std.specs.Prelude.{length, get_or, take}
use Prim.Native.String.{String}
use Rattle.std.proofs.Common.{arith, length-append, leb-true, le-leb, ne_eqb}
use Rattle.laws.specs.TestLaws.{both_hold}
use Rattle.grounds.specs.declared.Ground.{Ground}
use Rattle.grounds.specs.Grounds.{number}
use Rattle.board.specs.declared.Board.{Board}
use Rattle.board.specs.declared.Place.{Place}
use Rattle.board.specs.declared.Phase.{Phase}
use Rattle.board.specs.declared.Phase.TheVariants.{Rest, Due, Waiting, Upper}
use Rattle.board.specs.declared.Chain.{Chain}
use Rattle.board.specs.declared.Chain.TheVariants.{Off, Dumping, Filling}
use Rattle.board.specs.Board.{making_verdict}
use Rattle.halting.specs.declared.Halting.{Halting}
use Rattle.halting.specs.declared.Halting.TheVariants.{NoHalt, Halts, Ignored}
use Rattle.bus.specs.Events.{event_outcome, breakpoint_outcome}
use Rattle.lent.specs.Lent.{fits}
use Rattle.board_lines.specs.declared.BoardLine.{BoardLine}
use Rattle.board_lines.specs.declared.BoardLine.TheVariants.{Nothing, Make, Memory, Bytes, Packet, Event as EventLine}
use Rattle.board_lines.specs.declared.BoardLine.TheVariants.{EventWithAccess, Breakpoint, Peek, State, Unclear}
use Rattle.readings.specs.declared.Outcome.{Outcome as Closing}
use Rattle.readings.specs.declared.Outcome.TheVariants.{Value, Complete, BusError, Illegal}
use Rattle.readings.specs.Reading.{reading}
use Rattle.requests.specs.declared.Request.{Request}
use Rattle.building.specs.RequestWords.{built_words}
use Rattle.building.specs.Building.{building_verdict}
use Rattle.console.specs.InputLines.{is_line_end, has_ended}
use Rattle.text.specs.Text.{ascii, flag_text}
use Rattle.text.specs.NumberText.{digit_text, digits_text, hex_text, number_text, decimal_text, width}
use Rattle.refusal_text.specs.RefusalText.{refused_at, unclear_text}
use Rattle.request_text.specs.RequestText.{outcome_text, each_word, used_text, reading_text}
use Rattle.replies.specs.ReplyText.{packet_text, halted_text, captured_text, halting_text, event_text, breakpoint_text, bytes_text}
use Rattle.state_line.specs.StateText.{Field, fields_text, status_fields, debug_fields, data_fields, address_fields, control_fields, sync_fields}
use Rattle.state_line.specs.StateText.{registers_text, phase_text, chain_text, place_text, fault_text, state_text}
use Rattle.pod_lines.specs.declared.NotTaken.{NotTaken}
use Rattle.pod_lines.specs.declared.NotTaken.TheVariants.{TooMany, NotAllNumbers}
use Rattle.pod_lines.specs.Taking.{values, counted, taken}
use Rattle.pod_lines.specs.PodLines.{Meaning, nothing, builds, reads, unclear}
use Rattle.answers.specs.declared.Bench.{Bench}
use Rattle.answers.specs.Bench.{start, access}
use Rattle.answers.specs.Said.{made_text, bytes_put_text, peeked_text, packet_outcome}
use Rattle.line_answers.specs.LineSaid.{said}
use Rattle.asking.specs.Asking.{exchanged_text}
use Rattle.languages.specs.declared.Language.{Language}
use Rattle.languages.specs.declared.Language.TheVariants.{StandIn, Talk, Both, Pod}
use Rattle.languages.specs.HelpText.{help_text, bye_text}
use Rattle.pod_answers.specs.PodSaid.{built_by, read_text, pod_text}
use Rattle.said_laws.specs.FitLineLaws.{Fit, PodFit}

-- every byte is a space or comes after it
abbrev pub is_plain : List ℕ → Bool
is_plain [] = true
is_plain (byte ∷ bytes) = cond (leb 32 byte) (is_plain bytes) false

pub record Plain (text : List ℕ) : Type 0 where
  pub bytes : is_plain text ≡ true

-- no line end is among them
above_end : (byte : ℕ) → leb 32 byte ≡ true → is_line_end byte ≡ false
unfolding is_line_end
above_end byte e =
    let above : 32 ≤ byte = leb-true 32 byte e in
    let feed : (byte ≡ 10) → ⊥ = λ z. omega arith in
    let return : (byte ≡ 13) → ⊥ = λ z. omega arith in
    rw (ne_eqb byte 10 feed, ne_eqb byte 13 return)

none_ends : (text : List ℕ) → is_plain text ≡ true → has_ended text ≡ false
none_ends [] p = refl
none_ends (byte ∷ text) p = by_test (none_ends text) (leb 32 byte) refl p
  where
    by_test : (is_plain text ≡ true → has_ended text ≡ false) → (t : Bool) → leb 32 byte ≡ t → cond t (is_plain text) false ≡ true
        → has_ended (byte ∷ text) ≡ false
    by_test on true e q = rw (above_end byte e) (on q)
    by_test on false e q = cc

pub plain_open : (text : List ℕ) → Plain text → has_ended text ≡ false
plain_open text p = none_ends text p.bytes

-- one text behind another
both_plain : (t u : List ℕ) → is_plain t ≡ true → is_plain u ≡ true → is_plain (t ++ u) ≡ true
both_plain [] u p q = q
both_plain (byte ∷ t) u p q = by_test (both_plain t u) (leb 32 byte) p
  where
    by_test : (is_plain t ≡ true → is_plain u ≡ true → is_plain (t ++ u) ≡ true) → (b : Bool) → cond b (is_plain t) false ≡ true
        → cond b (is_plain (t ++ u)) false ≡ true
    by_test on true p = on p q
    by_test on false p = p

infixl 30 ◌and◌
◌and◌ : {t u : List ℕ} → Plain t → Plain u → Plain (t ++ u)
◌and◌ {t} {u} p q = record { bytes = both_plain t u p.bytes q.bytes }

letters : (text : String) → is_plain (ascii text) ≡ true → Plain (ascii text)
letters text e = record { bytes = e }

-- digits
digit_plain : (d : ℕ) → leb 32 (digit_text d) ≡ true
unfolding digit_text
digit_plain d = by_test (ltb d 10)
  where
    by_test : (t : Bool) → leb 32 (cond t (48 + d) (55 + d)) ≡ true
    by_test true = le-leb 32 (48 + d) (omega arith)
    by_test false = le-leb 32 (55 + d) (omega arith)

digits_shown : (base k n : ℕ) → is_plain (digits_text base k n) ≡ true
unfolding digits_text
digits_shown base zero n = refl
digits_shown base (suc k) n = rw (digit_plain (n / base ^ k % base)) (digits_shown base k n)

hex : (k n : ℕ) → Plain (hex_text k n)
hex k n = record { bytes = digits_shown 16 k n }

numeral : (n : ℕ) → Plain (number_text n)
numeral n = record { bytes = digits_shown 16 (width 16 n) n }

decimal : (n : ℕ) → Plain (decimal_text n)
decimal n = record { bytes = digits_shown 10 (width 10 n) n }

flag_plain : (flag : Bool) → Plain (flag_text flag)
flag_plain true = record { bytes = refl }
flag_plain false = record { bytes = refl }

-- an answer: some bytes, all of them plain
pub record Spoken (text : List ℕ) : Type 0 where
  pub some : 0 < length text
  pub plain : Plain text

refused_spoken : (why : Ground) (cycle : ℕ) → Spoken (refused_at why cycle)
refused_spoken why cycle =
    record { some = omega arith; plain = letters "refused " refl and decimal (number why) and letters " at " refl and decimal cycle }

packet_spoken : (o : Result ℕ Ground) → Spoken (packet_text o)
packet_spoken (Ok reply) = record { some = omega arith; plain = letters "reply " refl and hex 5 reply }
packet_spoken (Err why) = refused_spoken why 0

halted_plain : (halted interrupt : Bool) → Plain (halted_text halted interrupt)
halted_plain halted interrupt = letters " halted " refl and flag_plain halted and letters " interrupt " refl and flag_plain interrupt

captured_plain : (captured : Option ℕ) → Plain (captured_text captured)
captured_plain None = record { bytes = refl }
captured_plain (Some pc) = letters " pc " refl and hex 8 pc

halting_plain : (halting : Halting) → Plain (halting_text halting)
halting_plain NoHalt = record { bytes = refl }
halting_plain Halts = record { bytes = refl }
halting_plain Ignored = record { bytes = refl }

event_spoken : (o : Result Seen Ground) → Spoken (event_text o)
event_spoken (Err why) = refused_spoken why 0
event_spoken (Ok seen) =
    record {
      some = omega arith;
      plain = letters "event level " refl and hex 1 seen.level and halted_plain seen.halted seen.interrupt and captured_plain seen.captured
          and halting_plain seen.halting;
    }

breakpoint_spoken : (o : Result Pressed Ground) → Spoken (breakpoint_text o)
breakpoint_spoken (Err why) = refused_spoken why 0
breakpoint_spoken (Ok pressed) =
    record { some = omega arith; plain = letters "breakpoint" refl and halted_plain pressed.halted pressed.interrupt }

bytes_plain : (m : List ℕ) (from count : ℕ) → Plain (bytes_text m from count)
bytes_plain m from zero = record { bytes = refl }
bytes_plain m from (suc count) = hex 2 (get_or m from 0) and bytes_plain m (suc from) count

-- the line `state`
abbrev names_plain : List Field → Bool
names_plain [] = true
names_plain (f ∷ fields) = is_plain (ascii f.name) && names_plain fields

fields_plain : (fields : List Field) → names_plain fields ≡ true → Plain (fields_text fields)
fields_plain [] p = record { bytes = refl }
fields_plain (f ∷ fields) p =
    let names = both_hold (is_plain (ascii f.name)) (names_plain fields) p in
    letters f.name names.0 and (letters "=" refl and (hex f.digits f.value and (letters " " refl and fields_plain fields names.1)))

registers_plain : (b : Board) → Plain (registers_text b)
unfolding registers_text
registers_plain b =
    fields_plain (status_fields b) refl
    and fields_plain (debug_fields b.debug) refl
    and fields_plain (data_fields b.registers.general) refl
    and fields_plain (address_fields b.registers.general) refl
    and fields_plain (control_fields b.registers.control) refl

phase_plain : (phase : Phase) → Plain (phase_text phase)
phase_plain Rest = record { bytes = refl }
phase_plain (Due command left operands) = letters "phase=operands:" refl and numeral left
phase_plain (Waiting command left address value) = letters "phase=waiting:" refl and numeral left
phase_plain (Upper low) = letters "phase=low:" refl and hex 4 low

chain_plain : (chain : Chain) → Plain (chain_text chain)
chain_plain Off = record { bytes = refl }
chain_plain Dumping = record { bytes = refl }
chain_plain Filling = record { bytes = refl }

place_plain : (p : Place) → Plain (place_text p)
place_plain p =
    phase_plain p.phase and chain_plain p.chain and letters " pointer=" refl and hex 5 p.pointer and letters " next=" refl and hex 5 p.next

fault_plain : (fault : Option ℕ) → Plain (fault_text fault)
fault_plain None = record { bytes = refl }
fault_plain (Some first) = letters " fault=" refl and hex 8 first

state_spoken : (b : Board) (p : Place) → Spoken (state_text b p)
unfolding state_text
state_spoken b p =
    record {
      some = omega arith;
      plain = letters "state " refl and registers_plain b and fields_plain (sync_fields b.status.sync) refl and place_plain p and fault_plain b.fault;
    }

-- the other lines of the board's
made_spoken : (v : Result ⊤ Ground) → Spoken (made_text v)
made_spoken (Ok _) = record { some = omega arith; plain = letters "made" refl }
made_spoken (Err why) = refused_spoken why 0

pub unclear_spoken : Spoken unclear_text
unclear_spoken = record { some = omega arith; plain = letters "unclear" refl }

bytes_put_spoken : (fitting : Bool) (n : ℕ) → Spoken (bytes_put_text fitting n)
bytes_put_spoken true n = record { some = omega arith; plain = letters "bytes " refl and numeral n }
bytes_put_spoken false n = unclear_spoken

peeked_spoken : (fitting : Bool) (m : List ℕ) (address n : ℕ) → Spoken (peeked_text fitting m address n)
peeked_spoken true m address n = record { some = omega arith; plain = letters "peek " refl and bytes_plain m address n }
peeked_spoken false m address n = unclear_spoken

pub board_spoken : (line : List ℕ) (asked : BoardLine) (bench : Bench) (m : List ℕ) → Fit asked → Spoken (said line asked bench m)
unfolding said
board_spoken line Nothing bench m f = absurd f
board_spoken line (Make w) bench m f = made_spoken (making_verdict w)
board_spoken line (Memory n) bench m f = record { some = omega arith; plain = letters "memory " refl and numeral n }
board_spoken line (Bytes address from count) bench m f = bytes_put_spoken (fits address count bench.lent) count
board_spoken line (Packet word) bench m f = packet_spoken (packet_outcome word bench (take bench.lent m))
board_spoken line (EventLine pc mark) bench m f = event_spoken (event_outcome bench.board bench.place (start pc mark))
board_spoken line (EventWithAccess pc address attribute lanes mark) bench m f =
    event_spoken (event_outcome bench.board bench.place (access pc address attribute lanes mark))
board_spoken line Breakpoint bench m f = breakpoint_spoken (breakpoint_outcome bench.board bench.place)
board_spoken line (Peek address count) bench m f = peeked_spoken (fits address count bench.lent) m address count
board_spoken line State bench m f = state_spoken bench.board bench.place
board_spoken line Unclear bench m f = unclear_spoken

-- requests
outcome_spoken : (o : Closing) → Spoken (outcome_text o)
outcome_spoken (Value v) = record { some = omega arith; plain = letters "value " refl and hex 8 v }
outcome_spoken Complete = record { some = omega arith; plain = letters "complete" refl }
outcome_spoken BusError = record { some = omega arith; plain = letters "bus-error" refl }
outcome_spoken Illegal = record { some = omega arith; plain = letters "illegal" refl }

with_rest : {t u : List ℕ} → Spoken t → Plain u → Spoken (t ++ u)
with_rest {t} {u} s p = record { some = simp length-append (omega (arith, s.some)); plain = s.plain and p }

pub exchange_spoken : (x : Result (Closing × ℕ) Ground) → Spoken (exchanged_text x)
exchange_spoken (Ok (outcome, packets)) = with_rest (with_rest (outcome_spoken outcome) (letters " packets " refl)) (decimal packets)
exchange_spoken (Err why) = refused_spoken why 0

-- the pod's half
used_plain : (used : ℕ) → Plain (used_text used)
used_plain used = letters " used " refl and decimal used

reading_spoken : (r : Result (Option Outcome × ℕ) Ground) → Spoken (reading_text r)
reading_spoken (Ok (Some outcome, used)) = with_rest (outcome_spoken outcome) (used_plain used)
reading_spoken (Ok (None, used)) = record { some = omega arith; plain = letters "not-yet" refl and used_plain used }
reading_spoken (Err why) = refused_spoken why 0

each_plain : (words : List ℕ) → Plain (each_word words)
each_plain [] = record { bytes = refl }
each_plain (word ∷ words) = letters " " refl and hex 5 word and each_plain words

built_spoken : (v : Result ⊤ Ground) (words : List ℕ) → Spoken (built_by v words)
built_spoken (Ok _) words = record { some = omega arith; plain = letters "words" refl and each_plain words }
built_spoken (Err why) words = refused_spoken why 0

read_spoken : (request : Request) (t : Result ℕ NotTaken) (replies : List ℕ) → Spoken (read_text request t replies)
read_spoken request (Ok n) replies = reading_spoken (reading request replies)
read_spoken request (Err TooMany) replies = unclear_spoken
read_spoken request (Err NotAllNumbers) replies = unclear_spoken

pub pod_spoken : (meaning : Meaning) → PodFit meaning → Spoken (pod_text meaning)
pod_spoken nothing f = absurd f
pod_spoken (builds request) f = built_spoken (building_verdict request 5) (built_words request)
pod_spoken (reads request replies) f = read_spoken request (taken (counted replies) 2048) (values replies)
pod_spoken unclear f = unclear_spoken

-- `help` and `quit`
pub help_spoken : (language : Language) → Spoken (help_text language)
unfolding help_text
help_spoken StandIn = record { some = omega arith; plain = record { bytes = refl } }
help_spoken Talk = record { some = omega arith; plain = record { bytes = refl } }
help_spoken Both = record { some = omega arith; plain = record { bytes = refl } }
help_spoken Pod = record { some = omega arith; plain = record { bytes = refl } }

pub bye_spoken : Spoken bye_text
bye_spoken = record { some = omega arith; plain = letters "bye" refl }
