-- Laws of how long an answer is: at most 4,095 bytes, so that a text of 4,096, as the programs lend it, has room for it and its line end.
use Rattle.std.specs.Prelude.{ℕ, zero, suc, ◌*◌, ◌≤◌, ◌≡◌, refl, Bool, true, false, List, [], ◌∷◌, length, get_or, take, Err, None, Ok, Option, Result, Some, ⊤}
use Rattle.readings.specs.declared.Outcome.{Outcome}
use Rattle.firing.specs.declared.Pressed.{Pressed}
use Rattle.firing.specs.declared.Seen.{Seen}
use Rattle.std.proofs.Common.{arith, length-append, leb-true}
use Rattle.grounds.specs.declared.Ground.{Ground}
use Rattle.grounds.specs.Grounds.{number}
use Rattle.board.specs.declared.Board.{Board}
use Rattle.board.specs.declared.Place.{Place}
use Rattle.board.specs.declared.Phase.{Phase}
use Rattle.board.specs.declared.Phase.TheVariants.{Rest, Due, Waiting, Upper}
use Rattle.board.specs.declared.Chain.{Chain}
use Rattle.board.specs.declared.Chain.TheVariants.{Off, Dumping, Filling}
use Rattle.board.specs.Board.{making_verdict}
use Rattle.halting.specs.declared.Halting.{Halting}
use Rattle.halting.specs.declared.Halting.TheVariants.{NoHalt, Halts, Ignored}
use Rattle.bus.specs.Events.{event_outcome, breakpoint_outcome}
use Rattle.lent.specs.Lent.{fits}
use Rattle.board_lines.specs.declared.BoardLine.{BoardLine}
use Rattle.board_lines.specs.declared.BoardLine.TheVariants.{Nothing, Make, Memory, Bytes, Packet, Event as EventLine}
use Rattle.board_lines.specs.declared.BoardLine.TheVariants.{EventWithAccess, Breakpoint, Peek, State, Unclear}
use Rattle.readings.specs.declared.Outcome.{Outcome as Closing}
use Rattle.readings.specs.declared.Outcome.TheVariants.{Value, Complete, BusError, Illegal}
use Rattle.readings.specs.Reading.{reading}
use Rattle.requests.specs.declared.Request.{Request}
use Rattle.building.specs.RequestWords.{built_words}
use Rattle.building.specs.Building.{building_verdict}
use Rattle.pod_laws.specs.RequestCountLaws.{word_count_bound}
use Rattle.pod_lines.specs.declared.NotTaken.{NotTaken}
use Rattle.pod_lines.specs.declared.NotTaken.TheVariants.{TooMany, NotAllNumbers}
use Rattle.pod_lines.specs.Taking.{values, counted, taken}
use Rattle.pod_lines.specs.PodLines.{Meaning, nothing, builds, reads, unclear}
use Rattle.text.specs.Text.{flag_text}
use Rattle.text.specs.NumberText.{digits_text}
use Rattle.text.proofs.NumberTextLaws.{digits_length, number_length, decimal_length}
use Rattle.refusal_text.specs.RefusalText.{refused_at}
use Rattle.request_text.specs.RequestText.{outcome_text, each_word, reading_text}
use Rattle.replies.specs.ReplyText.{packet_text, captured_text, halting_text, event_text, breakpoint_text, bytes_text}
use Rattle.state_line.specs.StateText.{bit_of, registers_text, phase_text, chain_text, fault_text, state_text}
use Rattle.answers.specs.declared.Bench.{Bench}
use Rattle.answers.specs.Bench.{start, access}
use Rattle.answers.specs.Said.{made_text, bytes_put_text, peeked_text, packet_outcome}
use Rattle.line_answers.specs.LineSaid.{said}
use Rattle.asking.specs.Asking.{exchanged_text}
use Rattle.languages.specs.declared.Language.{Language}
use Rattle.languages.specs.declared.Language.TheVariants.{StandIn, Talk, Both, Pod}
use Rattle.languages.specs.HelpText.{help_text}
use Rattle.pod_answers.specs.PodSaid.{built_by, read_text, pod_text}
use Rattle.said_laws.specs.FitLineLaws.{Fit}

refused_length : (g : Ground) (cycle : ℕ) → length (refused_at g cycle) ≤ 64
refused_length g cycle = simp length-append (omega (arith, decimal_length (number g), decimal_length cycle))

packet_length : (o : Result ℕ Ground) → length (packet_text o) ≤ 64
packet_length (Ok reply) = simp length-append (omega (arith, digits_length 16 5 reply))
packet_length (Err why) = refused_length why 0

flag_length : (flag : Bool) → length (flag_text flag) ≡ 1
flag_length true = refl
flag_length false = refl

captured_length : (captured : Option ℕ) → length (captured_text captured) ≤ 16
captured_length None = omega arith
captured_length (Some pc) = simp length-append (omega (arith, digits_length 16 8 pc))

halting_length : (halting : Halting) → length (halting_text halting) ≤ 10
halting_length NoHalt = omega arith
halting_length Halts = omega arith
halting_length Ignored = omega arith

event_length : (o : Result Seen Ground) → length (event_text o) ≤ 64
event_length (Err why) = refused_length why 0
event_length (Ok seen) =
    let level = digits_length 16 1 seen.level in
    let end = captured_length seen.captured in
    simp length-append (omega (arith, level, flag_length seen.halted, flag_length seen.interrupt, end, halting_length seen.halting))

breakpoint_length : (o : Result Pressed Ground) → length (breakpoint_text o) ≤ 64
breakpoint_length (Err why) = refused_length why 0
breakpoint_length (Ok pressed) = simp length-append (omega (arith, flag_length pressed.halted, flag_length pressed.interrupt))

bytes_length : (m : List ℕ) (from count : ℕ) → length (bytes_text m from count) ≡ 2 * count
bytes_length m from zero = refl
bytes_length m from (suc count) = simp length-append (omega (arith, digits_length 16 2 (get_or m from 0), bytes_length m (suc from) count))

registers_length : (b : Board) → length (registers_text b) ≡ 468
unfolding digits_text registers_text
registers_length b = refl

phase_length : (phase : Phase) → length (phase_text phase) ≤ 40
phase_length Rest = omega arith
phase_length (Due command left operands) = simp length-append (omega (arith, number_length left))
phase_length (Waiting command left address value) = simp length-append (omega (arith, number_length left))
phase_length (Upper low) = simp length-append (omega (arith, digits_length 16 4 low))

chain_length : (chain : Chain) → length (chain_text chain) ≡ 11
chain_length Off = refl
chain_length Dumping = refl
chain_length Filling = refl

fault_length : (fault : Option ℕ) → length (fault_text fault) ≤ 16
fault_length None = omega arith
fault_length (Some first) = simp length-append (omega (arith, digits_length 16 8 first))

pub state_length : (b : Board) (p : Place) → length (state_text b p) ≤ 1024
unfolding state_text
state_length b p =
    let sync = digits_length 16 1 (bit_of b.status.sync) in
    let pointer = digits_length 16 5 p.pointer in
    let next = digits_length 16 5 p.next in
    simp length-append (omega (arith, registers_length b, sync, phase_length p.phase, chain_length p.chain, pointer, next, fault_length b.fault))

made_length : (v : Result ⊤ Ground) → length (made_text v) ≤ 64
made_length (Ok _) = omega arith
made_length (Err why) = refused_length why 0

bytes_put_length : (fitting : Bool) (n : ℕ) → length (bytes_put_text fitting n) ≤ 64
bytes_put_length true n = simp length-append (omega (arith, number_length n))
bytes_put_length false n = omega arith

peeked_length : (fitting : Bool) (m : List ℕ) (address n : ℕ) → n ≤ 0x400 → length (peeked_text fitting m address n) ≤ 4095
peeked_length true m address n h = simp length-append (omega (arith, bytes_length m address n))
peeked_length false m address n h = omega arith

-- every answer to a line of the board's that is no silent one
pub said_length : (line : List ℕ) (asked : BoardLine) (bench : Bench) (m : List ℕ) → Fit asked → length (said line asked bench m) ≤ 4095
unfolding said
said_length line Nothing bench m f = absurd f
said_length line (Make w) bench m f = omega (arith, made_length (making_verdict w))
said_length line (Memory n) bench m f = simp length-append (omega (arith, number_length n))
said_length line (Bytes address from count) bench m f = omega (arith, bytes_put_length (fits address count bench.lent) count)
said_length line (Packet word) bench m f = omega (arith, packet_length (packet_outcome word bench (take bench.lent m)))
said_length line (EventLine pc mark) bench m f = omega (arith, event_length (event_outcome bench.board bench.place (start pc mark)))
said_length line (EventWithAccess pc address attribute lanes mark) bench m f =
    omega (arith, event_length (event_outcome bench.board bench.place (access pc address attribute lanes mark)))
said_length line Breakpoint bench m f = omega (arith, breakpoint_length (breakpoint_outcome bench.board bench.place))
said_length line (Peek address count) bench m f = peeked_length (fits address count bench.lent) m address count f
said_length line State bench m f = omega (arith, state_length bench.board bench.place)
said_length line Unclear bench m f = omega arith

-- to a request
outcome_length : (o : Closing) → length (outcome_text o) ≤ 14
outcome_length (Value v) = simp length-append (omega (arith, digits_length 16 8 v))
outcome_length Complete = omega arith
outcome_length BusError = omega arith
outcome_length Illegal = omega arith

pub exchanged_length : (x : Result (Closing × ℕ) Ground) → length (exchanged_text x) ≤ 4095
exchanged_length (Ok (outcome, packets)) = simp length-append (omega (arith, outcome_length outcome, decimal_length packets))
exchanged_length (Err why) = omega (arith, refused_length why 0)

-- of the pod's half: no request has more than five words
each_length : (words : List ℕ) → length (each_word words) ≡ 6 * length words
each_length [] = refl
each_length (word ∷ words) = simp length-append (omega (arith, digits_length 16 5 word, each_length words))

built_length : (v : Result ⊤ Ground) (words : List ℕ) → length words ≤ 5 → length (built_by v words) ≤ 4095
built_length (Ok _) words few = simp length-append (omega (arith, each_length words))
built_length (Err why) words few = omega (arith, refused_length why 0)

reading_length : (r : Result (Option Outcome × ℕ) Ground) → length (reading_text r) ≤ 4095
reading_length (Ok (Some outcome, used)) = simp length-append (omega (arith, outcome_length outcome, decimal_length used))
reading_length (Ok (None, used)) = simp length-append (omega (arith, decimal_length used))
reading_length (Err why) = omega (arith, refused_length why 0)

read_length : (request : Request) (t : Result ℕ NotTaken) (replies : List ℕ) → length (read_text request t replies) ≤ 4095
read_length request (Ok n) replies = reading_length (reading request replies)
read_length request (Err TooMany) replies = omega arith
read_length request (Err NotAllNumbers) replies = omega arith

pub pod_length : (meaning : Meaning) → length (pod_text meaning) ≤ 4095
pod_length nothing = omega arith
pod_length (builds request) = built_length (building_verdict request 5) (built_words request) (word_count_bound request)
pod_length (reads request replies) = read_length request (taken (counted replies) 2048) (values replies)
pod_length unclear = omega arith

-- and to `help`
pub help_length : (language : Language) → length (help_text language) ≤ 4095
unfolding help_text
help_length StandIn = leb-true _ 4095 refl
help_length Talk = leb-true _ 4095 refl
help_length Both = leb-true _ 4095 refl
help_length Pod = leb-true _ 4095 refl
