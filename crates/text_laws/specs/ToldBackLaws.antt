-- Laws of the answers' text: what was told is read back from it.
use Rattle.std.specs.Prelude.{ℕ, ◌+◌, ◌-◌, ◌*◌, ◌/◌, ◌%◌, ◌^◌, ◌<◌, ◌≡◌, Bool, cond, List, ◌++◌, eqb, ltb, get_or, take, drop, Err, None, Ok, Option, Result}
use Rattle.std.specs.Prelude.{Some}
use Rattle.firing.specs.declared.Pressed.{Pressed}
use Rattle.std.proofs.Math.Path.{refl}
use Rattle.std.proofs.Common.{ap, arith, mod-lt, ne_eqb}
use Rattle.std.proofs.Math.Bool.{true, false}
use Rattle.grounds.specs.declared.Ground.{Ground}
use Rattle.grounds.specs.declared.Ground.TheVariants.{WordTooLarge, WaitTooLarge, MemoryTooLong, EventWhileHalted, OddPc, ReservedSize, TraceTooLong}
use Rattle.grounds.specs.declared.Ground.TheVariants.{ReservedPst, MarkerTooSoon, TraceCutShort, BufferTooShort, StateOutOfRange, RequestOutOfRange}
use Rattle.grounds.specs.declared.Ground.TheVariants.{ImpossibleReply}
use Rattle.readings.specs.declared.Outcome.{Outcome}
use Rattle.readings.specs.declared.Outcome.TheVariants.{Value, Complete, BusError, Illegal}
use Rattle.firing.specs.declared.Seen.{Seen}
use Rattle.halting.specs.declared.Halting.{Halting}
use Rattle.halting.specs.declared.Halting.TheVariants.{NoHalt, Halts, Ignored}
use Rattle.numbers.specs.Numbers.{value}
use Rattle.text.specs.NumberText.{digit_text, digits_text, width_from}
use Rattle.refusal_text.specs.RefusalText.{refused_at}
use Rattle.request_text.specs.RequestText.{reading_text, exchange_text}
use Rattle.replies.specs.ReplyText.{packet_text, captured_text, halting_text, seen_text, event_text, pressed_text, breakpoint_text}
use Rattle.text_laws.specs.ReadBackLaws.{decimal_value, hex_back, decimal_back}

-- the ground of a refusal, by its number of one or two digits
abbrev pub ground_of : ℕ → Ground
ground_of n =
    cond (eqb n 1) WordTooLarge
    (cond (eqb n 2) WaitTooLarge
    (cond (eqb n 3) MemoryTooLong
    (cond (eqb n 4) EventWhileHalted
    (cond (eqb n 5) OddPc
    (cond (eqb n 6) ReservedSize
    (cond (eqb n 7) TraceTooLong
    (cond (eqb n 8) ReservedPst
    (cond (eqb n 9) MarkerTooSoon
    (cond (eqb n 10) TraceCutShort
    (cond (eqb n 11) BufferTooShort (cond (eqb n 12) StateOutOfRange (cond (eqb n 13) RequestOutOfRange ImpossibleReply))))))))))))

abbrev pub refusal_of : List ℕ → Ground
refusal_of text = ground_of (cond (eqb (get_or text 9 0) 32) (get_or text 8 0 - 48) ((get_or text 8 0 - 48) * 10 + (get_or text 9 0 - 48)))

-- its cycle, behind ` at `
abbrev pub cycle_of : List ℕ → ℕ
cycle_of text = decimal_value (drop (cond (eqb (get_or text 9 0) 32) 13 14) text)

pub refusal_back : (g : Ground) (cycle : ℕ) → refusal_of (refused_at g cycle) ≡ g
unfolding digit_text digits_text width_from
refusal_back WordTooLarge cycle = refl
refusal_back WaitTooLarge cycle = refl
refusal_back MemoryTooLong cycle = refl
refusal_back EventWhileHalted cycle = refl
refusal_back OddPc cycle = refl
refusal_back ReservedSize cycle = refl
refusal_back TraceTooLong cycle = refl
refusal_back ReservedPst cycle = refl
refusal_back MarkerTooSoon cycle = refl
refusal_back TraceCutShort cycle = refl
refusal_back BufferTooShort cycle = refl
refusal_back StateOutOfRange cycle = refl
refusal_back RequestOutOfRange cycle = refl
refusal_back ImpossibleReply cycle = refl

pub cycle_back : (g : Ground) (cycle : ℕ) → cycle < 10 ^ 20 → cycle_of (refused_at g cycle) ≡ cycle
unfolding digit_text digits_text width_from
cycle_back WordTooLarge cycle h = decimal_back cycle h
cycle_back WaitTooLarge cycle h = decimal_back cycle h
cycle_back MemoryTooLong cycle h = decimal_back cycle h
cycle_back EventWhileHalted cycle h = decimal_back cycle h
cycle_back OddPc cycle h = decimal_back cycle h
cycle_back ReservedSize cycle h = decimal_back cycle h
cycle_back TraceTooLong cycle h = decimal_back cycle h
cycle_back ReservedPst cycle h = decimal_back cycle h
cycle_back MarkerTooSoon cycle h = decimal_back cycle h
cycle_back TraceCutShort cycle h = decimal_back cycle h
cycle_back BufferTooShort cycle h = decimal_back cycle h
cycle_back StateOutOfRange cycle h = decimal_back cycle h
cycle_back RequestOutOfRange cycle h = decimal_back cycle h
cycle_back ImpossibleReply cycle h = decimal_back cycle h

-- the reply to a packet: both kinds begin with `re`
abbrev pub packet_of : List ℕ → Result ℕ Ground
packet_of text = cond (eqb (get_or text 2 0) 112) (Ok (value (drop 6 text))) (Err (refusal_of text))

-- five digits hold it
abbrev pub PacketHeld : Result ℕ Ground → Type 0
PacketHeld (Ok reply) = reply < 16 ^ 5
PacketHeld (Err why) = Unit

pub packet_back : (o : Result ℕ Ground) → PacketHeld o → packet_of (packet_text o) ≡ o
packet_back (Ok reply) held = ap Ok (hex_back 5 reply held)
packet_back (Err why) held = ap Err (refusal_back why 0)

-- what a request came to, by its first letter: `value`, `complete`, `bus-error`, `illegal`
abbrev pub outcome_of : List ℕ → Outcome
outcome_of text =
    cond (eqb (get_or text 0 0) 118) (Value (value (take 8 (drop 6 text))))
    (cond (eqb (get_or text 0 0) 99) Complete
    (cond (eqb (get_or text 0 0) 98) BusError Illegal))

-- where its number begins, behind a word of so many letters with its spaces
abbrev pub number_at : List ℕ → ℕ
number_at text =
    cond (eqb (get_or text 0 0) 118) 14
    (cond (eqb (get_or text 0 0) 99) 8
    (cond (eqb (get_or text 0 0) 98) 9 7))

abbrev pub OutcomeHeld : Outcome → Type 0
OutcomeHeld (Value v) = v < 16 ^ 8
OutcomeHeld Complete = Unit
OutcomeHeld BusError = Unit
OutcomeHeld Illegal = Unit

-- a reading: `not-yet` and `refused` are the others
abbrev pub reading_of : List ℕ → Result (Option Outcome × ℕ) Ground
reading_of text =
    cond (eqb (get_or text 0 0) 114) (Err (refusal_of text))
    (cond (eqb (get_or text 0 0) 110) (Ok (None, decimal_value (drop 13 text)))
    (Ok (Some (outcome_of text), decimal_value (drop (number_at text + 6) text))))

abbrev pub ReadingHeld : Result (Option Outcome × ℕ) Ground → Type 0
ReadingHeld (Ok (Some outcome, used)) = OutcomeHeld outcome × (used < 10 ^ 20)
ReadingHeld (Ok (None, used)) = used < 10 ^ 20
ReadingHeld (Err why) = Unit

pub reading_back : (r : Result (Option Outcome × ℕ) Ground) → ReadingHeld r → reading_of (reading_text r) ≡ r
unfolding digits_text
reading_back (Ok (Some (Value v), used)) held = rw (hex_back 8 v held.0, decimal_back used held.1)
reading_back (Ok (Some Complete, used)) held = rw (decimal_back used held.1)
reading_back (Ok (Some BusError, used)) held = rw (decimal_back used held.1)
reading_back (Ok (Some Illegal, used)) held = rw (decimal_back used held.1)
reading_back (Ok (None, used)) held = rw (decimal_back used held)
reading_back (Err why) held = ap Err (refusal_back why 0)

-- what an exchange came to, and its packets
pub exchange_back : (o : Outcome) (packets : ℕ) → OutcomeHeld o → packets < 10 ^ 20
    → (outcome_of (exchange_text o packets) ≡ o) × (decimal_value (drop (number_at (exchange_text o packets) + 9) (exchange_text o packets)) ≡ packets)
unfolding digits_text
exchange_back (Value v) packets held h = (ap Value (hex_back 8 v held), decimal_back packets h)
exchange_back Complete packets held h = (refl, decimal_back packets h)
exchange_back BusError packets held h = (refl, decimal_back packets h)
exchange_back Illegal packets held h = (refl, decimal_back packets h)

-- a digit is no `n`
digit_no_n : (d : ℕ) → d < 16 → eqb (digit_text d) 110 ≡ false
unfolding digit_text
digit_no_n d h = by_test (ltb d 10)
  where
    by_test : (t : Bool) → eqb (cond t (48 + d) (55 + d)) 110 ≡ false
    by_test true = ne_eqb (48 + d) 110 (λ e. omega arith)
    by_test false = ne_eqb (55 + d) 110 (λ e. omega arith)

-- an event's answer: the PC is `none`, or eight digits
abbrev pub captured_of : List ℕ → Option ℕ
captured_of text = cond (eqb (get_or text 4 0) 110) None (Some (value (take 8 (drop 4 text))))

-- what stands behind it of HALT ([6]): nothing, or its tenth byte is the digit
abbrev pub behind_captured : List ℕ → List ℕ
behind_captured text = drop (cond (eqb (get_or text 4 0) 110) 8 12) text

abbrev pub halting_of : List ℕ → Halting
halting_of text = cond (eqb (get_or text 9 0) 48) Halts (cond (eqb (get_or text 9 0) 49) Ignored NoHalt)

abbrev pub CapturedHeld : Option ℕ → Type 0
CapturedHeld None = Unit
CapturedHeld (Some pc) = pc < 16 ^ 8

halting_back_lem : (halting : Halting) → halting_of (halting_text halting) ≡ halting
halting_back_lem NoHalt = refl
halting_back_lem Halts = refl
halting_back_lem Ignored = refl

module _ (halting : Halting) where
  captured_back_lem : (captured : Option ℕ) → CapturedHeld captured → captured_of (captured_text captured ++ halting_text halting) ≡ captured
  unfolding digits_text
  captured_back_lem None held = refl
  captured_back_lem (Some pc) held = rw (digit_no_n (pc / 16 ^ 7 % 16) (mod-lt (pc / 16 ^ 7) (omega arith))) (ap Some (hex_back 8 pc held))

  behind_captured_lem : (captured : Option ℕ) → halting_of (behind_captured (captured_text captured ++ halting_text halting)) ≡ halting
  unfolding digits_text
  behind_captured_lem None = halting_back_lem halting
  behind_captured_lem (Some pc) = rw (digit_no_n (pc / 16 ^ 7 % 16) (mod-lt (pc / 16 ^ 7) (omega arith))) (halting_back_lem halting)

abbrev pub flag_at : List ℕ → ℕ → Bool
flag_at text at = eqb (get_or text at 0) 49

abbrev pub seen_of : List ℕ → Seen
seen_of text =
    record {
      level = value (take 1 (drop 12 text));
      halted = flag_at text 21;
      interrupt = flag_at text 33;
      captured = captured_of (drop 34 text);
      halting = halting_of (behind_captured (drop 34 text));
    }

abbrev pub SeenHeld : Seen → Type 0
SeenHeld seen = (seen.level < 16) × CapturedHeld seen.captured

module _ (level : ℕ) (captured : Option ℕ) (halting : Halting) (h : level < 16 ^ 1) (held : CapturedHeld captured) where
  abbrev flagged : Bool → Bool → Seen
  flagged halted interrupt = record { level = level; halted = halted; interrupt = interrupt; captured = captured; halting = halting }

  seen_by_flags : (halted interrupt : Bool) → seen_of (seen_text (flagged halted interrupt)) ≡ flagged halted interrupt
  unfolding digits_text
  seen_by_flags true true = rw (hex_back 1 level h, captured_back_lem halting captured held, behind_captured_lem halting captured)
  seen_by_flags true false = rw (hex_back 1 level h, captured_back_lem halting captured held, behind_captured_lem halting captured)
  seen_by_flags false true = rw (hex_back 1 level h, captured_back_lem halting captured held, behind_captured_lem halting captured)
  seen_by_flags false false = rw (hex_back 1 level h, captured_back_lem halting captured held, behind_captured_lem halting captured)

pub seen_back : (seen : Seen) → SeenHeld seen → seen_of (seen_text seen) ≡ seen
seen_back seen held = seen_by_flags seen.level seen.captured seen.halting held.0 held.1 seen.halted seen.interrupt

abbrev pub event_of : List ℕ → Result Seen Ground
event_of text = cond (eqb (get_or text 0 0) 114) (Err (refusal_of text)) (Ok (seen_of text))

abbrev pub EventHeld : Result Seen Ground → Type 0
EventHeld (Err why) = Unit
EventHeld (Ok seen) = SeenHeld seen

pub event_back : (o : Result Seen Ground) → EventHeld o → event_of (event_text o) ≡ o
event_back (Err why) held = ap Err (refusal_back why 0)
event_back (Ok seen) held = ap Ok (seen_back seen held)

-- the breakpoint input's answer
abbrev pub breakpoint_of : List ℕ → Result Pressed Ground
breakpoint_of text =
    cond (eqb (get_or text 0 0) 114) (Err (refusal_of text))
    (Ok (record { halted = flag_at text 18; interrupt = flag_at text 30 }))

pressed_by_flags : (halted interrupt : Bool)
    → breakpoint_of (pressed_text (record { halted = halted; interrupt = interrupt })) ≡ Ok (record { halted = halted; interrupt = interrupt })
pressed_by_flags true true = refl
pressed_by_flags true false = refl
pressed_by_flags false true = refl
pressed_by_flags false false = refl

pub breakpoint_back : (o : Result Pressed Ground) → breakpoint_of (breakpoint_text o) ≡ o
breakpoint_back (Err why) = ap Err (refusal_back why 0)
breakpoint_back (Ok pressed) = pressed_by_flags pressed.halted pressed.interrupt
