-- The answer to `packet X` is the text of the reply that the port gives and of no other; the same of a request in `talk`.
use Rattle.std.specs.Prelude.{ℕ, ◌+◌, ◌^◌, ◌≤◌, ◌<◌, ◌≡◌, refl, true, cond, ◌&&◌, List, [], ◌∷◌, ◌++◌, eqb, leb, length, get_or, take, drop, Err, Ok, Result}
use Rattle.std.specs.Prelude.{Some, ⊤}
use Rattle.grounds.specs.declared.Ground.{Ground}
use Rattle.std.proofs.Common.{ap, ◌∙◌, arith, leb-true}
use Rattle.std.proofs.Math.Path.{sym}
use Rattle.laws.specs.TestLaws.{both_hold}
use Rattle.grounds.specs.declared.Ground.TheVariants.{WordTooLarge, MemoryTooLong, StateOutOfRange}
use Rattle.grounds.specs.Grounds.{check}
use Rattle.grounds.specs.GroundLaws.{accepted_holds}
use Rattle.board.specs.declared.Board.{Board}
use Rattle.board.specs.declared.Place.{Place}
use Rattle.board.specs.declared.Phase.{Phase}
use Rattle.board.specs.declared.Phase.TheVariants.{Rest, Due, Waiting, Upper}
use Rattle.ranges.specs.Ranges.{phase_in_range, board_in_range, place_in_range, in_range}
use Rattle.board.specs.State.{State}
use Rattle.step.specs.Step.{reply_in, reply_now}
use Rattle.port.specs.declared.Answer.{Answer}
use Rattle.port.specs.Packet.{packet_verdict, answered, PacketMeets}
use Rattle.requests.specs.declared.Request.{Request}
use Rattle.request_lines.specs.RequestLines.{request_of_one}
use Rattle.exchange.specs.declared.Returned.{Returned}
use Rattle.exchange.specs.Exchange.{ExchangeMeets}
use Rattle.exchange.specs.ExchangeMirror.{Typed}
use Rattle.board_lines.specs.declared.BoardLine.TheVariants.{Packet}
use Rattle.words.specs.LineWords.{ascii, is_gap, lower, same}
use Rattle.text.specs.NumberText.{number_text}
use Rattle.replies.specs.ReplyText.{packet_text}
use Rattle.readings.specs.declared.Outcome.{Outcome as Closing}
use Rattle.readings.specs.declared.Outcome.TheVariants.{Value, Complete, BusError, Illegal}
use Rattle.text_laws.specs.ReadBackLaws.{decimal_value}
use Rattle.text_laws.specs.ToldBackLaws.{PacketHeld, refusal_of, refusal_back, outcome_of, number_at, exchange_back}
use Rattle.text_laws.specs.ToldUnique.{packet_text_unique}
use Rattle.answers.specs.declared.Bench.{Bench}
use Rattle.answers.specs.declared.Answered.{Answered}
use Rattle.answers.specs.Bench.{Left, port_state}
use Rattle.answers.specs.Said.{Answers}
use Rattle.line_answers.specs.LineSaid.{said}
use Rattle.text_laws.specs.TextUnique.{puts_unique}
use Rattle.answers.specs.SaidLaws.{packet_outcome_lem}
use Rattle.asking.specs.Asking.{exchanged_text, exchange_said}
use Rattle.asking.specs.AskingLaws.{exchange_outcome_lem}
use Rattle.languages.specs.declared.Language.TheVariants.{StandIn, Talk}
use Rattle.languages.specs.Heard.{heard_own, heard, said_to}
use Rattle.course.specs.Course.{told_text}
use Rattle.said_laws.specs.TypedLineLaws.{OneNumber, not_common, packet_heard, request_heard, number_typed}
use Rattle.said_laws.specs.ExchangeHeldLaws.{ExchangeHeld, exchange_held}

-- the reply that goes out fits five digits, where the place is in its ranges
reply_within : (phase : Phase) (next : ℕ) → next ≤ 0x1FFFF → reply_in phase next < 16 ^ 5
reply_within Rest next h = omega arith
reply_within (Due c left taken) next h = omega arith
reply_within (Waiting c left a d) next h = omega arith
reply_within (Upper low) next h = omega arith

next_within : (b : Board) (p : Place) → in_range b p ≡ true → p.next ≤ 0x1FFFF
unfolding in_range
next_within b p e =
    let place = (both_hold (board_in_range b) (place_in_range b.w p) e).1 in
    let rest = (both_hold (phase_in_range b.w p.phase && leb p.next 0x1FFFF) (leb p.pointer 65536) place).0 in
    leb-true p.next 0x1FFFF (both_hold (phase_in_range b.w p.phase) (leb p.next 0x1FFFF) rest).1

packet_held : (s : State) (word : ℕ) → PacketHeld (answered (packet_verdict s word) (reply_now s.place))
unfolding packet_verdict reply_now
packet_held s word = by_verdict (packet_verdict s word) refl
  where
    by_verdict : (v : Result ⊤ Ground) → packet_verdict s word ≡ v → PacketHeld (answered v (reply_now s.place))
    by_verdict (Ok _) e =
        let others = check (leb (length s.memory) 65536) MemoryTooLong ∷ check (leb word 0x1FFFF) WordTooLarge ∷ [] in
        let held = (accepted_holds (in_range s.board s.place) StateOutOfRange others e).0 in
        reply_within s.place.phase s.place.next (next_within s.board s.place held)
    by_verdict (Err why) e = tt

module _ (line : List ℕ) (word : ℕ) (bench : Bench) (m : List ℕ) {r : Answer} {after : List ℕ} where
  -- what is said is the text of what the port answered
  pub packet_said_unique : PacketMeets (port_state bench (take bench.lent m)) word r after
      → (said line (Packet word) bench m ≡ packet_text r.outcome)
      × ((o : Result ℕ Ground) → PacketHeld o → packet_text o ≡ said line (Packet word) bench m → o ≡ r.outcome)
  unfolding said
  packet_said_unique meets =
      let due = packet_outcome_lem meets in
      let held = packet_held (port_state bench (take bench.lent m)) word in
      (ap packet_text (sym due), λ o h e. packet_text_unique o _ h held e ∙ sym due)

-- so of every line that is `packet` and a number, however it is typed: the answer is the text of the reply that the port gives to that number
module _ {line name : List ℕ} {word : ℕ} (bench : Bench) (m : List ℕ) {r : Answer} {after : List ℕ} where
  pub packet_line_unique : OneNumber line name word → same name (ascii "packet") ≡ true → PacketMeets (port_state bench (take bench.lent m)) word r after
      → (told_text StandIn line bench m ≡ packet_text r.outcome)
      × ((o : Result ℕ Ground) → PacketHeld o → packet_text o ≡ told_text StandIn line bench m → o ≡ r.outcome)
  unfolding heard heard_own said_to
  packet_line_unique typed named meets = rw (not_common typed, packet_heard typed named) (packet_said_unique line word bench m meets)

pub packet_typed_unique : (word : ℕ) → word ≤ 0xFFFFFFFF → (bench : Bench) (m : List ℕ) {r : Answer} {after : List ℕ}
    → PacketMeets (port_state bench (take bench.lent m)) word r after
    → (told_text StandIn (ascii "packet " ++ number_text word) bench m ≡ packet_text r.outcome)
    × ((o : Result ℕ Ground) → PacketHeld o → packet_text o ≡ told_text StandIn (ascii "packet " ++ number_text word) bench m → o ≡ r.outcome)
unfolding is_gap lower
packet_typed_unique word fits bench m meets = packet_line_unique bench m (number_typed (ascii "packet") word refl refl (omega arith) fits) refl meets

-- and of a request in talk
abbrev exchanged_of : List ℕ → Result (Closing × ℕ) Ground
exchanged_of text =
    cond (eqb (get_or text 0 0) 114) (Err (refusal_of text))
    (Ok (outcome_of text, decimal_value (drop (number_at text + 9) text)))

same_ended : (o q : Closing) (m n : ℕ) → o ≡ q → m ≡ n → ◌≡◌ {A = Result (Closing × ℕ) Ground} (Ok (o, m)) (Ok (q, n))
same_ended o q m n e f = cc

exchanged_back : (x : Result (Closing × ℕ) Ground) → ExchangeHeld x → exchanged_of (exchanged_text x) ≡ x
exchanged_back (Ok (Value v, packets)) held =
    let back = exchange_back (Value v) packets held.0 held.1 in same_ended _ _ _ _ back.0 back.1
exchanged_back (Ok (Complete, packets)) held =
    let back = exchange_back Complete packets held.0 held.1 in same_ended _ _ _ _ back.0 back.1
exchanged_back (Ok (BusError, packets)) held =
    let back = exchange_back BusError packets held.0 held.1 in same_ended _ _ _ _ back.0 back.1
exchanged_back (Ok (Illegal, packets)) held =
    let back = exchange_back Illegal packets held.0 held.1 in same_ended _ _ _ _ back.0 back.1
exchanged_back (Err why) held = ap Err (refusal_back why 0)

pub exchanged_unique : (x y : Result (Closing × ℕ) Ground) → ExchangeHeld x → ExchangeHeld y → exchanged_text x ≡ exchanged_text y → x ≡ y
exchanged_unique x y h k e = sym (exchanged_back x h) ∙ ap exchanged_of e ∙ exchanged_back y k

module _ (request : Request) (bench : Bench) (m : List ℕ) {r : Returned} {after : List ℕ} where
  -- the state is one that the types allow, and so what is answered fits its digits
  pub exchange_said_unique : ExchangeMeets request (port_state bench (take bench.lent m)) r after → Typed (port_state bench (take bench.lent m))
      → (exchange_said request bench (take bench.lent m) ≡ exchanged_text r.answer)
      × ((x : Result (Closing × ℕ) Ground) → ExchangeHeld x → exchanged_text x ≡ exchange_said request bench (take bench.lent m) → x ≡ r.answer)
  exchange_said_unique meets typed =
      let answer = exchange_outcome_lem meets in
      let held : ExchangeHeld r.answer = rw answer (exchange_held request (port_state bench (take bench.lent m)) typed) in
      let said = ap exchanged_text (sym (exchange_outcome_lem meets)) in
      (said, λ x h e. exchanged_unique x r.answer h held (e ∙ said))

-- so of every line that asks for a request by a name and a number, however it is typed
module _ {line name : List ℕ} {n : ℕ} (request : Request) (bench : Bench) (m : List ℕ) {r : Returned} {after : List ℕ} where
  pub request_line_unique : OneNumber line name n → request_of_one name n ≡ Some request → ExchangeMeets request (port_state bench (take bench.lent m)) r after
      → Typed (port_state bench (take bench.lent m))
      → (told_text Talk line bench m ≡ exchanged_text r.answer)
      × ((x : Result (Closing × ℕ) Ground) → ExchangeHeld x → exchanged_text x ≡ told_text Talk line bench m → x ≡ r.answer)
  unfolding heard heard_own said_to
  request_line_unique typed asked meets held =
      rw (not_common typed, request_heard typed request asked) (exchange_said_unique request bench m meets held)

-- a line answered: no second bench, memory or text fit
pub answers_unique : {left : Left} {text buffer : List ℕ} {r s : Answered} {m n a b : List ℕ} → Answers left text buffer r m a → Answers left text buffer s n b
    → (r ≡ s) × (m ≡ n) × (a ≡ b)
answers_unique {r = r} {s = s} f g =
    let told = puts_unique f.text g.text in (
      ap (λ (bench : Bench). record { bench = bench; end = r.end }) (f.bench ∙ sym g.bench)
          ∙ ap (λ (end : ℕ). record { bench = s.bench; end = end }) told.1,
      f.memory ∙ sym g.memory,
      told.0,
    )
