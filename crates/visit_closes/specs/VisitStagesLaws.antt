-- A visit's stages, joined with the stand-in: what each says of the port and of demand 3's last command word, packet by packet.
use Rattle.std.specs.Prelude.{ℕ, zero, suc, ◌-◌, ◌≤◌, ◌≡◌, refl, true, false, cond, List, eqb, leb, ltb, get_or}
use Rattle.std.proofs.Common.{arith, sym, ap, ◌∙◌, subst, true≢false, eqb-true, ltb-false, lt-ltb, ne_eqb}
use Rattle.laws.specs.TestLaws.{by_test, either}
use Rattle.command.specs.Reply.{complete}
use Rattle.board.specs.declared.Phase.TheVariants.{Rest}
use Rattle.board.specs.Board.{at_rest}
use Rattle.board.specs.State.{State}
use Rattle.step.specs.Step.{reply_now, stepped}
use Rattle.sound.specs.Sound.{Sound}
use Rattle.sound.specs.SoundLaws.{packet_keeps_sound, packet_keeps_w}
use Rattle.rest.specs.ToGoLaws.{to_go, to_go_at_most, none_to_go}
use Rattle.rest.specs.NopLaws.{nop_takes_one_off}
use Rattle.building.specs.RequestWords.{command_word, built_words}
use Rattle.readings.specs.declared.Outcome.{Outcome}
use Rattle.readings.specs.declared.Reader.{Reader}
use Rattle.readings.specs.declared.Reader.TheVariants.{First, Second, Closed, Bad}
use Rattle.readings.specs.Reader.{done}
use Rattle.requests.specs.Request.{kind_of}
use Rattle.asked.specs.VisitRequests.{marked}
use Rattle.asked.specs.Marker.{nops_to_rest, illegal_at, last_at, illegal_word, mark_word, mark_holds}
use Rattle.visit.specs.declared.Stage.{Stage}
use Rattle.visit.specs.declared.Stage.TheVariants.{Marking, Asking, AsRead, NotRead}
use Rattle.visit.specs.declared.Reason.TheVariants.{Late, NotReady}
use Rattle.visit.specs.declared.Visit.{Visit}
use Rattle.visit.specs.Visit.{request_now, packet_by, patience, on_stage, after_marker, is_illegal, afterwards, ends_after, notable, closed_by}
use Rattle.visit.specs.Visit.{read_by, reader_after}
use Rattle.visit.specs.Visit as visit
use Rattle.round_trip.specs.RoundTrip.{scene_of, standing_in}
use Rattle.round_trip.specs.PacketTakenLaws.{illegal_taken}
use Rattle.round_trip.proofs.BroughtToRestLaws.{rest_is_resting}
use Rattle.joined.specs.Joined.{word_of}
use Rattle.asked.specs.RequestAtLaws.{asked_in_range}
use Rattle.joined.specs.MarkerJoinedLaws.{no_command}
use Rattle.promises.specs.TakenWords.{Word}
use Rattle.promises.specs.Environment.{heard}
use Rattle.promises.specs.Demand3.{last_closed}
use Rattle.promises.proofs.PlaceTellsLaws.{PlaceTells}
use Rattle.visit_closes.specs.RequestPhasesLaws.{reader_next}
use Rattle.visit_closes.specs.TrailStepsLaws.{found_in}
use Rattle.visit_closes.specs.RequestUnderWayLaws.{Under, command_under, under_on, goes_ends}

-- ---- a marker
abbrev pub to_rest : State → ℕ
to_rest s = to_go s.board.w s.place.phase

at_rest_by : {s : State} → Sound s → to_rest s ≤ 0 → at_rest s.place.phase ≡ true
at_rest_by {s} f none = ap at_rest (none_to_go s.board.w s.place.phase f.place.phase none)

illegal_rests : (s : State) → at_rest s.place.phase ≡ true → (stepped s illegal_word).place.phase ≡ Rest
illegal_rests s t =
    ap (λ (x : State). (stepped x illegal_word).place.phase) (rest_is_resting s t)
    ∙ ap (λ (x : State). x.place.phase) (illegal_taken illegal_word s.place.next (scene_of s) (no_command (standing_in (scene_of s))))

-- a packet of it takes one off what is to go to rest; its illegal word finds the port at rest, and leaves it so
mark_leaves : (i : ℕ) {s : State} → Sound s → to_rest s ≤ nops_to_rest - i → to_rest (stepped s (mark_word i)) ≤ nops_to_rest - suc i
unfolding mark_word
mark_leaves i {s} f few =
    either (λ word. to_rest (stepped s word) ≤ nops_to_rest - suc i) (eqb i illegal_at) illegal_word 0
    (λ e.
    let late : i ≡ 21 = eqb-true i illegal_at e in
    rw (illegal_rests s (at_rest_by f (omega arith))) (omega arith))
    (λ e.
    rw (packet_keeps_w s 0) (omega (arith, nop_takes_one_off s.board.w s refl f.place.phase)))

pub most_to_rest : {s : State} → Sound s → to_rest s ≤ nops_to_rest
most_to_rest {s} f = omega (arith, to_go_at_most s.board.w s.place.phase f.place.phase, f.board.small)

-- ---- what the visit's stage says of the port and of the last command word
abbrev pub Stands : Visit → Stage → State → List Word → Type 0
Stands v (Marking i) s words = to_rest s ≤ nops_to_rest - i
Stands v (Asking zero reader) s words = (reader ≡ First) × (at_rest s.place.phase ≡ true)
Stands v (Asking (suc sent) reader) s words = Under (request_now v) (suc sent) reader s words
Stands v AsRead s words = Unit {0}
Stands v (NotRead reason) s words = Unit {0}

-- of a visit as it is
abbrev pub StandsNow : Visit → State → List Word → Type 0
StandsNow v s words = Stands v v.stage s words

-- a request is closed
closed_stands : (v : Visit) (o : Outcome) (words : List Word) {s : State} → Sound s → (is_illegal o ≡ false → at_rest s.place.phase ≡ true)
    → StandsNow (closed_by v o) s words
unfolding closed_by
closed_stands v o words {s} f rests =
    let ends = ends_after o v.ends v.at in
    let at = afterwards v.ends v.at in
    by_test (notable o v.at)
    (λ n.
    rw n
    (by_test (is_illegal o)
    (λ i. rw i (most_to_rest f))
    (λ i.
    by_test (marked ends at) (λ m. rw (i, m) (most_to_rest f)) (λ m. rw (i, m) (refl, rests i)))))
    (λ n. rw n tt)

-- ---- a packet more
-- the visit is told the port's own reply, and the word is heard as demand 3 has it
module _ (w : ℕ) (v : Visit) {s : State} (f : Sound s) (words : List Word) (tells : PlaceTells w s.place words)
    (rests : at_rest s.place.phase ≡ last_closed words) where
  abbrev words_after : ℕ → List Word
  words_after word = heard (found_in s word) s.place words

  marked_stands : (i : ℕ) → to_rest s ≤ nops_to_rest - i
      → StandsNow (visit.heard_at v (Marking i) (reply_now s.place)) (stepped s (mark_word i)) (words_after (mark_word i))
  marked_stands i few =
      let s' = stepped s (mark_word i) in
      let later = words_after (mark_word i) in
      let f' = packet_keeps_sound f (mark_word i) in
      let less = mark_leaves i f few in
      let to : Stage → Type 0 = λ x. Stands (on_stage v x) x s' later in
      either to (mark_holds i (reply_now s.place)) (cond (ltb i last_at) (Marking (suc i)) (after_marker v.ends v.at)) (NotRead Late)
      (λ e.
      either to (ltb i last_at) (Marking (suc i)) (after_marker v.ends v.at)
      (λ l. less)
      (λ l.
      either to (leb v.ends v.at) AsRead (Asking 0 First)
      (λ e. tt) (λ e. (refl, at_rest_by f' (omega (arith, ltb-false i last_at l))))))
      (λ e. tt)

  command_stands : (reader : Reader) → (reader ≡ First) × (at_rest s.place.phase ≡ true)
      → StandsNow (visit.heard_at v (Asking 0 reader) (reply_now s.place)) (stepped s (command_word (request_now v)))
      (words_after (command_word (request_now v)))
  command_stands reader h =
      let s' = stepped s (command_word (request_now v)) in
      let later = words_after (command_word (request_now v)) in
      either (λ (x : Stage). Stands (on_stage v x) x s' later) (eqb (reply_now s.place) complete) (Asking 1 First) (NotRead Late)
      (λ e. command_under (request_now v) (asked_in_range v.address v.at) f h.1 words (sym rests ∙ h.1))
      (λ e. tt)

  module _ (sent : ℕ) (reader : Reader) (u : Under (request_now v) (suc sent) reader s words) where
    abbrev sends_now : ℕ
    sends_now = get_or (built_words (request_now v)) (suc sent) 0

    goes_on : (x : Reader) → reader_next (kind_of (request_now v)) reader s ≡ x → done x ≡ false
        → (suc sent ≤ 21) × Under (request_now v) (suc (suc sent)) x (stepped s sends_now) (words_after sends_now)
    goes_on x e more =
        subst (λ (y : Reader). (suc sent ≤ 21) × Under (request_now v) (suc (suc sent)) y (stepped s sends_now) (words_after sends_now)) e
        (under_on w (request_now v) (suc sent) reader s words u tells (ap done e ∙ more))

    read_stands : (x : Reader) → reader_next (kind_of (request_now v)) reader s ≡ x
        → StandsNow (read_by v (suc sent) x) (stepped s sends_now) (words_after sends_now)
    read_stands First e =
        either (λ (x : Stage). Stands (on_stage v x) x (stepped s sends_now) (words_after sends_now)) (ltb (suc sent) patience) (Asking (suc (suc sent)) First)
        (NotRead NotReady) (λ l. (goes_on First e refl).1) (λ l. tt)
    read_stands (Second upper) e =
        let on = goes_on (Second upper) e refl in rw (lt-ltb (suc sent) patience (omega (arith, on.0))) on.1
    read_stands (Closed o) e =
        closed_stands v o (words_after sends_now) (packet_keeps_sound f sends_now)
        ((goes_ends w (request_now v) (suc sent) reader s u.word u.goes (ap done e)).left o e)
    read_stands (Bad why) e = tt

    asked_stands : StandsNow (visit.heard_at v (Asking (suc sent) reader) (reply_now s.place)) (stepped s sends_now) (words_after sends_now)
    asked_stands = rw (ne_eqb (suc sent) 0 (omega arith)) (read_stands (reader_after v reader (reply_now s.place)) refl)

  pub stands_on : (stage : Stage) → visit.is_over stage ≡ false → Stands v stage s words
      → StandsNow (visit.heard_at v stage (reply_now s.place)) (stepped s (word_of (packet_by v stage))) (words_after (word_of (packet_by v stage)))
  stands_on (Marking i) on h = marked_stands i h
  stands_on (Asking zero reader) on h = command_stands reader h
  stands_on (Asking (suc sent) reader) on h = asked_stands sent reader h
  stands_on AsRead on h = absurd (true≢false on)
  stands_on (NotRead reason) on h = absurd (true≢false on)
