-- A request under way and demand 3's last command word: it is the request's own, from the packet after the command word to the closing reply.
use Prim.Native.Nat.{ℕ, zero, suc, ◌+◌, ◌≤◌}
use native.Mathlib.Omega.{arith}
use Rattle.std.proofs.Common.{add-zero, ap₂, ◌∙◌, true≢false, append-nil, append_assoc}
use Rattle.std.specs.Prelude.{◌≡◌, refl, true, false, cond, List, [], ◌∷◌, ◌++◌, length}
use Rattle.std.proofs.Math.Path.{sym, ap, subst}
use Rattle.std.proofs.Math.ListN.{get_or}
use Rattle.laws.specs.TestLaws.{by_test}
use Rattle.board.specs.Board.{at_rest}
use Rattle.board.specs.State.{State}
use Rattle.plan.specs.Plan.{legal_word}
use Rattle.step.specs.Step.{reply_now, stepped}
use Rattle.sound.specs.Sound.{Sound}
use Rattle.requests.specs.declared.Request.{Request}
use Rattle.requests.specs.Request.{in_range, kind_of}
use Rattle.building.specs.RequestWords.{command_word, operands, built_words}
use Rattle.readings.specs.declared.Outcome.{Outcome}
use Rattle.readings.specs.declared.Outcome.TheVariants.{Illegal}
use Rattle.readings.specs.declared.Reader.{Reader}
use Rattle.readings.specs.declared.Reader.TheVariants.{First, Second, Closed, Bad}
use Rattle.readings.specs.Reader.{done}
use Rattle.pod_laws.specs.RequestCountLaws.{word_count_bound}
use Rattle.visit.specs.Visit.{is_illegal}
use Rattle.round_trip.specs.RoundTrip.{resting, scene_of, legal_there}
use Rattle.round_trip.proofs.MeantWorkLaws.{sound_is_sized}
use Rattle.round_trip.specs.PacketTakenLaws.{illegal_taken, nop_at_rest}
use Rattle.round_trip.proofs.BroughtToRestLaws.{rest_is_resting}
use Rattle.promises.specs.TakenWords.{Word}
use Rattle.promises.specs.Environment.{begins, heard}
use Rattle.promises.specs.Demand3.{last_closed}
use Rattle.promises.proofs.PlaceTellsLaws.{PlaceTells}
use Rattle.visit_closes.specs.RequestPhasesLaws.{reader_next, Ahead, waits_there, waits_bound, legal_ahead}
use Rattle.visit_closes.specs.TrailStepsLaws.{HeardAs, heard_operand, heard_ignored, heard_begins, found_in}

-- a NOP at rest leaves the port at rest
pub rests_on : (s : State) → at_rest s.place.phase ≡ true → at_rest (stepped s 0).place.phase ≡ true
rests_on s t =
    ap (λ (x : State). at_rest (stepped x 0).place.phase) (rest_is_resting s t)
    ∙ ap (λ (x : State). at_rest x.place.phase) (nop_at_rest (scene_of s) s.place.next)

-- ---- where a request stands, so many of whose packets are answered
module _ (r : Request) (sent : ℕ) (reader : Reader) (s : State) (word : Word) where
  -- the command word was legal
  pub record LegalAhead : Type 0 where
    pub due : List ℕ
    pub waits : ℕ
    pub ahead : Ahead (kind_of r) due waits reader s
    -- the operands taken and those still due are the request's
    pub whole : word.operands ++ due ≡ operands r
    -- what is sent from here on: those, and then NOPs
    pub sends : (k : ℕ) → get_or (built_words r) (sent + k) 0 ≡ get_or due k 0
    pub few : sent + length due + waits ≤ 21

  -- it was illegal
  pub record IllegalAhead : Type 0 where
    pub none : word.operands ≡ []
    pub rests : at_rest s.place.phase ≡ true
    pub answer : reader_next (kind_of r) reader s ≡ Closed Illegal

  pub data Goes : Type 0 where
    legally : legal_word word.packet word.standing ≡ true → LegalAhead → Goes
    illegally : legal_word word.packet word.standing ≡ false → IllegalAhead → Goes

  -- its last reply is the next
  pub record Ends : Type 0 where
    pub rests : at_rest s.place.phase ≡ true
    pub whole : word.operands ≡ cond (legal_word word.packet word.standing) (operands r) []
    -- but for an illegal one the port stays at rest
    pub left : (o : Outcome) → reader_next (kind_of r) reader s ≡ Closed o → is_illegal o ≡ false
        → at_rest (stepped s (get_or (built_words r) sent 0)).place.phase ≡ true

pub record Under (r : Request) (sent : ℕ) (reader : Reader) (s : State) (words : List Word) : Type 0 where
  pub word : Word
  pub earlier : List Word
  pub last : words ≡ word ∷ earlier
  pub command : word.packet ≡ command_word r
  pub goes : Goes r sent reader s word

-- ---- the command word is taken
module _ (r : Request) (h : in_range r ≡ true) {s : State} (f : Sound s) (t : at_rest s.place.phase ≡ true) where
  begun_goes : Goes r 1 First (stepped s (command_word r)) (begins (found_in s (command_word r)) s.place)
  unfolding reply_now
  begun_goes =
      let next = s.place.next in
      let here : (word : ℕ) → stepped (resting (scene_of s) next) word ≡ stepped s word = λ word. ap (λ x. stepped x word) (sym (rest_is_resting s t)) in
      let after = stepped s (command_word r) in
      let word = begins (found_in s (command_word r)) s.place in
      by_test (legal_there r (scene_of s))
      (λ l.
      let z = sound_is_sized f in
      let n = waits_there r (scene_of s) next h l z in
      legally l
      (record {
        due = operands r;
        waits = n;
        ahead = subst (λ x. Ahead (kind_of r) (operands r) n First x) (here (command_word r)) (legal_ahead r (scene_of s) next h l z);
        whole = refl;
        sends = λ k. let on : 1 + k ≡ suc k = omega arith in ap (λ i. get_or (built_words r) i 0) on;
        few = omega (arith, word_count_bound r, waits_bound r (scene_of s) next h l z f.board.small);
      }))
      (λ l.
      let left = sym (here (command_word r)) ∙ illegal_taken (command_word r) next (scene_of s) l in
      illegally l
      (record {
        none = refl;
        rests = ap (λ (x : State). at_rest x.place.phase) left;
        answer = ap (λ (x : State). reader_next (kind_of r) First x) left;
      }))

  pub command_under : (words : List Word) → last_closed words ≡ true
      → Under r 1 First (stepped s (command_word r)) (heard (found_in s (command_word r)) s.place words)
  command_under words c =
      record {
        word = begins (found_in s (command_word r)) s.place;
        earlier = words;
        last = heard_begins (found_in s (command_word r)) s.place words c;
        command = refl;
        goes = begun_goes;
      }

-- ---- a packet more
module _ (w : ℕ) (r : Request) (sent : ℕ) (reader : Reader) (s : State) where
  abbrev sends_now : ℕ
  sends_now = get_or (built_words r) sent 0

  abbrev reader' : Reader
  reader' = reader_next (kind_of r) reader s

  abbrev s' : State
  s' = stepped s sends_now

  module _ (o : Word) (os : List Word) (command : o.packet ≡ command_word r) (legal : legal_word o.packet o.standing ≡ true)
      (tells : PlaceTells w s.place (o ∷ os)) where
    -- the word goes on with so many operands taken, so many due
    word_on : (taken due : List ℕ) (n : ℕ) → HeardAs o taken os (heard (found_in s sends_now) s.place (o ∷ os))
        → Ahead (kind_of r) due n reader' s' → taken ++ due ≡ operands r
        → ((k : ℕ) → get_or (built_words r) (suc sent + k) 0 ≡ get_or due k 0) → suc sent + length due + n ≤ 21
        → Under r (suc sent) reader' s' (heard (found_in s sends_now) s.place (o ∷ os))
    word_on taken due n h ahead whole sends few =
        record {
          word = h.word;
          earlier = os;
          last = h.last;
          command = h.packet ∙ command;
          goes = legally (ap₂ legal_word h.packet h.standing ∙ legal)
              (record {
                due = due;
                waits = n;
                ahead = ahead;
                whole = ap (λ (l : List ℕ). l ++ due) h.operands ∙ whole;
                sends = sends;
                few = few;
              });
        }

    legal_on : (due : List ℕ) (n : ℕ) → Ahead (kind_of r) due n reader s → o.operands ++ due ≡ operands r
        → ((k : ℕ) → get_or (built_words r) (sent + k) 0 ≡ get_or due k 0) → sent + length due + n ≤ 21 → done reader' ≡ false
        → Under r (suc sent) reader' s' (heard (found_in s sends_now) s.place (o ∷ os))
    legal_on [] zero ahead whole sends few more = absurd (true≢false (sym ahead.1 ∙ more))
    legal_on [] (suc n) ahead whole sends few more =
        let nop : sends_now ≡ 0 = ap (λ i. get_or (built_words r) i 0) (sym (add-zero sent)) ∙ sends 0 in
        word_on o.operands [] n (heard_ignored w (found_in s sends_now) s.place o os s.place.phase s.place.next ahead.0 tells)
        (subst (λ x. Ahead (kind_of r) [] n reader' (stepped s x)) (sym nop) ahead.2)
        whole
        (λ k. let on : suc sent + k ≡ sent + suc k = omega arith in ap (λ i. get_or (built_words r) i 0) on ∙ sends (suc k))
        (omega arith)
    legal_on (x ∷ xs) n ahead whole sends few more =
        let operand : sends_now ≡ x = ap (λ i. get_or (built_words r) i 0) (sym (add-zero sent)) ∙ sends 0 in
        word_on (o.operands ++ (sends_now ∷ [])) xs n
        (heard_operand w (found_in s sends_now) s.place o os s.place.phase s.place.next ahead.0 tells)
        (subst (λ y. Ahead (kind_of r) xs n reader' (stepped s y)) (sym operand) ahead.2)
        (append_assoc o.operands (sends_now ∷ []) xs ∙ ap (λ y. o.operands ++ (y ∷ xs)) operand ∙ whole)
        (λ k. let on : suc sent + k ≡ sent + suc k = omega arith in ap (λ i. get_or (built_words r) i 0) on ∙ sends (suc k))
        (omega arith)

  goes_on : (o : Word) (os : List Word) → o.packet ≡ command_word r → Goes r sent reader s o → PlaceTells w s.place (o ∷ os) → done reader' ≡ false
      → (sent ≤ 21) × Under r (suc sent) reader' s' (heard (found_in s sends_now) s.place (o ∷ os))
  goes_on o os command (legally legal g) tells more =
      (omega (arith, g.few), legal_on o os command legal tells g.due g.waits g.ahead g.whole g.sends g.few more)
  goes_on o os command (illegally legal g) tells more = absurd (true≢false (sym (ap done g.answer) ∙ more))

  pub under_on : (words : List Word) → Under r sent reader s words → PlaceTells w s.place words → done reader' ≡ false
      → (sent ≤ 21) × Under r (suc sent) reader' s' (heard (found_in s sends_now) s.place words)
  under_on words u tells more =
      subst (λ (ws : List Word). (sent ≤ 21) × Under r (suc sent) reader' s' (heard (found_in s sends_now) s.place ws)) (sym u.last)
      (goes_on u.word u.earlier u.command u.goes (subst (λ (ws : List Word). PlaceTells w s.place ws) u.last tells) more)

  -- ---- the last packet
  legal_ends : (o : Word) → legal_word o.packet o.standing ≡ true → (due : List ℕ) (n : ℕ) → Ahead (kind_of r) due n reader s
      → o.operands ++ due ≡ operands r → ((k : ℕ) → get_or (built_words r) (sent + k) 0 ≡ get_or due k 0) → done reader' ≡ true → Ends r sent reader s o
  legal_ends o legal [] zero ahead whole sends over =
      let nop : sends_now ≡ 0 = ap (λ i. get_or (built_words r) i 0) (sym (add-zero sent)) ∙ sends 0 in
      record {
        rests = ahead.0;
        whole = sym (append-nil o.operands) ∙ whole ∙ rw legal;
        left = λ outcome e i. ap (λ x. at_rest (stepped s x).place.phase) nop ∙ rests_on s ahead.0;
      }
  legal_ends o legal [] (suc n) ahead whole sends over = absurd (true≢false (sym over ∙ ahead.1))
  legal_ends o legal (x ∷ xs) n ahead whole sends over = absurd (true≢false (sym over ∙ ahead.1))

  pub goes_ends : (o : Word) → Goes r sent reader s o → done reader' ≡ true → Ends r sent reader s o
  goes_ends o (legally legal g) over = legal_ends o legal g.due g.waits g.ahead g.whole g.sends over
  goes_ends o (illegally legal g) over =
      record {
        rests = g.rests;
        whole = g.none ∙ rw legal;
        left = λ outcome e i. absurd (true≢false (illegal_outcome outcome (sym g.answer ∙ e) ∙ i));
      }
    where
      outcome_in : Reader → Outcome
      outcome_in First = Illegal
      outcome_in (Second upper) = Illegal
      outcome_in (Closed outcome) = outcome
      outcome_in (Bad why) = Illegal

      illegal_outcome : (outcome : Outcome) → Closed Illegal ≡ Closed outcome → true ≡ is_illegal outcome
      illegal_outcome outcome e = ap (λ (x : Reader). is_illegal (outcome_in x)) e
