-- A gateway's visit and demand 3: whatever it notes is the closing reply of its own request's command word, for every W and every history before it.
use Rattle.std.specs.Prelude.{ℕ, zero, suc, ◌+◌, ◌-◌, ◌≤◌, ◌<◌, ◌≡◌, refl, true, false, cond, List, [], ◌∷◌, eqb, leb, length}
use Rattle.std.proofs.Common.{arith, sym, ap, ◌∙◌, subst, true≢false, ne_eqb}
use Rattle.laws.specs.TestLaws.{by_test}
use Rattle.board.specs.declared.Place.{Place}
use Rattle.board.specs.Board.{at_rest}
use Rattle.board.specs.State.{State}
use Rattle.plan.specs.Plan.{legal_word}
use Rattle.step.specs.Step.{reply_now}
use Rattle.requests.specs.declared.Request.{Request}
use Rattle.building.specs.RequestWords.{command_word, operands}
use Rattle.readings.specs.declared.Reader.{Reader}
use Rattle.readings.specs.declared.Reader.TheVariants.{First, Second, Closed, Bad}
use Rattle.readings.specs.Reader.{done}
use Rattle.visit.specs.declared.Stage.{Stage}
use Rattle.visit.specs.declared.Stage.TheVariants.{Marking, Asking, AsRead, NotRead}
use Rattle.visit.specs.declared.Visit.{Visit}
use Rattle.visit.specs.Visit.{request_now, is_over, reader_after, noted_by, noted_at}
use Rattle.visit.specs.Visit as visit
use Rattle.joined.specs.Joined.{Joined, exchanged_for, onward, joined}
use Rattle.joined.specs.VisitReads.{starts_at}
use Rattle.promises.specs.Machine.{stand_in}
use Rattle.promises.specs.TakenWords.{Word, stage}
use Rattle.promises.specs.TakenWords.Closing.{reply}
use Rattle.promises.specs.Environment.{Found, Trail, noted, trail, begun}
use Rattle.promises.specs.History.{Lent, Call, after, finds, made}
use Rattle.promises.proofs.HistoryLaws.{fresh_fits, history_fits, finds_fit, place_of_trail}
use Rattle.promises.specs.RunHistory.{packets_of}
use Rattle.promises.proofs.PlaceClosingLaws.{kept_from_fresh, place_closes_kept}
use Rattle.promises.specs.Demand3.{last_closed, trail_of}
use Rattle.visit_closes.specs.NotedReplies.{sent_by, is_closed, notes_at, notes_now, found_by_visit, met, calls_before, words_before, NotedIsClosing}
use Rattle.visit_closes.specs.FoundByVisitLaws.{found_sound, visit_is_its_packets}
use Rattle.visit_closes.specs.TrailStepsLaws.{heard_begins, trail_goes_on, finds_lending}
use Rattle.visit_closes.specs.RequestUnderWayLaws.{goes_ends}
use Rattle.visit_closes.specs.VisitStagesLaws.{most_to_rest, Stands}
use Rattle.visit_closes.specs.VisitTrailLaws.{sends, along, Follows, follows_along, trail_along, along_next, along_adds, along_more}

-- ---- a reply that is noted
closed_is_done : (x : Reader) → is_closed x ≡ true → done x ≡ true
closed_is_done First h = h
closed_is_done (Second upper) h = h
closed_is_done (Closed outcome) h = refl
closed_is_done (Bad why) h = refl

-- the request under way ends with it
record Noted (r : Request) (s : State) (words : List Word) : Type 0 where
  word : Word
  earlier : List Word
  last : words ≡ word ∷ earlier
  command : word.packet ≡ command_word r
  sent : word.operands ≡ cond (legal_word word.packet word.standing) (operands r) []
  rests : at_rest s.place.phase ≡ true

noted_by_lem : (w : ℕ) (v : Visit) (stage : Stage) (s : State) (words : List Word) → Stands v stage s words → notes_at v stage (reply_now s.place) ≡ true
    → Noted (request_now v) s words
noted_by_lem w v (Marking i) s words h n = absurd (true≢false (sym n))
noted_by_lem w v (Asking zero reader) s words h n = absurd (true≢false (sym n))
noted_by_lem w v (Asking (suc sent) reader) s words u n =
    let over = closed_is_done (reader_after v reader (reply_now s.place)) (rw (ne_eqb (suc sent) 0 (omega arith)) at n) in
    let e = goes_ends w (request_now v) (suc sent) reader s u.word u.goes over in
    record { word = u.word; earlier = u.earlier; last = u.last; command = u.command; sent = e.whole; rests = e.rests }
noted_by_lem w v AsRead s words h n = absurd (true≢false (sym n))
noted_by_lem w v (NotRead reason) s words h n = absurd (true≢false (sym n))

not_over : (v : Visit) (stage : Stage) (answer : ℕ) → notes_at v stage answer ≡ true → is_over stage ≡ false
not_over v (Marking i) answer n = refl
not_over v (Asking sent reader) answer n = refl
not_over v AsRead answer n = absurd (true≢false (sym n))
not_over v (NotRead reason) answer n = absurd (true≢false (sym n))

-- nothing else is noted
kept_by : (j : ℕ) (x : Reader) (notes : List ℕ) → is_closed x ≡ false → noted_by j x notes ≡ notes
kept_by j First notes n = refl
kept_by j (Second upper) notes n = refl
kept_by j (Closed outcome) notes n = absurd (true≢false n)
kept_by j (Bad why) notes n = refl

kept_at : (v : Visit) (stage : Stage) (answer : ℕ) (notes : List ℕ) → notes_at v stage answer ≡ false → noted_at v stage answer notes ≡ notes
kept_at v (Marking i) answer notes n = refl
kept_at v (Asking sent reader) answer notes n =
    by_test (eqb sent 0) (λ e. rw e) (λ e. rw e (kept_by v.at (reader_after v reader answer) notes (rw e at n)))
kept_at v AsRead answer notes n = refl
kept_at v (NotRead reason) answer notes n = refl

-- Where `notes_now` says no, the notes stay as they are.
pub notes_else_stay : (j : Joined) → notes_now j ≡ false → (onward j).notes ≡ j.notes
unfolding exchanged_for visit.noted
notes_else_stay j n =
    let answer = reply_now j.port.place in
    by_test (is_over j.visit.stage) (λ over. rw over)
    (λ on. by_test (leb answer 0x1FFFF) (λ l. rw (on, l) (kept_at j.visit j.visit.stage answer j.notes n)) (λ l. rw (on, l)))

-- ---- the theorems
module _ (w : ℕ) (small : w ≤ 15) (history : List Call) (m : Lent) (limit : length m.bytes ≤ 65536) (address longwords : ℕ) (notes : List ℕ) where
  abbrev found : State
  found = found_by_visit w history m

  abbrev start : Joined
  start = starts_at address longwords notes found

  starts : Follows w start (trail_of stand_in w history)
  starts = record {
    sound = found_sound w small history m limit;
    setting = (history_fits w (made w) history (fresh_fits w small)).board.setting;
    place = sym (place_of_trail (made w) begun history refl);
    kept = kept_from_fresh w (finds stand_in (made w) history) (finds_fit w (made w) history (fresh_fits w small));
    stands = most_to_rest (found_sound w small history m limit);
  }

  trail_is : (i : ℕ) → trail_of stand_in w (calls_before w history m address longwords notes i) ≡ along i start (trail_of stand_in w history)
  trail_is i =
      trail_goes_on (made w) begun history (packets_of found (sent_by i start))
      ∙ ap (λ (fs : List Found). trail stand_in (trail_of stand_in w history) fs) (finds_lending (after stand_in (made w) history) m (sent_by i start))
      ∙ trail_along w i start (trail_of stand_in w history) starts

  follows : (i : ℕ) → Follows w (joined i start) (trail_of stand_in w (calls_before w history m address longwords notes i))
  follows i = subst (λ (t : Trail). Follows w (joined i start) t) (sym (trail_is i)) (follows_along w i start (trail_of stand_in w history) starts)

  -- Every reply that the visit notes is the closing reply of the command word of the request that it notes it for.
  pub noted_is_closing : (i : ℕ) → notes_now (met w history m address longwords notes i) ≡ true → NotedIsClosing w history m address longwords notes i
  noted_is_closing i n =
      let t = trail_of stand_in w (calls_before w history m address longwords notes i) in
      let j = joined i start in
      let h = follows i in
      let at = noted_by_lem w j.visit j.visit.stage j.port t.words h.stands n in
      let resting : at_rest t.place.phase ≡ true = ap (λ (p : Place). at_rest p.phase) h.place ∙ at.rests in
      record {
        port = visit_is_its_packets w small history m limit address longwords notes i;
        word = at.word;
        earlier = at.earlier;
        last = at.last;
        command = at.command;
        sent = at.sent;
        closes = (place_closes_kept w t h.kept).last at.word at.earlier at.last resting ∙ ap (λ (p : Place). reply (reply_now p)) h.place;
      }

  -- No two of them are of one word: between two that are noted, a command word more is taken.
  pub noted_apart : (i k : ℕ) → i < k → notes_now (met w history m address longwords notes i) ≡ true
      → words_before w history m address longwords notes i < words_before w history m address longwords notes k
  noted_apart i k later n =
      let j = joined i start in
      let t = along i start (trail_of stand_in w history) in
      let h = follows_along w i start (trail_of stand_in w history) starts in
      let at = noted_by_lem w j.visit j.visit.stage j.port t.words h.stands n in
      let resting : last_closed t.words ≡ true =
      sym (place_closes_kept w t h.kept).rests ∙ ap (λ (p : Place). at_rest p.phase) h.place ∙ at.rests in
      let one : length (noted stand_in t (sends j)).words ≡ suc (length t.words) = ap length (heard_begins (sends j) t.place t.words resting) in
      let sum : i + suc (k - suc i) ≡ k = omega arith in
      let on = along_adds (k - suc i) (onward j) (noted stand_in t (sends j)) in
      let here : words_before w history m address longwords notes i ≡ length t.words = ap (λ (x : Trail). length x.words) (trail_is i) in
      let there : words_before w history m address longwords notes k ≡ length (along (k - suc i) (onward j) (noted stand_in t (sends j))).words =
      ap (λ (x : Trail). length x.words)
      (trail_is k ∙ ap (λ n. along n start (trail_of stand_in w history)) (sym sum) ∙ along_more i (suc (k - suc i)) start (trail_of stand_in w history)
      ∙ along_next (k - suc i) j t (not_over j.visit j.visit.stage (reply_now j.port.place) n)) in
      omega (arith, here, there, one, on)
