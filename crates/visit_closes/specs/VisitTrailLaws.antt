-- Demand 3's command words along a visit joined with the stand-in: what holds of both all along, and that words are only added.
use Prim.Native.Nat.{ℕ, zero, suc, ◌+◌, ◌≤◌}
use Rattle.std.proofs.Common.{arith, zero-add, le_refl, sym, ◌∙◌, le-leb}
use Rattle.std.specs.Prelude.{◌≡◌, refl, true, false, cond, List, [], ◌∷◌, eqb, length}
use Rattle.std.proofs.Math.Path.{ap, subst}
use Rattle.laws.specs.TestLaws.{by_test, either}
use Rattle.board.specs.declared.Place.{Place}
use Rattle.board.specs.Board.{at_rest}
use Rattle.board.specs.State.{State, state_of}
use Rattle.step.specs.Step.{reply_now, stepped}
use Rattle.sound.specs.Sound.{Sound}
use Rattle.sound.specs.SoundLaws.{packet_keeps_sound, packet_keeps_w}
use Rattle.round_trip.proofs.UnderwayLaws.{sent_clear}
use Rattle.asked.specs.Marker.{illegal_at, illegal_word, mark_word}
use Rattle.visit.specs.declared.Stage.{Stage}
use Rattle.visit.specs.declared.Stage.TheVariants.{Marking, Asking, AsRead, NotRead}
use Rattle.visit.specs.declared.Visit.{Visit}
use Rattle.visit.specs.Visit.{request_now, packet_by, next_of, is_over}
use Rattle.visit.specs.Visit as visit
use Rattle.joined.specs.Joined.{Joined, word_of, packet_now, exchanged_for, onward, joined}
use Rattle.joined.specs.JoinedLaws.{meeting, reply_within}
use Rattle.asked.specs.RequestAtLaws.{asked_in_range}
use Rattle.promises.specs.Machine.{stand_in}
use Rattle.promises.specs.TakenWords.{Word, Stage as WordStage, stage}
use Rattle.promises.specs.TakenWords.Stage.{operand_due, wait_due, upper_due, closed}
use Rattle.promises.specs.Environment.{Found, Trail, heard_at, heard, noted, trail}
use Rattle.promises.specs.History.{finds}
use Rattle.promises.specs.RunHistory.{packets_of}
use Rattle.promises.proofs.PlaceTellsLaws.{PlaceTells}
use Rattle.promises.proofs.PlaceClosingLaws.{Kept, kept_noted, place_closes_kept}
use Rattle.promises.specs.Demand3.{last_closed}
use Rattle.visit_closes.specs.NotedReplies.{sent_by}
use Rattle.visit_closes.specs.TrailStepsLaws.{found_in, trail_packet}
use Rattle.visit_closes.specs.VisitStagesLaws.{StandsNow, stands_on}

-- ---- what is sent
mark_within : (i : ℕ) → mark_word i ≤ 0x1FFFF
unfolding mark_word
mark_within i = either (λ word. word ≤ 0x1FFFF) (eqb i illegal_at) illegal_word 0 (λ e. omega arith) (λ e. omega arith)

within_by : (v : Visit) (stage : Stage) → word_of (packet_by v stage) ≤ 0x1FFFF
within_by v (Marking i) = mark_within i
within_by v (Asking sent reader) =
    omega (arith, sent_clear (request_now v) sent (asked_in_range v.address v.at))
within_by v AsRead = omega arith
within_by v (NotRead reason) = omega arith

pub packet_within : (v : Visit) → packet_now v ≤ 0x1FFFF
unfolding next_of
packet_within v = within_by v v.stage

nothing_sent : (s : State) (t : Trail) → trail stand_in t (finds stand_in s (packets_of s [])) ≡ t
unfolding trail finds packets_of
nothing_sent s t = refl

-- ---- a packet more of both
abbrev pub sends : Joined → Found
sends j = found_in j.port (packet_now j.visit)

pub onward_is : (j : Joined) → is_over j.visit.stage ≡ false → reply_now j.port.place ≤ 0x1FFFF
    → onward j
    ≡ meeting (visit.heard_at j.visit j.visit.stage (reply_now j.port.place)) (visit.noted j.visit (reply_now j.port.place) j.notes)
    (stepped j.port (packet_now j.visit))
unfolding exchanged_for visit.heard
onward_is j on small = rw (on, le-leb (reply_now j.port.place) 0x1FFFF small)

pub onward_port : (j : Joined) → is_over j.visit.stage ≡ false → (onward j).port ≡ stepped j.port (packet_now j.visit)
unfolding exchanged_for
onward_port j on = rw on

pub over_stays : (k : ℕ) (j : Joined) → is_over j.visit.stage ≡ true → joined k j ≡ j
unfolding joined exchanged_for
over_stays zero j over = refl
over_stays (suc k) j over = rw over (over_stays k j over)

-- the trail of the words sent, one after the other
unfoldable pub along : ℕ → Joined → Trail → Trail
along zero j t = t
along (suc k) j t = cond (is_over j.visit.stage) t (along k (onward j) (noted stand_in t (sends j)))

pub along_over : (k : ℕ) (j : Joined) (t : Trail) → is_over j.visit.stage ≡ true → along k j t ≡ t
unfolding along
along_over zero j t over = refl
along_over (suc k) j t over = rw over

pub along_next : (k : ℕ) (j : Joined) (t : Trail) → is_over j.visit.stage ≡ false → along (suc k) j t ≡ along k (onward j) (noted stand_in t (sends j))
unfolding along
along_next k j t on = rw on

-- ---- what holds all along
pub record Follows (w : ℕ) (j : Joined) (t : Trail) : Type 0 where
  pub sound : Sound j.port
  pub setting : j.port.board.w ≡ w
  pub place : t.place ≡ j.port.place
  pub kept : Kept w t
  pub stands : StandsNow j.visit j.port t.words

module _ (w : ℕ) where
  follows_on : (j : Joined) (t : Trail) → Follows w j t → is_over j.visit.stage ≡ false → Follows w (onward j) (noted stand_in t (sends j))
  unfolding next_of
  follows_on j t h on =
      let s = j.port in
      let word = packet_now j.visit in
      let tells : PlaceTells w s.place t.words = subst (λ (p : Place). PlaceTells w p t.words) h.place h.kept.tells in
      let rests : at_rest s.place.phase ≡ last_closed t.words =
      ap (λ (p : Place). at_rest p.phase) (sym h.place) ∙ (place_closes_kept w t h.kept).rests in
      subst (λ (x : Joined). Follows w x (noted stand_in t (sends j))) (sym (onward_is j on (reply_within h.sound)))
      (record {
        sound = packet_keeps_sound h.sound word;
        setting = packet_keeps_w s word ∙ h.setting;
        place = ap (λ (p : Place). (stepped (state_of s.board p s.memory) word).place) h.place;
        kept = kept_noted w t (sends j) h.setting h.kept;
        stands = subst
            (λ (p : Place). StandsNow (visit.heard_at j.visit j.visit.stage (reply_now s.place)) (stepped s word) (heard (sends j) p t.words))
            (sym h.place)
            (stands_on w j.visit h.sound t.words tells rests j.visit.stage on h.stands);
      })

  pub follows_along : (k : ℕ) (j : Joined) (t : Trail) → Follows w j t → Follows w (joined k j) (along k j t)
  unfolding joined along
  follows_along zero j t h = h
  follows_along (suc k) j t h =
      by_test (is_over j.visit.stage)
      (λ over. rw over (subst (λ (x : Joined). Follows w x t) (sym (over_stays (suc k) j over)) h))
      (λ on. rw on (follows_along k (onward j) (noted stand_in t (sends j)) (follows_on j t h on)))

  -- demand 3's trail of those packets
  pub trail_along : (k : ℕ) (j : Joined) (t : Trail) → Follows w j t
      → trail stand_in t (finds stand_in j.port (packets_of j.port (sent_by k j))) ≡ along k j t
  unfolding along sent_by
  trail_along zero j t h = nothing_sent j.port t
  trail_along (suc k) j t h =
      by_test (is_over j.visit.stage)
      (λ over. rw over (nothing_sent j.port t))
      (λ on.
      let t' = noted stand_in t (sends j) in
      rw on
      (trail_packet t (packet_now j.visit) (sent_by k (onward j)) h.sound (packet_within j.visit)
      ∙ ap (λ (s : State). trail stand_in t' (finds stand_in s (packets_of s (sent_by k (onward j))))) (sym (onward_port j on))
      ∙ trail_along k (onward j) t' (follows_on j t h on)))

-- ---- words are only added
heard_adds_at : (f : Found) (p : Place) (o : Word) (os : List Word) (x : WordStage) → length (o ∷ os) ≤ length (heard_at x f p o os)
heard_adds_at f p o os operand_due = le_refl _
heard_adds_at f p o os wait_due = le_refl _
heard_adds_at f p o os (upper_due upper) = le_refl _
heard_adds_at f p o os (closed last) = omega arith

heard_adds : (f : Found) (p : Place) (words : List Word) → length words ≤ length (heard f p words)
heard_adds f p [] = omega arith
heard_adds f p (o ∷ os) = heard_adds_at f p o os (stage o)

pub along_adds : (k : ℕ) (j : Joined) (t : Trail) → length t.words ≤ length (along k j t).words
unfolding along
along_adds zero j t = le_refl _
along_adds (suc k) j t =
    by_test (is_over j.visit.stage) (λ over. rw over (le_refl _))
    (λ on. rw on (omega (arith, heard_adds (sends j) t.place t.words, along_adds k (onward j) (noted stand_in t (sends j)))))

pub along_more : (m n : ℕ) (j : Joined) (t : Trail) → along (m + n) j t ≡ along n (joined m j) (along m j t)
unfolding along joined
along_more zero n j t = rw (zero-add n)
along_more (suc m) n j t =
    let more : suc m + n ≡ suc (m + n) = omega arith in
    rw more
    (by_test (is_over j.visit.stage)
    (λ over. rw over (sym (along_over n j t over) ∙ ap (λ (x : Joined). along n x t) (sym (over_stays (suc m) j over))))
    (λ on. rw on (along_more m n (onward j) (noted stand_in t (sends j)))))
