-- A request joined with the stand-in: found at rest it is asked and read to its closing reply, and what is noted is what it means there.
use Prim.Native.Nat.{ℕ, zero, suc, ◌+◌, ◌-◌, ◌≤◌}
use native.Mathlib.Omega.{arith}
use Rattle.std.proofs.Math.Nat.{le_refl}
use Rattle.std.specs.Prelude.{◌≡◌, true, false, List, get_or, set}
use Rattle.std.proofs.Math.Path.{refl, ap}
use Rattle.std.proofs.Common.{sym, ◌∙◌}
use Rattle.laws.specs.TestLaws.{by_test}
use Rattle.command.specs.Reply.{complete}
use Rattle.board.specs.State.{State}
use Rattle.step.specs.Step.{reply_now, stepped}
use Rattle.sound.specs.Sound.{Sound}
use Rattle.sound.specs.SoundLaws.{packet_keeps_sound}
use Rattle.requests.specs.declared.Request.{Request}
use Rattle.requests.specs.Request.{in_range, kind_of}
use Rattle.building.specs.RequestWords.{command_word, built_words}
use Rattle.readings.specs.declared.Outcome.{Outcome}
use Rattle.readings.specs.declared.Reader.{Reader}
use Rattle.readings.specs.declared.Reader.TheVariants.{First, Closed}
use Rattle.readings.specs.Reader.{after_reply, done}
use Rattle.round_trip.specs.Meaning.{Scene}
use Rattle.round_trip.specs.RoundTrip.{resting, outcome_there, state_there, packets_there}
use Rattle.round_trip.specs.TalkMirror.{Talk, talk, talked, talk_budget, exchanged}
use Rattle.round_trip.proofs.MeantWorkLaws.{sound_is_sized}
use Rattle.round_trip.proofs.TalkLaws.{talk_there, exchange_from_rest}
use Rattle.asked.specs.VisitRequests.{request_at}
use Rattle.visit.specs.declared.Stage.TheVariants.{Asking}
use Rattle.visit.specs.Visit.{patience, note_of, notable}
use Rattle.joined.specs.Joined.{Joined, onward, joined}
use Rattle.joined.specs.JoinedLaws.{joined_on, joined_none, visit_at, meeting, closed_at, last_counted, reply_within, command_on, reply_on, reply_closes}

-- ---- the exchange, packet by packet
module _ (request : Request) where
  -- packets are only added
  counts_on : (k sent : ℕ) (reader : Reader) (s : State) → sent ≤ (talked k request sent reader s).packets
  unfolding talked
  counts_on zero sent reader s = le_refl sent
  counts_on (suc k) sent reader s =
      let reader' = after_reply (kind_of request) reader (reply_now s.place) in
      by_test (done reader) (λ t. rw t (le_refl sent))
      (λ t. rw t (omega (arith, counts_on k (suc sent) reader' (stepped s (get_or (built_words request) sent 0)))))

  stops : (sent : ℕ) (reader : Reader) (s : State) → talked 0 request sent reader s ≡ talk reader s sent
  unfolding talked
  stops sent reader s = refl

  ends_there : (k sent : ℕ) (reader : Reader) (s : State) → done reader ≡ true → talked k request sent reader s ≡ talk reader s sent
  unfolding talked
  ends_there zero sent reader s t = refl
  ends_there (suc k) sent reader s t = rw t

  goes_on : (k sent : ℕ) (reader : Reader) (s : State) → done reader ≡ false
      → talked (suc k) request sent reader s
      ≡ talked k request (suc sent) (after_reply (kind_of request) reader (reply_now s.place)) (stepped s (get_or (built_words request) sent 0))
  unfolding talked
  goes_on k sent reader s t = rw t

-- ---- both
module _ (address ends at : ℕ) (notes : List ℕ) where
  abbrev pub asking : ℕ → ℕ → Reader → State → Joined
  asking p sent reader s = meeting (visit_at address ends at p (Asking sent reader)) notes s

  -- closed with the outcome, which is noted
  abbrev pub closing : ℕ → Outcome → State → Joined
  closing p o s = meeting (closed_at address ends at p o) (set notes at (note_of o)) s

  module _ (o : Outcome) (fine : notable o at ≡ true) (final : State) (last : ℕ) where
    talk_joined : (k p sent : ℕ) (reader : Reader) (s : State) → 1 ≤ sent → sent + k ≤ patience → p + k ≤ last_counted → Sound s → done reader ≡ false
        → talked k (request_at address at) sent reader s ≡ talk (Closed o) final last
        → joined (last - sent) (asking p sent reader s) ≡ closing (p + (last - sent)) o final
    talk_joined zero p sent reader s some patient more f waits h =
        let closed : reader ≡ Closed o = ap (λ (t : Talk). t.reader) (sym (stops (request_at address at) sent reader s) ∙ h) in
        let no : true ≡ false = ap done (sym closed) ∙ waits in
        let z : ◌≡◌ {A = ℕ} 0 1 = cc in
        absurd (omega arith)
    talk_joined (suc k) p sent reader s some patient more f waits h =
        let r = request_at address at in
        let reader' = after_reply (kind_of r) reader (reply_now s.place) in
        let s' = stepped s (get_or (built_words r) sent 0) in
        let h' : talked k r (suc sent) reader' s' ≡ talk (Closed o) final last = sym (goes_on r k sent reader s waits) ∙ h in
        by_test (done reader')
        (λ t.
        let e : talk reader' s' (suc sent) ≡ talk (Closed o) final last = sym (ends_there r k (suc sent) reader' s' t) ∙ h' in
        let closed : reader' ≡ Closed o = ap (λ (t : Talk). t.reader) e in
        let left : s' ≡ final = ap (λ (t : Talk). t.state) e in
        let count : suc sent ≡ last = ap (λ (t : Talk). t.packets) e in
        let one : last - sent ≡ 1 = omega arith in
        let sum : p + 1 ≡ suc p = omega arith in
        rw (one, sum)
        (joined_on 0 (asking p sent reader s) ∙ joined_none (onward (asking p sent reader s))
        ∙ reply_closes address ends at p notes s (reply_within f) (omega arith) sent reader some o closed fine
        ∙ ap (closing (suc p) o) left))
        (λ t.
        let count : suc sent ≤ last = omega (arith, counts_on r k (suc sent) reader' s', ap (λ (t : Talk). t.packets) h') in
        let one : last - sent ≡ suc (last - suc sent) = omega arith in
        let sum : p + suc (last - suc sent) ≡ suc p + (last - suc sent) = omega arith in
        rw (one, sum)
        (joined_on (last - suc sent) (asking p sent reader s)
        ∙ ap (joined (last - suc sent)) (reply_on address ends at p notes s (reply_within f) (omega arith) sent reader some t (omega arith))
        ∙ talk_joined k (suc p) (suc sent) reader' s' (omega arith) (omega arith) (omega arith)
        (packet_keeps_sound f (get_or (built_words r) sent 0)) t h'))

  pub request_joined : (p : ℕ) (s : Scene) → in_range (request_at address at) ≡ true → Sound (resting s complete)
      → notable (outcome_there (request_at address at) s) at ≡ true → p + 22 ≤ last_counted
      → joined (packets_there (request_at address at) s) (asking p 0 First (resting s complete))
      ≡ closing (p + packets_there (request_at address at) s) (outcome_there (request_at address at) s) (state_there (request_at address at) s)
  unfolding exchanged reply_now
  request_joined p s h f fine more =
      let r = request_at address at in
      let s' = stepped (resting s complete) (command_word r) in
      let talks : talked talk_budget r 1 First s' ≡ talk_there r s = exchange_from_rest r s complete h (sound_is_sized f) f.board.small in
      let some : 1 ≤ packets_there r s = omega (arith, counts_on r talk_budget 1 First s', ap (λ (t : Talk). t.packets) talks) in
      let one : packets_there r s ≡ suc (packets_there r s - 1) = omega arith in
      let sum : suc p + (packets_there r s - 1) ≡ p + packets_there r s = omega arith in
      ap (λ n. joined n (asking p 0 First (resting s complete))) one
      ∙ joined_on (packets_there r s - 1) (asking p 0 First (resting s complete))
      ∙ ap (joined (packets_there r s - 1)) (command_on address ends at p notes (resting s complete) (omega arith) (omega arith) refl)
      ∙ talk_joined (outcome_there r s) fine (state_there r s) (packets_there r s) talk_budget (suc p) 1 First s' (omega arith) (omega arith) (omega arith)
      (packet_keeps_sound f (command_word r)) refl talks
      ∙ ap (λ n. closing n (outcome_there r s) (state_there r s)) sum
