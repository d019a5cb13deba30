-- Laws: where no reply came late, the visit, its notes and the port are as without a lag. So they are between two markers, and from a visit's first packet to
-- its end as read, where the lag never shrinks.
use Rattle.std.specs.Prelude.{ℕ, zero, suc, ◌+◌, ◌-◌, ◌≤◌, ◌<◌, ◌≡◌, refl}
use Rattle.std.proofs.Common.{le_refl, arith, ap, sym, subst, ◌∙◌}
use Rattle.command.specs.Reply.{complete, illegal}
use Rattle.step.specs.Step.{reply_now}
use Rattle.joined.specs.Joined.{Joined, exchanged_for, onward, joined}
use Rattle.late_replies.specs.LateReplies.{Late, Lag, came_in, late_by, lagged, Begins, Stays, after, Passes, EndsAt}
use Rattle.late_replies.specs.MarkerReplyLaws.{then_complete}
use Rattle.late_replies.specs.LaggedVisitLaws.{after_more, known, reply, passed, ended, ends_past_marker}
use Rattle.late_replies.specs.LateRepliesLaws.{blocks_in_time, begins_and_stays}

-- so many packets, and then so many
lagged_plus : (lag : Lag) (i a n : ℕ) (l : Late) → lagged lag i (a + n) l ≡ lagged lag (i + a) n (lagged lag i a l)
unfolding lagged
lagged_plus lag i zero n l =
    let none : 0 + n ≡ n = omega arith in
    let same : i + 0 ≡ i = omega arith in
    rw (none, same)
lagged_plus lag i (suc a) n l =
    let more : suc a + n ≡ suc (a + n) = omega arith in
    let same : i + suc a ≡ suc i + a = omega arith in
    rw (more, same) (lagged_plus lag (suc i) a n (late_by (lag i) l))

joined_more : (n : ℕ) (j : Joined) → joined (suc n) j ≡ onward (joined n j)
unfolding joined
joined_more zero j = refl
joined_more (suc n) j = joined_more n (onward j)

-- no reply from packet a on is late
pub in_time_as_joined : (lag : Lag) (a n : ℕ) (l : Late) → ((x : ℕ) → a ≤ x → x < a + n → lag x ≡ 0) → (lagged lag a n l).joined ≡ joined n l.joined
unfolding lagged joined
in_time_as_joined lag a zero l none = refl
in_time_as_joined lag a (suc n) l none =
    ap (λ d. (lagged lag (suc a) n (late_by d l)).joined) (none a (omega arith) (omega arith))
    ∙ in_time_as_joined lag (suc a) n (late_by 0 l) (λ x lo hi. none x (omega arith) (omega arith))

module _ (lag : Lag) (l : Late) (b : Begins l) where
  -- What a marker between blocks buys: from packet a to its 23rd packet, number a + n, all is as without a lag, where the lag never shrinks there.
  pub block_as_joined : (a n : ℕ) → Stays lag a (a + n) → Passes lag l (a + n) → (after lag l (a + suc n)).joined ≡ joined (suc n) (after lag l a).joined
  block_as_joined a n stays p =
      let same : 0 + a ≡ a = omega arith in
      rw (lagged_plus lag 0 a (suc n) l, same)
      (in_time_as_joined lag a (suc n) (after lag l a) (λ x lo hi. blocks_in_time lag l b a (a + n) stays p x lo (omega arith)))

  -- the port's own reply to the last packet is 0FFFF, whatever comes in for it
  module _ (i : ℕ) (p : Passes lag l i) (none : (x : ℕ) → x ≤ i → lag x ≡ 0) where
    completes : reply_now (after lag l (suc i)).joined.port.place ≡ complete
    completes =
        let now : reply_now (after lag l i).joined.port.place ≡ illegal =
        sym (ap (λ d. came_in d (after lag l i)) (none i (le_refl i))) ∙ (passed lag l b i p).1 in
        ap (λ (x : Late). reply_now x.joined.port.place) (after_more lag l b i)
        ∙ then_complete (known lag l b i) (passed lag l b i p).0 (reply lag l b i) now

    ends_as_joined : EndsAt lag l (suc i) → (after lag l (suc (suc i))).joined ≡ joined (suc (suc i)) l.joined
    ends_as_joined e =
        ap (λ (x : Late). x.joined) (after_more lag l b (suc i))
        ∙ ap (exchanged_for (after lag l (suc i)).joined) ((ended lag l b (suc i) e).1 ∙ sym completes)
        ∙ ap onward (in_time_as_joined lag 0 (suc i) l (λ x lo hi. none x (omega arith)))
        ∙ sym (joined_more (suc i) l.joined)

  -- A visit that ends as read, its last packet number n, where the lag never shrank: it is the visit without a lag.
  pub as_without_lag : (n : ℕ) → EndsAt lag l n → Stays lag 0 (n - 1) → (after lag l (suc n)).joined ≡ joined (suc n) l.joined
  as_without_lag n e stays =
      let m = ends_past_marker lag l b n e in
      subst (λ x. EndsAt lag l x → (after lag l (suc x)).joined ≡ joined (suc x) l.joined) (sym m.1)
      (ends_as_joined m.0 m.2 (λ x upto. begins_and_stays lag l b n e stays x (omega (arith, m.1)))) e
