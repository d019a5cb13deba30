-- Laws of a visit to a port whose replies come late, packet by packet: what is known after each, how it passes a marker and how it ends.
use Rattle.std.specs.Prelude.{ℕ, zero, suc, ◌+◌, ◌<◌, ◌≡◌, refl, true}
use Rattle.std.proofs.Common.{le_refl, arith, ap, sym, ◌∙◌, true≢false}
use Rattle.laws.specs.TestLaws.{by_test}
use Rattle.command.specs.Reply.{complete, illegal}
use Rattle.asked.specs.Marker.{illegal_at, last_at}
use Rattle.visit.specs.declared.Stage.{Stage}
use Rattle.visit.specs.declared.Stage.TheVariants.{Marking, Asking, AsRead, NotRead}
use Rattle.visit.specs.declared.Visit.{Visit}
use Rattle.visit.specs.HandedOver.{is_as_read}
use Rattle.visit.specs.Visit.{heard}
use Rattle.late_replies.specs.LateReplies.{Late, Lag, came_in, late_by, lagged, Begins, after, stage_at, Passes, EndsAt}
use Rattle.visit.specs.HeardStageLaws.{mark_at, passed_by, read_by_lem, read_stays_read}
use Rattle.late_replies.specs.MarkerReplyLaws.{exchanged_visit, Known, marks_within, begins_known, known_on}

-- ---- so many packets and one more
pub one_more : (lag : Lag) (i k : ℕ) (l : Late) → lagged lag i (suc k) l ≡ late_by (lag (i + k)) (lagged lag i k l)
unfolding lagged
one_more lag i zero l = let same : i + 0 ≡ i = omega arith in rw same
one_more lag i (suc k) l = let same : i + suc k ≡ suc i + k = omega arith in rw same (one_more lag (suc i) k (late_by (lag i) l))

pub known_through : (lag : Lag) (i k : ℕ) {l : Late} → Known l → Known (lagged lag i k l)
unfolding lagged
known_through lag i zero h = h
known_through lag i (suc k) h = known_through lag (suc i) k (known_on (lag i) h)

is_read : (stage : Stage) → is_as_read stage ≡ true → stage ≡ AsRead
is_read (Marking m) e = cc
is_read (Asking sent reader) e = cc
is_read AsRead e = refl
is_read (NotRead reason) e = cc

module _ (lag : Lag) (l : Late) (b : Begins l) where
  pub after_more : (k : ℕ) → after lag l (suc k) ≡ late_by (lag k) (after lag l k)
  after_more k = let same : 0 + k ≡ k = omega arith in rw same at (one_more lag 0 k l)

  pub known : (k : ℕ) → Known (after lag l k)
  known k = known_through lag 0 k (begins_known b)

  -- what comes in for packet number k
  abbrev pub reply : ℕ → ℕ
  reply k = came_in (lag k) (after lag l k)

  pub stage_next : (k : ℕ) → stage_at lag l (suc k) ≡ (heard (after lag l k).joined.visit (reply k)).stage
  stage_next k =
      ap (λ (x : Late). x.joined.visit.stage) (after_more k) ∙ ap (λ (v : Visit). v.stage) (exchanged_visit (after lag l k).joined (reply k))

  pub passed : (i : ℕ) → Passes lag l i → (stage_at lag l i ≡ Marking (suc illegal_at)) × (reply i ≡ illegal)
  passed i p = passed_by (after lag l i).joined.visit (reply i) (sym (stage_next i) ∙ p)

  -- ---- the end
  pub starts_marking : stage_at lag l 0 ≡ Marking 0
  unfolding lagged
  starts_marking = b.marks

  pub ended : (n : ℕ) → EndsAt lag l n → (stage_at lag l n ≡ Marking last_at) × (reply n ≡ complete)
  ended n e =
      read_by_lem (after lag l n).joined.visit (reply n)
      (marks_within (after lag l n).joined.port.place (after lag l n).replies (stage_at lag l n) (known n).remembers)
      e.not_before (sym (stage_next n) ∙ e.read)

  -- the packet before the last is the 23rd of a marker
  pub ends_past_marker : (n : ℕ) → EndsAt lag l n → (i : ℕ) × (n ≡ suc i) × Passes lag l i
  ends_past_marker zero e = absurd (omega (arith, ap mark_at (sym starts_marking ∙ (ended zero e).0)))
  ends_past_marker (suc i) e = (i, refl, (ended (suc i) e).0)

  -- a visit that is read came to its end at some packet
  pub first_read : (k : ℕ) → stage_at lag l k ≡ AsRead → (n : ℕ) × (n < k) × EndsAt lag l n
  first_read zero e = absurd (true≢false (ap is_as_read (sym e ∙ starts_marking)))
  first_read (suc k) e =
      by_test (is_as_read (stage_at lag l k))
      (λ t. let f = first_read k (is_read (stage_at lag l k) t) in (f.0, omega (arith, f.1), f.2))
      (λ t. (k, le_refl (suc k), record { not_before = λ h. true≢false (sym (ap is_as_read h) ∙ t); read = e }))

  -- and stays so
  pub read_stays : (d k : ℕ) → stage_at lag l k ≡ AsRead → stage_at lag l (d + k) ≡ AsRead
  read_stays zero k e = let same : 0 + k ≡ k = omega arith in rw same e
  read_stays (suc d) k e =
      let same : suc d + k ≡ suc (d + k) = omega arith in
      rw same (stage_next (d + k) ∙ read_stays_read (after lag l (d + k)).joined.visit (reply (d + k)) (read_stays d k e))
