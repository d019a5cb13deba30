-- Laws of a reply: from which stage of a visit it leads to which. To a marker's last packet 1FFFF leads, from the packet before; to the end as read 0FFFF, from
-- a marker's last packet.
use Rattle.std.specs.Prelude.{ℕ, zero, suc, ◌≤◌, ◌<◌, ◌≡◌, true, false, cond, ◌||◌, eqb, leb, ltb}
use Rattle.std.proofs.Common.{arith, sym, true≢false, ltb-true, ltb-false, eqb-true}
use Rattle.std.proofs.Math.Path.{refl, ap}
use Rattle.laws.specs.TestLaws.{either}
use Rattle.command.specs.Reply.{complete, illegal}
use Rattle.readings.specs.declared.Outcome.{Outcome}
use Rattle.readings.specs.declared.Reader.{Reader}
use Rattle.readings.specs.declared.Reader.TheVariants.{First, Second, Closed, Bad}
use Rattle.readings.specs.Reader.{done}
use Rattle.asked.specs.VisitRequests.{marked}
use Rattle.asked.specs.Marker.{illegal_at, last_at, mark_holds}
use Rattle.visit.specs.declared.Reason.TheVariants.{Late, NotReady, WordTooLarge, ImpossibleReply}
use Rattle.visit.specs.declared.Stage.{Stage}
use Rattle.visit.specs.declared.Stage.TheVariants.{Marking, Asking, AsRead, NotRead}
use Rattle.visit.specs.declared.Visit.{Visit}
use Rattle.visit.specs.HandedOver.{is_as_read}
use Rattle.visit.specs.Visit.{patience, counted, on_stage, after_marker, mark_stage, is_illegal, afterwards, ends_after, stage_after, notable, closed_by}
use Rattle.visit.specs.Visit.{read_by, reader_after, command_stage, ask_stage, heard}

-- ---- what is heard at each stage
module _ (v : Visit) (reply : ℕ) where
  abbrev pub too_large : Visit
  too_large = on_stage v (NotRead WordTooLarge)

  pub heard_marking : (m : ℕ) → v.stage ≡ Marking m → heard v reply ≡ cond (leb reply 0x1FFFF) (on_stage v (mark_stage v m reply)) too_large
  unfolding heard
  heard_marking m e = rw e

  pub heard_asking : (sent : ℕ) (reader : Reader) → v.stage ≡ Asking sent reader
      → heard v reply ≡ cond (leb reply 0x1FFFF) (ask_stage v sent reader reply) too_large
  unfolding heard
  heard_asking sent reader e = rw e

-- ---- a request under way leads to no further packet of a marker, to no end as read, and to a reader that waits
abbrev pub Anew : Stage → Type 0
Anew (Marking zero) = Unit {0}
Anew (Marking (suc m)) = ⊥
Anew (Asking sent reader) = done reader ≡ false
Anew AsRead = ⊥
Anew (NotRead reason) = Unit {0}

module _ (v : Visit) where
  closed_anew : (o : Outcome) → Anew (closed_by v o).stage
  unfolding closed_by
  closed_anew o =
      let ends = ends_after o v.ends v.at in
      let at = afterwards v.ends v.at in
      either (λ (x : Visit). Anew x.stage) (notable o v.at)
      (record { address = v.address; ends = ends; at = at; packets = counted v.packets; stage = stage_after o ends at })
      (on_stage v (NotRead ImpossibleReply))
      (λ e. either Anew (is_illegal o || marked ends at) (Marking 0) (Asking 0 First) (λ f. tt) (λ f. refl)) (λ e. tt)

  read_anew : (sent : ℕ) (reader : Reader) → Anew (read_by v sent reader).stage
  read_anew sent First = either Anew (ltb sent patience) (Asking (suc sent) First) (NotRead NotReady) (λ e. refl) (λ e. tt)
  read_anew sent (Second upper) =
      either Anew (ltb sent patience) (Asking (suc sent) (Second upper)) (Asking sent (Second upper)) (λ e. refl) (λ e. refl)
  read_anew sent (Closed o) = closed_anew o
  read_anew sent (Bad why) = tt

  pub asked_anew : (sent : ℕ) (reader : Reader) (reply : ℕ) → v.stage ≡ Asking sent reader → Anew (heard v reply).stage
  asked_anew sent reader reply e =
      rw (heard_asking v reply sent reader e)
      (either (λ (x : Visit). Anew x.stage) (leb reply 0x1FFFF) (ask_stage v sent reader reply) (too_large v reply)
      (λ f. either (λ (x : Visit). Anew x.stage) (eqb sent 0) (on_stage v (command_stage reply)) (read_by v sent (reader_after v reader reply))
      (λ g. either Anew (eqb reply complete) (Asking 1 First) (NotRead Late) (λ h. refl) (λ h. tt))
      (λ g. read_anew sent (reader_after v reader reply)))
      (λ f. tt))

  pub after_marker_lem : (P : Stage → Type 0) → P AsRead → P (Asking 0 First) → P (after_marker v.ends v.at)
  after_marker_lem P read asking = either P (leb v.ends v.at) AsRead (Asking 0 First) (λ e. read) (λ e. asking)

  -- what holds of each stage that a reply to a packet of a marker can lead to
  pub marking_leads : (P : Stage → Type 0) (m reply : ℕ) → v.stage ≡ Marking m
      → (mark_holds m reply ≡ true → m < last_at → P (Marking (suc m)))
      → (mark_holds m reply ≡ true → last_at ≤ m → P (after_marker v.ends v.at))
      → P (NotRead Late) → P (NotRead WordTooLarge) → P (heard v reply).stage
  marking_leads P m reply e further last late large =
      rw (heard_marking v reply m e)
      (either (λ (x : Visit). P x.stage) (leb reply 0x1FFFF) (on_stage v (mark_stage v m reply)) (too_large v reply)
      (λ f. either P (mark_holds m reply) (cond (ltb m last_at) (Marking (suc m)) (after_marker v.ends v.at)) (NotRead Late)
      (λ g. either P (ltb m last_at) (Marking (suc m)) (after_marker v.ends v.at)
      (λ h. further g (ltb-true m last_at h)) (λ h. last g (ltb-false m last_at h)))
      (λ g. late))
      (λ f. large))

-- ---- and where it came from
-- which packet of a marker is next
abbrev pub mark_at : Stage → ℕ
mark_at (Marking m) = m
mark_at (Asking sent reader) = 0
mark_at AsRead = 0
mark_at (NotRead reason) = 0

-- it is the first of it
pub anew_marks : (stage : Stage) → Anew stage → mark_at stage ≡ 0
anew_marks (Marking zero) h = refl
anew_marks (Marking (suc i)) h = absurd h
anew_marks (Asking sent reader) h = refl
anew_marks AsRead h = refl
anew_marks (NotRead reason) h = refl

anew_not_read : (stage : Stage) → Anew stage → stage ≡ AsRead → ⊥
anew_not_read (Marking m) h e = true≢false (sym (ap is_as_read e))
anew_not_read (Asking sent reader) h e = true≢false (sym (ap is_as_read e))
anew_not_read AsRead h e = absurd h
anew_not_read (NotRead reason) h e = true≢false (sym (ap is_as_read e))

wanted_illegal : (reply : ℕ) → mark_holds (suc illegal_at) reply ≡ true → reply ≡ illegal
unfolding mark_holds
wanted_illegal reply e = eqb-true reply illegal e

wanted_complete : (reply : ℕ) → mark_holds last_at reply ≡ true → reply ≡ complete
unfolding mark_holds
wanted_complete reply e = eqb-true reply complete e

module _ (v : Visit) (reply : ℕ) where
  -- a further packet of a marker is next only after the one before it had the reply that it must have
  pub marked_by : (m : ℕ) → (heard v reply).stage ≡ Marking (suc m) → (v.stage ≡ Marking m) × (mark_holds m reply ≡ true)
  unfolding heard
  marked_by m now = by_stage v.stage refl
    where
      by_stage : (stage : Stage) → v.stage ≡ stage → (stage ≡ Marking m) × (mark_holds m reply ≡ true)
      by_stage (Marking i) e =
          marking_leads v (λ stage. stage ≡ Marking (suc m) → (Marking i ≡ Marking m) × (mark_holds m reply ≡ true)) i reply e
          (λ holds less at. let it : i ≡ m = omega (arith, ap mark_at at) in (ap Marking it, rw it at holds))
          (λ holds more. after_marker_lem v (λ stage. stage ≡ Marking (suc m) → (Marking i ≡ Marking m) × (mark_holds m reply ≡ true))
          (λ at. absurd (omega (arith, ap mark_at at))) (λ at. absurd (omega (arith, ap mark_at at))))
          (λ at. absurd (omega (arith, ap mark_at at))) (λ at. absurd (omega (arith, ap mark_at at)))
          now
      by_stage (Asking sent reader) e = absurd (omega (arith, anew_marks (heard v reply).stage (asked_anew v sent reader reply e), ap mark_at now))
      by_stage AsRead e = absurd (omega (arith, ap mark_at (rw e at now)))
      by_stage (NotRead reason) e = absurd (omega (arith, ap mark_at (rw e at now)))

  -- its last is next only after 1FFFF came in for the packet before it
  pub passed_by : (heard v reply).stage ≡ Marking last_at → (v.stage ≡ Marking (suc illegal_at)) × (reply ≡ illegal)
  passed_by now = let before = marked_by (suc illegal_at) now in (before.0, wanted_illegal reply before.1)

  -- a visit ends as read only after 0FFFF came in for a marker's last packet
  pub read_by_lem : (mark_at v.stage ≤ last_at) → (v.stage ≡ AsRead → ⊥) → (heard v reply).stage ≡ AsRead → (v.stage ≡ Marking last_at) × (reply ≡ complete)
  unfolding heard
  read_by_lem small before now = by_stage v.stage refl
    where
      by_stage : (stage : Stage) → v.stage ≡ stage → (stage ≡ Marking last_at) × (reply ≡ complete)
      by_stage (Marking m) e =
          marking_leads v (λ stage. stage ≡ AsRead → (Marking m ≡ Marking last_at) × (reply ≡ complete)) m reply e
          (λ holds less at. absurd (true≢false (sym (ap is_as_read at))))
          (λ holds more at.
          let it : m ≡ last_at = omega (arith, rw e at small) in
          (ap Marking it, wanted_complete reply (rw it at holds)))
          (λ at. absurd (true≢false (sym (ap is_as_read at)))) (λ at. absurd (true≢false (sym (ap is_as_read at))))
          now
      by_stage (Asking sent reader) e = absurd (anew_not_read (heard v reply).stage (asked_anew v sent reader reply e) now)
      by_stage AsRead e = absurd (before e)
      by_stage (NotRead reason) e = absurd (true≢false (sym (ap is_as_read (rw e at now))))

  -- and stays so
  pub read_stays_read : v.stage ≡ AsRead → (heard v reply).stage ≡ AsRead
  unfolding heard
  read_stays_read e = rw e
