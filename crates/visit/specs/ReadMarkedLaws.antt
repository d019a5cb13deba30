-- Whatever comes in: a visit that ends as read had the replies that it must have at each of its markers, the first and the last among them.
use Rattle.std.specs.Prelude.{ℕ, zero, suc, ◌+◌, ◌-◌, ◌*◌, ◌≤◌, ◌<◌, ◌≡◌, refl, true, false, cond, List, [], ◌∷◌, eqb, leb, ltb, length, get_or, take, drop}
use Rattle.std.proofs.Common.{arith, add-zero, zero-add, sym, ap, ◌∙◌, true≢false, get_or-drop, eqb-true, leb-true, leb-false, lt-ltb}
use Rattle.std.proofs.lemmas.Bool.{eqb-false, lt-leb}
use Rattle.laws.specs.TestLaws.{by_test}
use Rattle.command.specs.Reply.{complete, illegal}
use Rattle.readings.specs.declared.Reader.TheVariants.{First}
use Rattle.asked.specs.Marker.{nops_to_rest, illegal_at, last_at, marker_packets, mark_holds}
use Rattle.visit.specs.declared.Reason.{Reason}
use Rattle.visit.specs.declared.Reason.TheVariants.{Late, WordTooLarge}
use Rattle.visit.specs.declared.Stage.{Stage}
use Rattle.visit.specs.declared.Stage.TheVariants.{Marking, Asking, AsRead, NotRead}
use Rattle.visit.specs.declared.Visit.{Visit}
use Rattle.visit.specs.Visit.{begun, on_stage, after_marker, is_over, heard}
use Rattle.visit.specs.HandedOver.{is_as_read}
use Rattle.visit.specs.VisitEnds.{heard_all, replies_heard}
use Rattle.visit.specs.VisitLaws.{over_stays}
use Rattle.visit.specs.VisitEndsLaws.{all_over}
use Rattle.visit.specs.HeardStageLaws.{heard_marking, asked_anew, after_marker_lem, marking_leads, mark_at, anew_marks, marked_by, read_by_lem}
use Rattle.visit.specs.ReadMarked.{MarkerStood, ReadIsMarked}

-- ---- so many replies
heard_one_more : (v : Visit) (replies : List ℕ) (k : ℕ) → k < length replies
    → heard_all v (take (suc k) replies) ≡ heard (heard_all v (take k replies)) (get_or replies k 0)
heard_one_more v [] k less = absurd (omega arith)
heard_one_more v (reply ∷ replies) zero less = refl
heard_one_more v (reply ∷ replies) (suc k) less = heard_one_more (heard v reply) replies k (omega arith)

-- and those behind them
heard_behind : (v : Visit) (replies : List ℕ) (p : ℕ) → heard_all (heard_all v (take p replies)) (drop p replies) ≡ heard_all v replies
heard_behind v replies zero = refl
heard_behind v [] (suc p) = refl
heard_behind v (reply ∷ replies) (suc p) = heard_behind (heard v reply) replies p

-- up to the one that ends it
heard_within : (replies : List ℕ) (v : Visit) → replies_heard v replies ≤ length replies
heard_within [] v = omega arith
heard_within (reply ∷ replies) v =
    by_test (is_over v.stage) (λ over. rw over (omega arith)) (λ going. rw going (omega (arith, heard_within replies (heard v reply))))

heard_until : (replies : List ℕ) (v : Visit) → heard_all v (take (replies_heard v replies) replies) ≡ heard_all v replies
heard_until [] v = refl
heard_until (reply ∷ replies) v =
    by_test (is_over v.stage) (λ over. rw over (sym (all_over v (reply ∷ replies) over))) (λ going. rw going (heard_until replies (heard v reply)))

before_over : (replies : List ℕ) (v : Visit) (k : ℕ) → k < replies_heard v replies → is_over (heard_all v (take k replies)).stage ≡ false
before_over [] v k less = absurd (omega arith)
before_over (reply ∷ replies) v zero less = by_test (is_over v.stage) (λ over. absurd (omega (arith, rw over at less))) (λ going. going)
before_over (reply ∷ replies) v (suc k) less =
    by_test (is_over v.stage) (λ over. absurd (omega (arith, rw over at less)))
    (λ going. before_over replies (heard v reply) k (omega (arith, rw going at less)))

-- ---- a marker of a visit that ends as read
abbrev EndsRead : Visit → List ℕ → Type 0
EndsRead v replies = (heard_all v replies).stage ≡ AsRead

not_read : (v : Visit) (reason : Reason) (replies : List ℕ) → v.stage ≡ NotRead reason → EndsRead v replies → ⊥
not_read v reason replies e read =
    let same : heard_all v replies ≡ v = all_over v replies (rw e) in
    true≢false (sym (ap is_as_read (sym e ∙ sym (ap (λ (x : Visit). x.stage) same) ∙ read)))

-- its reply is the one that it must be, and the visit goes on with the marker, or past it
mark_read : (v : Visit) (i reply : ℕ) (replies : List ℕ) → v.stage ≡ Marking i → EndsRead (heard v reply) replies
    → (mark_holds i reply ≡ true) × (heard v reply ≡ on_stage v (cond (ltb i last_at) (Marking (suc i)) (after_marker v.ends v.at)))
mark_read v i reply replies e read =
    let heard-so = heard_marking v reply i e in
    by_test (leb reply 0x1FFFF)
    (λ l.
    by_test (mark_holds i reply)
    (λ h. (h, heard-so ∙ rw (l, h)))
    (λ h. absurd (not_read (heard v reply) Late replies (ap (λ (x : Visit). x.stage) heard-so ∙ rw (l, h)) read)))
    (λ l. absurd (not_read (heard v reply) WordTooLarge replies (ap (λ (x : Visit). x.stage) heard-so ∙ rw l) read))

-- so many packets further on in the marker
record OnMarker (v w : Visit) (i reply : ℕ) : Type 0 where
  at : w.at ≡ v.at
  ends : w.ends ≡ v.ends
  stage : w.stage ≡ Marking i
  holds : mark_holds i reply ≡ true

along_marker : (d i : ℕ) (v : Visit) (replies : List ℕ) → v.stage ≡ Marking i → EndsRead v replies → i + d ≤ last_at
    → OnMarker v (heard_all v (take d replies)) (i + d) (get_or replies d 0)
along_marker d i v [] e read within = absurd (true≢false (sym (ap is_as_read (sym e ∙ read))))
along_marker zero i v (reply ∷ replies) e read within =
    rw (add-zero i) (record { at = refl; ends = refl; stage = e; holds = (mark_read v i reply replies e read).0 })
along_marker (suc d) i v (reply ∷ replies) e read within =
    let next : heard v reply ≡ on_stage v (Marking (suc i)) = (mark_read v i reply replies e read).1 ∙ rw (lt-ltb i last_at (omega arith)) in
    let same : i + suc d ≡ suc i + d = omega arith in
    let on = along_marker d (suc i) (heard v reply) replies (ap (λ (x : Visit). x.stage) next) read (omega arith) in
    rw same
    (record {
      at = on.at ∙ ap (λ (x : Visit). x.at) next;
      ends = on.ends ∙ ap (λ (x : Visit). x.ends) next;
      stage = on.stage;
      holds = on.holds;
    })

-- the replies where it begins
stands : (v : Visit) (replies : List ℕ) → EndsRead v replies → (p : ℕ) → (heard_all v (take p replies)).stage ≡ Marking 0 → MarkerStood replies p
unfolding mark_holds
stands v replies read p e =
    let here = heard_all v (take p replies) in
    let ends : EndsRead here (drop p replies) = ap (λ (x : Visit). x.stage) (heard_behind v replies p) ∙ read in
    let holds : (d : ℕ) → d ≤ last_at → mark_holds d (get_or replies (p + d) 0) ≡ true =
    λ d within. rw (zero-add d, get_or-drop p replies d 0) at (along_marker d 0 here (drop p replies) e ends (omega arith)).holds in
    record {
      rests = eqb-true (get_or replies (p + suc nops_to_rest) 0) complete (holds (suc nops_to_rest) (omega arith));
      sends = eqb-true (get_or replies (p + illegal_at) 0) complete (holds illegal_at (omega arith));
      closes = eqb-true (get_or replies (p + suc illegal_at) 0) illegal (holds (suc illegal_at) (omega arith));
      ends = eqb-true (get_or replies (p + last_at) 0) complete (holds last_at (omega arith));
    }

-- ---- its last packets
-- no packet of a marker has a number beyond its last
mark_within : (v : Visit) (reply : ℕ) → mark_at v.stage ≤ last_at → mark_at (heard v reply).stage ≤ last_at
mark_within v reply within = by_stage v.stage refl
  where
    by_stage : (stage : Stage) → v.stage ≡ stage → mark_at (heard v reply).stage ≤ last_at
    by_stage (Marking i) e =
        marking_leads v (λ stage. mark_at stage ≤ last_at) i reply e
        (λ holds less. less) (λ holds more. after_marker_lem v (λ stage. mark_at stage ≤ last_at) (omega arith) (omega arith)) (omega arith) (omega arith)
    by_stage (Asking sent reader) e = omega (arith, anew_marks (heard v reply).stage (asked_anew v sent reader reply e))
    by_stage AsRead e = rw (over_stays v reply (rw e)) within
    by_stage (NotRead reason) e = rw (over_stays v reply (rw e)) within

all_within : (replies : List ℕ) (v : Visit) → mark_at v.stage ≤ last_at → mark_at (heard_all v replies).stage ≤ last_at
all_within [] v within = within
all_within (reply ∷ replies) v within = all_within replies (heard v reply) (mark_within v reply within)

module _ (v : Visit) (begins : v.stage ≡ Marking 0) (replies : List ℕ) where
  -- packet number i of a marker came so many packets after its first
  marker_back : (i k : ℕ) → k ≤ length replies → (heard_all v (take k replies)).stage ≡ Marking i
      → (i ≤ k) × ((heard_all v (take (k - i) replies)).stage ≡ Marking 0)
  marker_back zero k within e = let same : k - 0 ≡ k = omega arith in (omega arith, rw same e)
  marker_back (suc i) zero within e = absurd (omega (arith, ap mark_at (sym begins ∙ e)))
  marker_back (suc i) (suc k) within e =
      let now = ap (λ (x : Visit). x.stage) (sym (heard_one_more v replies k within)) ∙ e in
      let back = marker_back i k (omega arith) (marked_by (heard_all v (take k replies)) (get_or replies k 0) i now).0 in
      let same : suc k - suc i ≡ k - i = omega arith in
      (omega (arith, back.0), rw same back.1)

  module _ (read : EndsRead v replies) where
    abbrev count : ℕ
    count = replies_heard v replies

    at_end : (heard_all v (take count replies)).stage ≡ AsRead
    at_end = ap (λ (x : Visit). x.stage) (heard_until replies v) ∙ read

    some_heard : 1 ≤ count
    some_heard =
        by_test (eqb count 0)
        (λ e.
        let none : 0 ≡ count = sym (eqb-true count 0 e) in
        absurd (true≢false (sym (ap is_as_read (sym begins ∙ ap (λ n. (heard_all v (take n replies)).stage) none ∙ at_end)))))
        (λ e. let some : count ≡ 0 → ⊥ = eqb-false count 0 e in omega arith)

    -- it ends behind the last packet of a marker
    record LastMarker : Type 0 where
      some : marker_packets ≤ count
      starts : (heard_all v (take (count - marker_packets) replies)).stage ≡ Marking 0
      last : (heard_all v (take (count - 1) replies)).stage ≡ Marking last_at
      ended : (heard (heard_all v (take (count - 1) replies)) (get_or replies (count - 1) 0)).stage ≡ AsRead

    last_marker : LastMarker
    last_marker =
        let k = count - 1 in
        let one : suc k ≡ count = omega (arith, some_heard) in
        let there : k < length replies = omega (arith, heard_within replies v) in
        let here = heard_all v (take k replies) in
        let ended = ap (λ (x : Visit). x.stage) (sym (heard_one_more v replies k there)) ∙ ap (λ n. (heard_all v (take n replies)).stage) one ∙ at_end in
        let going : is_over here.stage ≡ false = before_over replies v k (omega arith) in
        let last = (read_by_lem here (get_or replies k 0) (all_within (take k replies) v (rw begins (omega arith)))
        (λ e. true≢false (ap is_over (sym e) ∙ going)) ended).0 in
        let back = marker_back last_at k (omega arith) last in
        let same : k - last_at ≡ count - marker_packets = omega arith in
        record { some = omega (arith, back.0); starts = rw same at back.1; last = last; ended = ended }

    -- behind the first marker the registers are asked
    two_markers : v.at < v.ends → 2 * marker_packets ≤ count
    two_markers more =
        by_test (leb (2 * marker_packets) count) (leb-true (2 * marker_packets) count)
        (λ few.
        let less : count < 2 * marker_packets = leb-false (2 * marker_packets) count few in
        let m = last_marker in
        let first = along_marker (count - marker_packets) 0 v replies begins read (omega (arith, m.some)) in
        let only : count - 1 ≡ last_at = omega (arith, m.some, ap mark_at (sym first.stage ∙ m.starts)) in
        let on = along_marker last_at 0 v replies begins read (omega arith) in
        let here = heard_all v (take last_at replies) in
        let ended : (heard here (get_or replies last_at 0)).stage ≡ AsRead = rw only at m.ended in
        let asks : (heard here (get_or replies last_at 0)).stage ≡ Asking 0 First =
        ap (λ (x : Visit). x.stage) (mark_read here last_at (get_or replies last_at 0) [] on.stage ended).1
        ∙ rw (on.ends, on.at, lt-leb v.ends v.at more) in
        absurd (true≢false (ap is_as_read (sym ended ∙ asks))))

-- "Replies stood where they must at each marker": whatever the replies are, for every table.
pub read_is_marked : (address longwords : ℕ) (replies : List ℕ) → (heard_all (begun address longwords) replies).stage ≡ AsRead
    → ReadIsMarked (begun address longwords) replies
read_is_marked address longwords replies read =
    let v = begun address longwords in
    let each = stands v replies read in
    record {
      each = each;
      first = each 0 refl;
      last = each (replies_heard v replies - marker_packets) (last_marker v refl replies read).starts;
      two = two_markers v refl replies read (omega arith);
    }
