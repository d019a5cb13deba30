-- Last spring's fault: a visit to a port whose replies come 1 to 21 packets late never ends as read, nor one to a port that begins to be late and stays so.
use Rattle.std.specs.Prelude.{ℕ, suc, ◌+◌, ◌-◌, ◌≤◌, ◌<◌, ◌≡◌, refl, List, eqb, leb}
use Rattle.std.proofs.Common.{zero-le, le_refl, arith, eqb-true, leb-true, leb-false}
use Rattle.std.proofs.lemmas.Bool.{eqb-false}
use Rattle.laws.specs.TestLaws.{by_test}
use Rattle.board.specs.State.{State}
use Rattle.sound.specs.Sound.{Sound}
use Rattle.visit.specs.declared.Stage.TheVariants.{AsRead}
use Rattle.joined.specs.VisitReads.{starts_at}
use Rattle.late_replies.specs.LateReplies.{Late, Lag, Begins, reach, LateAt, Stays, stage_at, Passes, EndsAt}
use Rattle.late_replies.specs.MarkerReplyLaws.{late_no_illegal}
use Rattle.late_replies.specs.LaggedVisitLaws.{known, passed, ends_past_marker, first_read, read_stays}

module _ (lag : Lag) (l : Late) (b : Begins l) where
  -- The reply that passes a marker at its 23rd packet is none that is 1 to 21 packets late.
  pub marker_in_time : (i : ℕ) → LateAt lag i → Passes lag l i → ⊥
  marker_in_time i late p = late_no_illegal (known lag l b i) (passed lag l b i p).0 (lag i) late.0 late.1 (passed lag l b i p).1

  -- A visit that ends as read has more than one packet, and what came in for the one before the last was not 1 to 21 packets late.
  pub as_read_in_time : (n : ℕ) → EndsAt lag l n → (1 ≤ n) × (LateAt lag (n - 1) → ⊥)
  as_read_in_time n e =
      let m = ends_past_marker lag l b n e in
      let before : n - 1 ≡ m.0 = omega (arith, m.1) in
      (omega (arith, m.1), rw before (λ late. marker_in_time m.0 late m.2))

  -- What never shrinks up to a marker that is passed is 0 up to there: each of those replies came in for its own packet.
  pub blocks_in_time : (a i : ℕ) → Stays lag a i → Passes lag l i → (x : ℕ) → a ≤ x → x ≤ i → lag x ≡ 0
  blocks_in_time a i stays p x from upto =
      by_test (eqb (lag i) 0)
      (λ e. let none : lag i ≡ 0 = eqb-true (lag i) 0 e in omega (arith, stays.grows x i from upto (le_refl i)))
      (λ e. let some : lag i ≡ 0 → ⊥ = eqb-false (lag i) 0 e in absurd (marker_in_time i (omega arith, stays.within) p))

  -- Where a visit ends as read and the lag never shrank, it was 0 at every packet but, it may be, the last.
  pub begins_and_stays : (n : ℕ) → EndsAt lag l n → Stays lag 0 (n - 1) → (i : ℕ) → i < n → lag i ≡ 0
  begins_and_stays n e stays i less =
      let m = ends_past_marker lag l b n e in
      let before : n - 1 ≡ m.0 = omega (arith, m.1) in
      blocks_in_time 0 m.0 (rw before at stays) m.2 i zero-le (omega (arith, m.1))

  -- A lag that begins at any packet of the visit but its last, and stays, whatever came before: the visit never ends as read.
  pub late_from_there : (a : ℕ) → 1 ≤ lag a → ((i : ℕ) → a ≤ i → Stays lag a i) → (stage_at lag l (suc a) ≡ AsRead → ⊥)
      → (k : ℕ) → stage_at lag l k ≡ AsRead → ⊥
  late_from_there a some stays more k read =
      let f = first_read lag l b k read in
      let m = ends_past_marker lag l b f.0 f.2 in
      by_test (leb a m.0)
      (λ t.
      let upto : a ≤ m.0 = leb-true a m.0 t in
      omega (arith, blocks_in_time a m.0 (stays m.0 upto) m.2 a (le_refl a) upto))
      (λ t.
      let past : m.0 < a = leb-false a m.0 t in
      let there : (a - f.0) + suc f.0 ≡ suc a = omega (arith, m.1) in
      more (rw there at (read_stays lag l b (a - f.0) (suc f.0) f.2.read)))

  -- Nor does one whose replies are late at every packet, each by 1 to 21.
  pub always_late : ((i : ℕ) → LateAt lag i) → (k : ℕ) → stage_at lag l k ≡ AsRead → ⊥
  always_late late k read = let f = first_read lag l b k read in (as_read_in_time f.0 f.2).1 (late (f.0 - 1))

-- Last spring's fault: against a port whose replies come d packets late, d from 1 to 21, no visit ends as read.
pub never_as_read : (d : ℕ) → 1 ≤ d → d ≤ reach → (l : Late) → Begins l → (k : ℕ) → stage_at (λ i. d) l k ≡ AsRead → ⊥
never_as_read d some few l b k read = always_late (λ i. d) l b (λ i. (some, few)) k read

-- Every visit begins so, for every table, at every port that is sound, whatever was replied before.
pub visit_begins : (address longwords : ℕ) (notes before : List ℕ) {s : State} → Sound s
    → Begins (record { joined = starts_at address longwords notes s; replies = before })
visit_begins address longwords notes before f = record { sound = f; marks = refl }
