-- A marker joined with the stand-in: from wherever the port stands its 24 packets are answered as they must be, and leave it at rest with no chain.
use Prim.Native.Nat.{ℕ, zero, suc, ◌+◌, ◌-◌, ◌≤◌}
use native.Mathlib.Omega.{arith}
use Rattle.std.proofs.Math.Nat.{add-zero}
use Rattle.std.specs.Prelude.{◌≡◌, true, false, List, ◌++◌}
use Rattle.std.proofs.Math.Path.{refl, ap}
use Rattle.std.proofs.Common.{sym, ◌∙◌, le-leb, ne_eqb}
use Rattle.std.proofs.lemmas.List.{replicate-append-replicate}
use Rattle.laws.specs.TestLaws.{by_test}
use Rattle.command.specs.Command.{decoded, decoded_word}
use Rattle.command.specs.Reply.{complete, illegal}
use Rattle.board.specs.declared.Standing.{Standing}
use Rattle.board.specs.State.{State}
use Rattle.plan.specs.Plan.{legal_word}
use Rattle.step.specs.Step.{reply_now, stepped}
use Rattle.run.specs.Run.{ran}
use Rattle.sound.specs.Sound.{Sound}
use Rattle.sound.specs.SoundLaws.{packet_keeps_sound}
use Rattle.asked.specs.Marker.{nops_to_rest, illegal_at, last_at, marker_packets, illegal_word, mark_word, mark_holds}
use Rattle.visit.specs.declared.Stage.TheVariants.{Marking}
use Rattle.visit.specs.Visit.{after_marker}
use Rattle.round_trip.specs.Meaning.{Scene}
use Rattle.round_trip.specs.RoundTrip.{nops, resting, unchained, standing_in}
use Rattle.round_trip.specs.BroughtToRest.{rested, rest_budget, rest_scene, rest_packets}
use Rattle.round_trip.specs.PacketTakenLaws.{nop_at_rest, illegal_taken}
use Rattle.round_trip.proofs.BroughtToRestLaws.{comes_to_rest, rest_nops_bound, rest_packets_are_nops, rest_is_resting}
use Rattle.round_trip.proofs.NextRequestLaws.{ran_append}
use Rattle.joined.specs.Joined.{Joined, onward, joined}
use Rattle.joined.specs.JoinedLaws.{joined_more, joined_on, joined_none, visit_at, meeting, last_counted, reply_within, mark_on, mark_last}

-- ---- the port
-- at least one NOP at rest carries out whatever reply was held
nops_from_rest : (n : ℕ) (s : Scene) (next : ℕ) → ran (nops (suc n)) (resting s next) ≡ resting s complete
unfolding ran
nops_from_rest zero s next = nop_at_rest s next
nops_from_rest (suc n) s next = ap (ran (nops (suc n))) (nop_at_rest s next) ∙ nops_from_rest n s complete

-- a marker's NOPs are as many as bring every port to rest
pub nops_are_the_budget : nops_to_rest ≡ rest_budget
nops_are_the_budget = refl

-- "1 to 19 .. bring every port with W up to 15 to rest", "20 .. carries out the closing reply of what was under way"
pub brought_to_rest : {s : State} → Sound s → ran (nops (suc nops_to_rest)) s ≡ resting (rest_scene s) complete
brought_to_rest {s} f =
    let n = rest_packets s in
    let few : n ≤ rest_budget = omega (arith, rest_nops_bound rest_budget f, f.board.small) in
    let k = rest_budget - n in
    let sum : n + suc k ≡ suc nops_to_rest = omega (arith, nops_are_the_budget) in
    let parts : nops (suc nops_to_rest) ≡ nops n ++ nops (suc k) = sym (replicate-append-replicate n (suc k) 0 ∙ ap nops sum) in
    ap (λ words. ran words s) parts
    ∙ ran_append (nops n) (nops (suc k)) s
    ∙ ap (ran (nops (suc k))) (sym (rest_packets_are_nops s) ∙ rest_is_resting (rested rest_budget s) (comes_to_rest f))
    ∙ nops_from_rest k (rest_scene s) (rested rest_budget s).place.next

-- "no command has this word"
pub no_command : (s : Standing) → legal_word illegal_word s ≡ false
unfolding decoded decoded_word
no_command s = by_test s.halted (λ e. rw e) (λ e. rw e)

-- ---- both
module _ (address ends at : ℕ) (notes : List ℕ) where
  abbrev marking : ℕ → ℕ → State → Joined
  marking p i s = meeting (visit_at address ends at p (Marking i)) notes s

  nop_marked : (p i : ℕ) (s : State) → Sound s → i ≤ nops_to_rest → suc p ≤ last_counted
      → onward (marking p i s) ≡ marking (suc p) (suc i) (stepped s 0)
  unfolding mark_word mark_holds
  nop_marked p i s f any more =
      mark_on address ends at p notes s (reply_within f) more i (omega arith) (rw (le-leb i nops_to_rest any))
      ∙ rw (ne_eqb i illegal_at (λ e. omega arith))

  nops_marked : (k p i : ℕ) (s : State) → Sound s → i + k ≤ suc nops_to_rest → p + k ≤ last_counted
      → joined k (marking p i s) ≡ marking (p + k) (i + k) (ran (nops k) s)
  unfolding ran
  nops_marked zero p i s f any more = joined_none (marking p i s) ∙ rw (add-zero p, add-zero i)
  nops_marked (suc k) p i s f any more =
      let packets : p + suc k ≡ suc p + k = omega arith in
      let number : i + suc k ≡ suc i + k = omega arith in
      joined_on k (marking p i s)
      ∙ ap (joined k) (nop_marked p i s f (omega arith) (omega arith))
      ∙ nops_marked k (suc p) (suc i) (stepped s 0) (packet_keeps_sound f 0) (omega arith) (omega arith)
      ∙ rw (packets, number)

  -- the packets after those, each at rest with a known reply
  module _ (s : Scene) where
    rest_marked : (p i next : ℕ) → next ≤ 0x1FFFF → suc i ≤ last_at → mark_holds i next ≡ true → suc p ≤ last_counted
        → onward (marking p i (resting s next)) ≡ marking (suc p) (suc i) (stepped (resting s next) (mark_word i))
    unfolding reply_now
    rest_marked p i next small before holds more = mark_on address ends at p notes (resting s next) small more i before holds

    last_marked : (p : ℕ) → suc p ≤ last_counted
        → onward (marking p last_at (resting s complete))
        ≡ meeting (visit_at address ends at (suc p) (after_marker ends at)) notes (stepped (resting s complete) (mark_word last_at))
    unfolding reply_now mark_holds
    last_marked p more = mark_last address ends at p notes (resting s complete) (omega arith) more refl

  -- "0FFFF", the illegal word, "1FFFF: the closing reply of the illegal word", "0FFFF"
  four_marked : (p : ℕ) (s : Scene) → p + 4 ≤ last_counted
      → joined 4 (marking p (suc nops_to_rest) (resting s complete))
      ≡ meeting (visit_at address ends at (p + 4) (after_marker ends at)) notes (resting (unchained s) complete)
  unfolding joined mark_holds mark_word
  four_marked p s more =
      let four : p + 4 ≡ suc (suc (suc (suc p))) = omega arith in
      let u = unchained s in
      ap (joined 3) (rest_marked s p 20 complete (omega arith) (omega arith) refl (omega arith) ∙ ap (marking (suc p) 21) (nop_at_rest s complete))
      ∙ ap (joined 2)
      (rest_marked s (suc p) 21 complete (omega arith) (omega arith) refl (omega arith)
      ∙ ap (marking (suc (suc p)) 22) (illegal_taken illegal_word complete s (no_command (standing_in s))))
      ∙ ap (joined 1)
      (rest_marked u (suc (suc p)) 22 illegal (omega arith) (omega arith) refl (omega arith)
      ∙ ap (marking (suc (suc (suc p))) 23) (nop_at_rest u illegal))
      ∙ last_marked u (suc (suc (suc p))) (omega arith)
      ∙ rw (four, nop_at_rest u complete)

  -- wherever the port stands: it is brought to rest, and only the chain is gone
  pub marker_joined : (p : ℕ) {s : State} → Sound s → p + marker_packets ≤ last_counted
      → joined marker_packets (meeting (visit_at address ends at p (Marking 0)) notes s)
      ≡ meeting (visit_at address ends at (p + marker_packets) (after_marker ends at)) notes (resting (unchained (rest_scene s)) complete)
  marker_joined p {s} f more =
      let packets : p + 24 ≡ p + 20 + 4 = omega arith in
      joined_more 20 4 (marking p 0 s)
      ∙ ap (joined 4) (nops_marked 20 p 0 s f (omega arith) (omega arith) ∙ ap (marking (p + 20) 20) (brought_to_rest f))
      ∙ four_marked (p + 20) (rest_scene s) (omega arith)
      ∙ rw packets
