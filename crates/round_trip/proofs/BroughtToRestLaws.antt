-- Laws of rest: NOPs bring every place within its ranges to rest, within the budget.
use Rattle.std.specs.Prelude.{ℕ, zero, suc, ◌+◌, ◌-◌, ◌≤◌, ◌≡◌, refl, true}
use Rattle.std.proofs.Common.{arith, ap}
use Rattle.board.specs.declared.Phase.{Phase}
use Rattle.board.specs.declared.Phase.TheVariants.{Rest, Due, Waiting, Upper}
use Rattle.board.specs.Board.{at_rest}
use Rattle.board.specs.Setters.{place_with}
use Rattle.board.specs.State.{State, state_of}
use Rattle.step.specs.Step.{stepped}
use Rattle.run.specs.Run.{ran}
use Rattle.sound.specs.Sound.{Sound}
use Rattle.sound.specs.SoundLaws.{packet_keeps_board, packet_keeps_sound}
use Rattle.rest.specs.ToGoLaws.{to_go, to_go_at_most, none_to_go, some_to_go}
use Rattle.rest.specs.NopLaws.{nop_takes_one_off}
use Rattle.round_trip.specs.RoundTrip.{nops, resting, scene_of}
use Rattle.round_trip.specs.BroughtToRest.{rested, rest_nops, rest_budget, rest_packets}
use Rattle.laws.specs.TestLaws.{by_test}

nop_leaves : {s : State} → Sound s → to_go (stepped s 0).board.w (stepped s 0).place.phase ≤ to_go s.board.w s.place.phase - 1
nop_leaves {s} f =
    rw (packet_keeps_board s.board.w s f.board f.place f.memory 0).setting (nop_takes_one_off s.board.w s refl f.place.phase)

rests_within : (k : ℕ) (s : State) → Sound s → to_go s.board.w s.place.phase ≤ k → at_rest (rested k s).place.phase ≡ true
unfolding rested
rests_within zero s f h = ap at_rest (none_to_go s.board.w s.place.phase f.place.phase h)
rests_within (suc k) s f h =
    by_test (at_rest s.place.phase) (λ t. rw t t) (λ t. rw t (rests_within k (stepped s 0) (packet_keeps_sound f 0) (omega (arith, nop_leaves f))))

-- the same of a run of NOPs that does not stop at rest
pub nops_rest : (n : ℕ) (s : State) → Sound s → to_go s.board.w s.place.phase ≤ n → at_rest (ran (nops n) s).place.phase ≡ true
unfolding ran
nops_rest zero s f h = ap at_rest (none_to_go s.board.w s.place.phase f.place.phase h)
nops_rest (suc n) s f h = nops_rest n (stepped s 0) (packet_keeps_sound f 0) (omega (arith, nop_leaves f))

-- 4 + W are enough
pub four_and_w : (k : ℕ) {s : State} → Sound s → 4 + s.board.w ≤ k → at_rest (rested k s).place.phase ≡ true
four_and_w k {s} f h = rests_within k s f (omega (arith, to_go_at_most s.board.w s.place.phase f.place.phase))

pub comes_to_rest : {s : State} → Sound s → at_rest (rested rest_budget s).place.phase ≡ true
comes_to_rest f = four_and_w rest_budget f (omega (arith, f.board.small))

pub rest_keeps_sound : (k : ℕ) (s : State) → Sound s → Sound (rested k s)
unfolding rested
rest_keeps_sound zero s f = f
rest_keeps_sound (suc k) s f = by_test (at_rest s.place.phase) (λ t. rw t f) (λ t. rw t (rest_keeps_sound k (stepped s 0) (packet_keeps_sound f 0)))

nops_within : (k : ℕ) (s : State) → Sound s → rest_nops k s ≤ to_go s.board.w s.place.phase
unfolding rest_nops
nops_within zero s f = omega arith
nops_within (suc k) s f =
    by_test (at_rest s.place.phase) (λ t. rw t (omega arith))
    (λ t.
    let some = rw t at (some_to_go s.board.w s.place.phase f.place.phase) in
    rw t (omega (arith, nops_within k (stepped s 0) (packet_keeps_sound f 0), nop_leaves f, some)))

-- no more than 4 + W go out
pub rest_nops_bound : (k : ℕ) {s : State} → Sound s → rest_nops k s ≤ 4 + s.board.w
rest_nops_bound k {s} f = omega (arith, nops_within k s f, to_go_at_most s.board.w s.place.phase f.place.phase)

-- it is the run of so many NOPs
pub rest_is_nops : (k : ℕ) (s : State) → rested k s ≡ ran (nops (rest_nops k s)) s
unfolding rested rest_nops ran
rest_is_nops zero s = refl
rest_is_nops (suc k) s = by_test (at_rest s.place.phase) (λ t. rw t) (λ t. rw t (rest_is_nops k (stepped s 0)))

pub rest_packets_are_nops : (s : State) → rested rest_budget s ≡ ran (nops (rest_packets s)) s
rest_packets_are_nops s = rest_is_nops rest_budget s

-- a place at rest is known by its scene and the reply it holds
pub rest_is_resting : (s : State) → at_rest s.place.phase ≡ true → s ≡ resting (scene_of s) s.place.next
rest_is_resting s t = by_phase s.place.phase t
  where
    by_phase : (phase : Phase) → at_rest phase ≡ true
        → state_of s.board (place_with s.place phase s.place.chain s.place.pointer s.place.next) s.memory
        ≡ resting (scene_of s) s.place.next
    by_phase Rest t = refl
    by_phase (Due c n o) t = cc
    by_phase (Waiting c n a v) t = cc
    by_phase (Upper low) t = cc
