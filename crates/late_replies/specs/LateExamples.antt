-- Late replies, computed: the first marker of a visit to a board of W = 0, its replies in time and late.
use Rattle.std.specs.Prelude.{ℕ, ◌≡◌, refl, List, [], replicate}
use Rattle.command.specs.Command.{decoded, decoded_word}
use Rattle.command.specs.Reply.{complete, illegal}
use Rattle.board.specs.declared.Chain.TheVariants.{Off}
use Rattle.board.specs.declared.Phase.TheVariants.{Rest}
use Rattle.board.specs.Board.{fresh_board, fresh_place}
use Rattle.board.specs.Setters.{place_with}
use Rattle.board.specs.State.{state_of}
use Rattle.plan.specs.Plan.{work_after, collected, begun}
use Rattle.step.specs.Step.{plan_for, reply_now, stepped}
use Rattle.readings.specs.declared.Reader.TheVariants.{First}
use Rattle.asked.specs.Marker.{last_at, mark_word, mark_holds}
use Rattle.visit.specs.declared.Reason.TheVariants as reason
use Rattle.visit.specs.declared.Stage.TheVariants.{Marking, Asking, NotRead}
use Rattle.visit.specs.Visit.{next_of, heard, noted}
use Rattle.joined.specs.Joined.{exchanged_for}
use Rattle.joined.specs.VisitReads.{starts_at}
use Rattle.late_replies.specs.LateReplies.{Late, lagged, stage_at}

-- no table; a board that holds this reply, and what it replied before
abbrev pub starts : ℕ → List ℕ → Late
starts next before =
    record { joined = starts_at 0 0 [] (state_of (fresh_board 0) (place_with fresh_place Rest Off 0 next) []); replies = before }

pub record FirstMarker : Type 0 where
  -- in time: 1FFFF comes in for the 23rd packet, and after the 24th the first request is next
  pub passed : stage_at (λ i. 0) (starts complete []) 23 ≡ Marking last_at
  pub then_asks : stage_at (λ i. 0) (starts complete []) 24 ≡ Asking 0 First
  -- one packet late, or 21, the visit ends there
  pub one_late : stage_at (λ i. 1) (starts complete []) 23 ≡ NotRead reason.Late
  pub many_late : stage_at (λ i. 21) (starts complete (replicate 21 complete)) 23 ≡ NotRead reason.Late
  -- 22 packets late, a 1FFFF that the board held before the visit passes for the marker's: by itself a marker tells no more than 21
  pub too_late : stage_at (λ i. 22) (starts illegal (replicate 22 complete)) 24 ≡ Asking 0 First

pub first_marker : FirstMarker
unfolding lagged exchanged_for heard noted next_of mark_word mark_holds reply_now stepped plan_for begun collected work_after decoded decoded_word
    fresh_board fresh_place
first_marker = record { passed = refl; then_asks = refl; one_late = refl; many_late = refl; too_late = refl }
