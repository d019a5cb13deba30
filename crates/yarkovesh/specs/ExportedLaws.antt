-- Laws of the exported functions: what they rest on is what they promise.
use Rattle.std.specs.Prelude.{ℕ, length, ◌≡◌, refl, List, Err, Ok, Result, ⊤}
use Rattle.std.proofs.Common.{sym, ap, ◌∙◌, subst₂}
use Rattle.grounds.specs.declared.Ground.{Ground}
use Rattle.grounds.specs.Grounds.{number, if_accepted}
use Rattle.grounds.specs.GroundLaws.{told_unique}
use Rattle.board.specs.declared.Board.{Board}
use Rattle.board.specs.declared.Place.{Place}
use Rattle.board.specs.declared.Made.{Made}
use Rattle.board.specs.Board.{making_verdict, MakingMeets}
use Rattle.board.specs.State.{State, state_of}
use Rattle.run.specs.declared.Ran.{Ran}
use Rattle.run.specs.Run.{run_verdict, ran, RunMeets}
use Rattle.yarkovesh.specs.Exported.{verdict_number, fresh, FreshRunMeets}

-- a run on the board that was made
pub run_is_fresh : {w : ℕ} {m words before left out : List ℕ} {made : Made} {r : Ran} → MakingMeets w made → made.verdict ≡ Ok tt
    → RunMeets (state_of made.board made.place m) words before r left out → FreshRunMeets w m words before (verdict_number r.verdict) left out
run_is_fresh {w} {m} {words} {before} {left} {out} {made} {r} making accepted run = record {
  answer = rw (judged) (ap (λ t. t.number) here.answer);
  memory = rw (judged) (ap (λ (s : State). s.memory) here.state ∙ memory_left (run_verdict (fresh w m) words (length before)));
  answers = rw (judged) here.answers;
}
  where
    judged : making_verdict w ≡ Ok tt
    judged = sym (told_unique made.verdict (making_verdict w) making.answer) ∙ accepted

    here : RunMeets (fresh w m) words before r left out
    here = subst₂ (λ (b : Board) (p : Place). RunMeets (state_of b p m) words before r left out) making.board making.place run

    memory_left : (v : Result ⊤ Ground) → (if_accepted v (ran words (fresh w m)) (fresh w m)).memory ≡ if_accepted v (ran words (fresh w m)).memory m
    memory_left (Ok _) = refl
    memory_left (Err g) = refl

-- a board that is not made runs nothing
pub refused_is_fresh : {w : ℕ} {m words before : List ℕ} {made : Made} {g : Ground} → MakingMeets w made → made.verdict ≡ Err g
    → FreshRunMeets w m words before (number g) m before
refused_is_fresh {w} {m} {words} {before} {made} {g} making refused = record {
  answer = rw (judged);
  memory = rw (judged);
  answers = rw (judged);
}
  where
    judged : making_verdict w ≡ Err g
    judged = sym (told_unique made.verdict (making_verdict w) making.answer) ∙ refused
