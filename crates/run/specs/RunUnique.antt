-- A run of packets: no second answer fits.
use Rattle.std.specs.Prelude.{ℕ, ◌≡◌, List}
use Rattle.std.proofs.Common.{sym, ap, ◌∙◌}
use Rattle.grounds.specs.GroundLaws.{told_unique}
use Rattle.board.specs.State.{State}
use Rattle.run.specs.declared.Ran.{Ran}
use Rattle.run.specs.Run.{RunMeets}

pub run_unique : {s : State} {words before : List ℕ} {q r : Ran} {x y u v : List ℕ}
    → RunMeets s words before q x u → RunMeets s words before r y v → (q ≡ r) × (x ≡ y) × (u ≡ v)
run_unique {q = q} {r = r} f g =
    let same = f.state ∙ sym g.state in (
      ap (λ o. record { verdict = o; board = q.board; place = q.place }) (told_unique q.verdict r.verdict (f.answer ∙ sym g.answer))
          ∙ ap (λ (s : State). record { verdict = r.verdict; board = s.board; place = s.place }) same,
      ap (λ (s : State). s.memory) same,
      f.answers ∙ sym g.answers,
    )
