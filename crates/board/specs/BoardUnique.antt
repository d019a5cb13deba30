-- Making a board: no second answer fits.
use Rattle.std.specs.Prelude.{ℕ, ◌≡◌}
use Rattle.std.proofs.Common.{ap, sym, ◌∙◌}
use Rattle.grounds.specs.GroundLaws.{told_unique}
use Rattle.board.specs.declared.Made.{Made}
use Rattle.board.specs.Board.{MakingMeets}

pub making_unique : {w : ℕ} {r s : Made} → MakingMeets w r → MakingMeets w s → r ≡ s
making_unique {w} {r} {s} f g =
    ap (λ v. record { verdict = v; board = r.board; place = r.place }) (told_unique r.verdict s.verdict (f.answer ∙ sym g.answer))
    ∙ ap (λ b. record { verdict = s.verdict; board = b; place = r.place }) (f.board ∙ sym g.board)
    ∙ ap (λ p. record { verdict = s.verdict; board = s.board; place = p }) (f.place ∙ sym g.place)
