-- Laws of the bench: what making leaves is what the line says.
use Rattle.std.specs.Prelude.{ℕ, ◌≡◌, [], leb, Err, Ok, Result, ⊤}
use Rattle.std.proofs.Common.{sym, ◌∙◌}
use Rattle.grounds.specs.declared.Ground.{Ground}
use Rattle.grounds.specs.declared.Ground.TheVariants.{WaitTooLarge}
use Rattle.grounds.specs.GroundLaws.{told_unique, accepted_holds}
use Rattle.board.specs.declared.Made.{Made}
use Rattle.board.specs.Board.{fresh_board, fresh_place, making_verdict, setting_made, MakingMeets}
use Rattle.grounds.specs.Grounds.{if_accepted}
use Rattle.answers.specs.declared.Bench.{Bench}
use Rattle.answers.specs.Bench.{bench_of}

-- a board that is made has the setting asked for
setting_asked : (w : ℕ) → making_verdict w ≡ Ok tt → setting_made w ≡ w
setting_asked w e = rw (accepted_holds (leb w 15) WaitTooLarge [] e).0

-- what making answered is its verdict
pub judged : {w : ℕ} {made : Made} {v : Result ⊤ Ground} → MakingMeets w made → made.verdict ≡ v → making_verdict w ≡ v
judged {w} {made} making e = sym (told_unique made.verdict (making_verdict w) making.answer) ∙ e

pub made_anew : {w : ℕ} {made : Made} (bench : Bench) → MakingMeets w made → made.verdict ≡ Ok tt
    → bench_of made.board made.place bench.lent ≡ if_accepted (making_verdict w) (bench_of (fresh_board w) fresh_place bench.lent) bench
made_anew {w} bench making e = let accepted = judged making e in rw (accepted, making.board, making.place, setting_asked w accepted)

pub kept_old : {w : ℕ} {made : Made} {g : Ground} (bench : Bench) → MakingMeets w made → made.verdict ≡ Err g
    → bench ≡ if_accepted (making_verdict w) (bench_of (fresh_board w) fresh_place bench.lent) bench
kept_old bench making e = let refused = judged making e in rw refused
