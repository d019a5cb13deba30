-- Laws of texts written from a buffer: a line is a text and its end, and texts that follow others.
use Rattle.std.specs.Prelude.{ℕ, ◌≡◌, refl, List, [], ◌∷◌, ◌++◌, length}
use Rattle.std.proofs.Common.{◌∙◌}
use Rattle.std.proofs.Math.Seq.{length-sets}
use Rattle.text.specs.Text.{written, end_of, Puts}
use Rattle.text.specs.TextLaws.{◌then◌}
use Rattle.console.specs.LineWriting.{line_end, laid}

-- a text put at the front, and its end behind it
pub line_laid : {before after : List ℕ} {text middle : List ℕ} {end : ℕ} → Puts before 0 text middle end → after ≡ written middle end line_end
    → after ≡ written before 0 (text ++ line_end)
line_laid {before} {after} {text} {middle} {end} p e =
    let ended : Puts middle end line_end after (end_of end 1 (length middle)) = record { bytes = e; place = refl } in (p then ended).bytes

pub laid_length : (buffer : List ℕ) (texts : List (List ℕ)) → length (laid buffer texts) ≡ length buffer
laid_length buffer [] = refl
laid_length buffer (text ∷ texts) = laid_length (written buffer 0 text) texts ∙ length-sets buffer 0 text

pub laid_on : (buffer : List ℕ) (texts more : List (List ℕ)) → laid buffer (texts ++ more) ≡ laid (laid buffer texts) more
laid_on buffer [] more = refl
laid_on buffer (text ∷ texts) more = laid_on (written buffer 0 text) texts more
