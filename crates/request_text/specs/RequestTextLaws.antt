-- Laws of the text of requests: word by word.
use Rattle.std.specs.Prelude.{ℕ, ◌+◌, ◌<◌, ◌≡◌, List, ◌++◌, length, drop, get_or}
use Rattle.std.proofs.Common.{add-one, drop-cons}
use Rattle.text.specs.Text.{ascii}
use Rattle.text.specs.NumberText.{hex_text}
use Rattle.request_text.specs.RequestText.{each_word}

-- the words from one of them on
pub words_on : (words : List ℕ) (i : ℕ) → i < length words
    → each_word (drop i words) ≡ ascii " " ++ hex_text 5 (get_or words i 0) ++ each_word (drop (i + 1) words)
words_on words i h = rw (add-one, drop-cons words i 0 h)
