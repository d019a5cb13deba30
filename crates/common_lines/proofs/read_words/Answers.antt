use Rattle.std.proofs.Common.{◌≡◌, ◌+◌, refl, ◌∷◌, drop}
use Rattle.words.specs.LineWords.{words, words_from, word_length}
use Rattle.words.specs.LineWordLaws.{no_word, next_word}
use Rattle.common_lines.proofs.read_words.Goals as goal

pub returns-in-Some : goal.returns-in-Some
returns-in-Some c =
    let line = c.args.line.now in
    let at = c.next.new.self.at in
    let took = c.in-Some.ensures.steps in
    let first : words line ≡ c.in-Some.name.now ∷ words_from line at = rw took.line at took.first in
    rw (first, no_word line at c.word_start.result c.word_start.ensures c.if-line-word_start.true, ← c.read_name.ensures)

pub returns-in_default : goal.returns-in_default
returns-in_default c =
    let line = c.args.line.now in
    let at = c.next.new.self.at in
    let start = c.word_start.result in
    let took = c.in-Some.ensures.steps in
    let first : words line ≡ c.in-Some.name.now ∷ words_from line at = rw took.line at took.first in
    rw (first, next_word line at start c.word_start.ensures (start + word_length (drop start line)) c.if-line-word_start.false refl)
