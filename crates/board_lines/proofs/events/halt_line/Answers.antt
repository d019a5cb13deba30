use Rattle.std.proofs.Common.{◌+◌, refl, drop}
use Rattle.words.specs.LineWords.{word_length}
use Rattle.words.specs.LineWordLaws.{no_word, next_word}
use Rattle.board_lines.proofs.events.halt_line.Goals as goal

pub returns-in-Some : goal.returns-in-Some
returns-in-Some c =
    let words = c.next.new.self in
    let none = no_word words.line.now words.at c.word_start.result c.word_start.ensures c.if-words-word_start.true in
    rw (c.in-Some.ensures.steps.first, none, ← c.halt_form.ensures)

pub returns-in_default : goal.returns-in_default
returns-in_default c =
    let words = c.next.new.self in
    let start = c.word_start.result in
    let more = next_word words.line.now words.at start c.word_start.ensures (start + word_length (drop start words.line.now)) c.if-words-word_start.false refl in
    rw (c.in-Some.ensures.steps.first, more)
