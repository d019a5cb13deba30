use Rattle.std.proofs.Common.{◌≡◌, ◌+◌, refl, [], drop}
use Rattle.words.specs.LineWords.{word_length, last_end}
use Rattle.words.specs.LineWordLaws.{no_word, next_word}
use Rattle.words.specs.WordSteps.{words_left}
use Rattle.board_lines.proofs.bytes_line.Goals as goal

pub returns-then-word_start-words : goal.returns-then-word_start-words
returns-then-word_start-words c =
    let words = c.next-2.new.self in
    let start = c.word_start.result in
    let third = next_word words.line.now words.at start c.word_start.ensures (start + word_length (drop start words.line.now)) c.if-word_start-words.true refl in
    rw (c.in-Some.ensures.steps.first, c.in-Some-next.ensures.steps.first, third)

pub returns : goal.returns
returns c =
    let words = c.next-2.new.self in
    let one = c.in-Some.ensures.steps in
    let two = c.in-Some-next.ensures.steps in
    let none : words_left words ≡ [] = no_word words.line.now words.at c.word_start.result c.word_start.ensures c.if-word_start-words.false in
    let last : last_end c.args.words.line.now ≡ words.at = rw one.line at two.closes none in
    rw (one.first, two.first, none, last, ← c.read_number.ensures, ← c.hex_line.ensures)
