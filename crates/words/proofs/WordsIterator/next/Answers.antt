use Rattle.std.proofs.Common.{rules, arith, ap, refl, length}
use Rattle.words.specs.LineWordLaws.{no_word, word_bounds, next_word, none_behind, last_end_lem}
use Rattle.words.proofs.WordsIterator.next.Goals as goal

pub returns-then-self-start-clause-steps : goal.returns-then-self-start-clause-steps
returns-then-self-start-clause-steps c = (no_word c.args.self.now.line.now c.args.self.now.at c.word_start-start.result c.word_start-start.ensures c.if-self-start.true, refl)

pub slice_bounds-result-end : goal.slice_bounds-result-end
slice_bounds-result-end c =
    let old = c.args.self.now in
    (word_bounds old.line.now old.at c.word_start-start.result c.word_start-start.ensures c.word_end-self.result c.if-self-start.false c.word_end-self.ensures).2

pub returns-clause-steps : goal.returns-clause-steps
returns-clause-steps c =
    let old = c.args.self.now in
    let start = c.word_start-start.result in
    let stop = c.word_end-self.result in
    let bounds = word_bounds old.line.now old.at start c.word_start-start.ensures stop c.if-self-start.false c.word_end-self.ensures in
    record {
      first = next_word old.line.now old.at start c.word_start-start.ensures stop c.if-self-start.false c.word_end-self.ensures;
      line = refl;
      goes_on = omega (arith, bounds);
      inside = bounds.2;
      closes = λ none. last_end_lem old.line.now old.at start stop c.word_start-start.ensures c.if-self-start.false c.word_end-self.ensures (none_behind old.line.now stop none);
    }

pub returns-clause-goes : goal.returns-clause-goes
returns-clause-goes c =
    let old = c.args.self.now in
    let start = c.word_start-start.result in
    let stop = c.word_end-self.result in
    let shorter = ap length (next_word old.line.now old.at start c.word_start-start.ensures stop c.if-self-start.false c.word_end-self.ensures) in
    search rules
