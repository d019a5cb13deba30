use Rattle.std.proofs.Common.{◌≡◌, ◌-◌, arith, sym, length, take, drop, take_all, length-drop}
use Rattle.numbers.specs.NumberLaws.{number_empty, number_begins}
use Rattle.numbers.proofs.read_number.Goals as goal

pub returns-then-word-start : goal.returns-then-word-start
returns-then-word-start c = sym (number_empty c.args.word.now c.prefix_length-start.result c.prefix_length-start.ensures (omega arith))

pub loop-byte-init : goal.loop-byte-init
loop-byte-init c =
    let word = c.args.word.now in
    let start = c.prefix_length-start.result in
    let rest : take (length word - start) (drop start word) ≡ drop start word = take_all (length word - start) (drop start word) (omega (arith, length-drop start word)) in
    (omega arith, rw rest (number_begins word start c.prefix_length-start.ensures c.if-word-start.false))
