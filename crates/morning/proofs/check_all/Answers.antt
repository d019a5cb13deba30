use Rattle.answers.specs.Bench.{left}
use Rattle.morning.specs.Morning.{p9, first}
use Rattle.morning.specs.MorningLaws.{page_whole, eight_boards}
use Rattle.morning.proofs.check_all.Goals as goal

pub returns : goal.returns
returns c = page_whole _ p9 (eight_boards (left first c.args.memory.now)) c.check_boards-checked.ensures c.check_listing-judged.ensures c.put_verdict.ensures
