use Rattle.std.proofs.Common.{◌≡◌, ◌∙◌, get_or, rules}
use Rattle.visit.specs.VisitWordLaws.{asked_then_nops}
use Rattle.visit.proofs.word_of.Goals as goal

pub returns : goal.returns
returns c = let held : c.unwrap_or.result ≡ get_or c.build.new.words c.args.sent 0 = search rules in
    held ∙ asked_then_nops c.args.address c.args.j (rw c.request_at.ensures at c.build.ensures) c.args.sent
