use Rattle.waits_page.proofs.put_verdict.Goals as goal

-- src/lib.rt:61:9
pub returns-then-same : goal.returns-then-same
returns-then-same c = rw c.if-same.true c.put_text.ensures

-- src/lib.rt:57:1
pub returns-else-same : goal.returns-else-same
returns-else-same c = rw c.if-same.false c.put_text-else-same.ensures
