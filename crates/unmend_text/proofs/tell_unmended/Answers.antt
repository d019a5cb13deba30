use Rattle.unmend_text.proofs.tell_unmended.Goals as goal

pub returns : goal.returns
returns c = let m = c.unmend_input-unmended.ensures in
    record {
      told = rw m.answer at c.put_unmended-end.ensures;
      from = rw m.answer at c.written_from.ensures;
      bytes = m.bytes;
      list = m.list;
    }
