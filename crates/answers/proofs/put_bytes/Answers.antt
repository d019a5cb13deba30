use Rattle.text.specs.TextLaws.{◌then◌}
use mathlib.Core.Path.{refl, sym, ◌∙◌}
use Rattle.answers.proofs.put_bytes.Goals as goal

pub returns-then-put_bytes : goal.returns-then-put_bytes
returns-then-put_bytes c = let put = c.put_bytes.ensures in
    record {
      bench = refl;
      memory = put.1;
      text = rw (sym put.0 ∙ c.if-put_bytes.true) (c.put_text-at.ensures
          then c.put_number-end.ensures);
    }
