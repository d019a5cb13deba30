use mir.Val.{Fits}
use mir.Syntax.{w32}
use lib.ListN.{get_or}
use borrow.Author.Rules.{rules}
use Rattle.exchange.proofs.note_types.Goals as goal

pub returns : goal.returns
returns c = let at = c.args in
    record {
      general = λ i. let f : Fits w32 (get_or at.board.registers.general i 0) = search rules in f.fits;
      control = λ i. let f : Fits w32 (get_or at.board.registers.control i 0) = search rules in f.fits;
      debug =
          record {
            csr = search rules;
            baar = search rules;
            aatr = search rules;
            tdr = search rules;
            pbr = search rules;
            pbmr = search rules;
            abhr = search rules;
            ablr = search rules;
            dbr = search rules;
            dbmr = search rules;
          };
      phase = c.note_phase.ensures;
      bytes = λ i. (c.type_inv.memory i).fits;
    }
