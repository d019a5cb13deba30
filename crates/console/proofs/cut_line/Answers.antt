use mathlib.Core.Path.{refl, ap, sym, ◌∙◌}
use native.Mathlib.Omega.{arith}
use lib.ListN.{length}
use Rattle.console.specs.InputLineLaws.{line_goes_on, line_stops, line_out}
use Rattle.console.specs.HoldingLaws.{further}
use borrow.Author.Tests.{ne_eqb}
use Rattle.console.proofs.cut_line.Goals as goal

pub loop-i-init : goal.loop-i-init
loop-i-init c = record { within = c.requires; ended = refl; taken = omega arith; held = refl; more = omega arith; rest = refl }

pub returns-then-is_line_end : goal.returns-then-is_line_end
returns-then-is_line_end c = let stops = line_stops c.args.bytes.now c.loop-i.i c.loop-i-test.true (sym c.is_line_end.ensures ∙ c.if-is_line_end.true) in
    let inv = c.loop-i.invariant in
    let ends = inv.ended ∙ stops.1 in
    record {
      ended = sym ends;
      taken = rw ends (omega (arith, inv.taken, ap length stops.0));
      none = sym (ne_eqb (length c.args.bytes.now) 0 (λ q. omega (arith, q, c.loop-i-test.true)));
      more = inv.more;
      within = inv.within;
      line = sym (inv.held ∙ rw stops.0);
      rest = inv.rest;
    }

pub loop-i-preserved : goal.loop-i-preserved
loop-i-preserved c = let here = c.loop-i in
    let inv = here.invariant in
    let put = c.hold_byte-held in
    let goes_on = line_goes_on c.args.bytes.now here.i c.loop-i-test.true (sym c.is_line_end.ensures ∙ c.if-is_line_end.false) in
    record {
      within = omega (arith, put.ensures.within, put.auto.line);
      ended = inv.ended ∙ goes_on.1;
      taken = omega (arith, inv.taken, ap length goes_on.0);
      held = inv.held ∙ rw (goes_on.0, put.ensures.line, here.auto.line);
      more = omega (arith, inv.more, put.ensures.more);
      rest = put.ensures.rest ∙ further here.held _ here.line _ put.ensures.more inv.rest;
    }

pub returns : goal.returns
returns c = let out = line_out c.args.bytes.now c.loop-i.i c.loop-i-test.false in
    let inv = c.loop-i.invariant in
    let ends = inv.ended ∙ out.1 in
    record {
      ended = sym ends;
      taken = rw ends (omega (arith, inv.taken, ap length out.0));
      none = refl;
      more = inv.more;
      within = inv.within;
      line = sym (inv.held ∙ rw out.0);
      rest = inv.rest;
    }
