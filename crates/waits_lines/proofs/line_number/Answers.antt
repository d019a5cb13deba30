use Prim.Native.Nat.{suc, ◌+◌}
use mathlib.Core.Path.{◌≡◌, refl, sym, ◌∙◌}
use mathlib.Core.Bool.{Bool, true, false, cond}
use Prim.Native.Nat.{ℕ, ◌≤◌}
use mir.Val.{bool_byte}
use native.Mathlib.Omega.{arith}
use Rattle.waits_lines.specs.WaitsLinesLaws.{numbered_on, numbered_out}
use Rattle.waits_lines.proofs.line_number.Goals as goal

one_more : (n : ℕ) {m : ℕ} (t : Bool) → m ≡ bool_byte t → n + m ≡ cond t (suc n) n
one_more n true e = omega (arith, e)
one_more n false e = omega (arith, e)

at_most_one : {m : ℕ} (t : Bool) → m ≡ bool_byte t → m ≤ 1
at_most_one true e = omega (arith, e)
at_most_one false e = omega (arith, e)

pub loop-byte-init : goal.loop-byte-init
loop-byte-init c = (omega arith, refl)

pub loop-byte-preserved : goal.loop-byte-preserved
loop-byte-preserved c = let at = c.loop-byte in
    let one = c.ends_one in
    let more = one_more at.n one.result c.from-n.ensures in (
      omega (arith, at_most_one one.result c.from-n.ensures, at.invariant.0),
      rw (more, one.ensures) (sym (numbered_on at.n at.after_cr c.args.before.now at.byte-index c.loop-byte-test.true) ∙ at.invariant.1),
    )

pub returns : goal.returns
returns c = let at = c.loop-byte in sym (numbered_out at.n at.after_cr c.args.before.now at.byte-index c.loop-byte-test.false) ∙ at.invariant.1
