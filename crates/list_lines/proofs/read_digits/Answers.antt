use mathlib.Core.Path.{◌≡◌, refl, sym, ◌∙◌}
use native.Mathlib.Omega.{arith}
use borrow.Author.Rules.{rules}
use borrow.Author.Tests.{eq-eqb, ne_eqb, lt-ltb, le-ltb}
use Rattle.std.specs.Prelude.{ℕ, true, false, cond, ltb, None, Option}
use Rattle.std.specs.Char.{is_ascii_digit}
use Rattle.std.proofs.lemmas.Bool.Decides.{nat_tests}
use Rattle.list_lines.specs.ListLinesLaws.{digits_here, digits_none}
use Rattle.list_lines.proofs.read_digits.Goals as goal

pub loop-i-init : goal.loop-i-init
loop-i-init c = (omega arith, refl)

-- a byte that is no digit is below them or above
no_digit : (byte : ℕ) (f : Option (ℕ × ℕ)) → is_ascii_digit byte ≡ false → cond (ltb byte 48) None (cond (ltb 57 byte) None f) ≡ None
no_digit byte f e = grind (arith, nat_tests)

a_digit : (byte : ℕ) (f : Option (ℕ × ℕ)) → is_ascii_digit byte ≡ true → cond (ltb byte 48) None (cond (ltb 57 byte) None f) ≡ f
a_digit byte f e = grind (arith, nat_tests)

pub returns-then-byte-end : goal.returns-then-byte-end
returns-then-byte-end c = let w = c.loop-i in
    let a = c.args in
    let here = digits_here a.most a.end w.value w.i a.bytes.now (search rules) in
    sym (rw (eq-eqb _ _ c.if-byte-end.true) at here) ∙ w.invariant.1

pub returns-then-not-is_ascii_digit : goal.returns-then-not-is_ascii_digit
returns-then-not-is_ascii_digit c = let w = c.loop-i in
    let a = c.args in
    let here = digits_here a.most a.end w.value w.i a.bytes.now (search rules) in
    sym (rw (ne_eqb _ _ c.if-byte-end.false, no_digit _ _ (sym c.is_ascii_digit.ensures.value ∙ c.if-not-is_ascii_digit.true)) at here) ∙ w.invariant.1

pub returns-then-from-value : goal.returns-then-from-value
returns-then-from-value c = let w = c.loop-i in
    let a = c.args in
    let here = digits_here a.most a.end w.value w.i a.bytes.now (search rules) in
    sym (rw (ne_eqb _ _ c.if-byte-end.false, a_digit _ _ (sym c.is_ascii_digit.ensures.value ∙ c.if-not-is_ascii_digit.false), lt-ltb _ _ (rw (c.from-in-loop-i.ensures, c.from.ensures) at c.if-from-value.true)) at here) ∙ w.invariant.1

pub loop-i-preserved : goal.loop-i-preserved
loop-i-preserved c = let w = c.loop-i in
    let a = c.args in
    let here = digits_here a.most a.end w.value w.i a.bytes.now (search rules) in
    (search rules, rw c.from.ensures (sym (rw (ne_eqb _ _ c.if-byte-end.false, a_digit _ _ (sym c.is_ascii_digit.ensures.value ∙ c.if-not-is_ascii_digit.false), le-ltb _ _ (rw (c.from-in-loop-i.ensures, c.from.ensures) at c.if-from-value.false)) at here) ∙ w.invariant.1))

pub returns : goal.returns
returns c = let w = c.loop-i in
    let a = c.args in
    sym (digits_none a.most a.end w.value w.i a.bytes.now (search rules)) ∙ w.invariant.1
