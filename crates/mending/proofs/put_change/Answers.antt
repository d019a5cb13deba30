use mathlib.Core.Path.{refl, sym}
use native.Mathlib.Nat.{add-zero}
use native.Mathlib.Omega.{arith}
use borrow.Author.Tests.{eq-eqb, ne_eqb}
use Rattle.mending.proofs.put_change.Goals as goal

-- src/lib.rt:104:9
pub returns-then-left-old : goal.returns-then-left-old
returns-then-left-old c = rw (eq-eqb _ _ c.if-left-old.true) (record { place = sym (add-zero _); stored = refl })

-- src/lib.rt:106:5
pub bounds-list-at : goal.bounds-list-at
bounds-list-at c = omega (arith, rw (ne_eqb _ _ c.if-left-old.false) at c.requires.1)

-- src/lib.rt:99:1
pub returns : goal.returns
returns c = rw (ne_eqb _ _ c.if-left-old.false) (record { place = refl; stored = refl })
