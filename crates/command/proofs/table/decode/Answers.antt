use mathlib.Core.Path.{refl, sym}
use Prim.Native.Nat.{◌%◌}
use mathlib.Core.List.{[], ◌∷◌}
use borrow.Author.Tests.{ne_eqb}
use Rattle.command.specs.Command as commands
use Rattle.command.specs.TableMirror.{size_in, debug_at, nop_or_sync}
use Rattle.command.proofs.TableLaws.{under, entry, fill}
use Rattle.command.proofs.table.decode.Goals as goal

pub returns-in-8448 : goal.returns-in-8448
unfolding under
returns-in-8448 c = entry _ (λ lower. commands.rdreg (lower % 16)) c.allow.ensures c.in-8448.is refl refl refl

pub returns-in-8192 : goal.returns-in-8192
unfolding under
returns-in-8192 c = entry _ (λ lower. commands.wdreg (lower % 16)) c.allow-in-8192.ensures c.in-8192.is refl refl refl

pub returns-in-6400 : goal.returns-in-6400
unfolding under
returns-in-6400 c = entry _ (λ lower. commands.read (size_in lower)) c.allow-in-6400.ensures c.in-6400.is refl (cc) refl

pub returns-in-6144 : goal.returns-in-6144
unfolding under
returns-in-6144 c = entry _ (λ lower. commands.write (size_in lower)) c.allow-in-6144.ensures c.in-6144.is refl (cc) refl

pub returns-in-7424 : goal.returns-in-7424
unfolding under
returns-in-7424 c = entry _ (λ lower. commands.dump (size_in lower)) c.allow-in-7424.ensures c.in-7424.is refl (rw c.size_in-in-7424.ensures) refl

pub returns-in-7168 : goal.returns-in-7168
unfolding under
returns-in-7168 c = entry _ (λ lower. commands.fill (size_in lower)) c.allow-in-7168.ensures c.in-7168.is refl (rw c.size_in-in-7168.ensures) refl

pub returns-in-3072 : goal.returns-in-3072
unfolding under
returns-in-3072 c = entry _ (λ lower. commands.go) c.allow-in-3072.ensures c.in-3072.is refl refl refl

pub returns-in-0 : goal.returns-in-0
unfolding under
returns-in-0 c = entry _ (λ lower. nop_or_sync (lower % 16)) c.allow-in-0.ensures c.in-0.is refl (rw c.no_operation.ensures) refl

pub returns-in-10496 : goal.returns-in-10496
unfolding under
returns-in-10496 c = entry _ (λ lower. commands.rcreg) c.allow-in-10496.ensures c.in-10496.is refl refl refl

pub returns-in-10240 : goal.returns-in-10240
unfolding under
returns-in-10240 c = entry _ (λ lower. commands.wcreg) c.allow-in-10240.ensures c.in-10240.is refl refl refl

pub returns-in-11520 : goal.returns-in-11520
unfolding under
returns-in-11520 c = entry _ (λ lower. commands.rdmreg) c.allow-in-11520.ensures c.in-11520.is refl refl refl

pub returns-in-11264 : goal.returns-in-11264
unfolding under
returns-in-11264 c = entry _ (λ lower. commands.wdmreg (debug_at (lower % 16))) c.allow-in-11264.ensures c.in-11264.is refl (rw c.debug_at.ensures) refl

pub returns-in_default : goal.returns-in_default
unfolding under
returns-in_default c = let none = c.in_default.in_default-own.rest in
    sym
    (fill _ (0x2100 ∷ 0x2000 ∷ 0x1900 ∷ 0x1800 ∷ 0x1D00 ∷ 0x1C00 ∷ 0x0C00 ∷ 0x0000 ∷ 0x2900 ∷ 0x2800 ∷ 0x2D00 ∷ 0x2C00 ∷ [])
    (simp (
      ne_eqb _ _ none.1,
      ne_eqb _ _ none.0.1,
      ne_eqb _ _ none.0.0.1,
      ne_eqb _ _ none.0.0.0.1,
      ne_eqb _ _ none.0.0.0.0.1,
      ne_eqb _ _ none.0.0.0.0.0.1,
      ne_eqb _ _ none.0.0.0.0.0.0.1,
      ne_eqb _ _ none.0.0.0.0.0.0.0.1,
      ne_eqb _ _ none.0.0.0.0.0.0.0.0.1,
      ne_eqb _ _ none.0.0.0.0.0.0.0.0.0.1,
      ne_eqb _ _ none.0.0.0.0.0.0.0.0.0.0.1,
      ne_eqb _ _ none.0.0.0.0.0.0.0.0.0.0.0.1,
    ))
    refl)
