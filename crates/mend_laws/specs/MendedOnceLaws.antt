-- A trace that was readable comes back equal (02, [5]), so mending twice is mending once.
use Rattle.std.specs.Prelude.{◌≡◌, false, List, [], length}
use Rattle.std.proofs.Math.Path.{refl}
use Rattle.std.proofs.Common.{◌∙◌, arith}
use Prim.Native.Nat.{ℕ, zero, suc, ◌≤◌, ◌<◌}
use borrow.Author.Tests.{eq-eqb}
use Rattle.cycle.specs.Cycle.{pst, reserved, too_soon, carried_into}
use Rattle.trace.specs.TraceReading.{counted, reading}
use Rattle.trace.proofs.TraceReadableLaws.{Passes, Readable, read_readable}
use Rattle.mending.specs.Mending.{kept, found, mended_pst, mended, changes_before, changes}
use Rattle.mending.specs.MendingLaws.{elsewhere, cut_none}
use Rattle.mend_laws.specs.RetoldLaws.{retold_same}
use Rattle.mend_laws.specs.MendedReadableLaws.{mended_passes}

passing_kept : (due p : ℕ) → reserved p ≡ false → too_soon due p ≡ false → kept due p ≡ p
unfolding kept
passing_kept due p e f = rw (e, f)

module _ (trace : List ℕ) (readable : Readable trace) where
  -- what the rules find is what the trace has under way
  found_carried : (i : ℕ) → i ≤ length trace → found trace i ≡ carried_into trace i
  unfolding found carried_into
  found_carried zero h = refl
  found_carried (suc i) h =
      let p = readable.passes i (omega arith) in
      rw (found_carried i (omega arith), passing_kept (carried_into trace i).due (pst trace i) p.unreserved p.in_time)

  readable_kept : (i : ℕ) → i < length trace → mended_pst trace i ≡ pst trace i
  readable_kept i h =
      let p = readable.passes i h in
      let uncut : (found trace (length trace)).due ≡ 0 = rw (found_carried (length trace) (omega arith)) readable.whole in
      elsewhere trace i (λ e. omega (arith, cut_none trace uncut))
      ∙ rw (found_carried i (omega arith)) (passing_kept (carried_into trace i).due (pst trace i) p.unreserved p.in_time)

  none_listed : (i : ℕ) → i ≤ length trace → changes_before trace i ≡ []
  unfolding changes_before
  none_listed zero h = refl
  none_listed (suc i) h = rw (none_listed i (omega arith), eq-eqb (mended_pst trace i) (pst trace i) (readable_kept i (omega arith)))

  pub readable_same : (mended trace ≡ trace) × (changes trace ≡ [])
  readable_same = (retold_same (mended_pst trace) trace readable_kept, none_listed (length trace) (omega arith))

-- THE LAW: "a trace that was readable comes back equal", and nothing is listed
pub read_comes_back : (trace : List ℕ) (n : ℕ) → reading trace ≡ counted n → (mended trace ≡ trace) × (changes trace ≡ [])
read_comes_back trace n e = readable_same trace (read_readable trace n e)

-- THE LAW: mending twice is mending once
pub mended_once : (trace : List ℕ) → (mended (mended trace) ≡ mended trace) × (changes (mended trace) ≡ [])
mended_once trace = readable_same (mended trace) (mended_passes trace)
