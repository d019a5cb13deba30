use mathlib.Core.Path.{sym}
use Prim.Native.Nat.{ℕ}
use lib.ListN.{length-replicate}
use Rattle.unmend.proofs.main.Goals as goal

pub slice_bounds-unmend_input-end : goal.slice_bounds-unmend_input-end
slice_bounds-unmend_input-end c = sym (length-replicate {A = ℕ} 700001 0)

pub slice_bounds-unmend_input-end-2 : goal.slice_bounds-unmend_input-end-2
slice_bounds-unmend_input-end-2 c = sym (length-replicate {A = ℕ} 65536 0)
