use mathlib.Core.Path.{sym}
use Prim.Native.Nat.{ℕ}
use lib.ListN.{length-replicate}
use Rattle.mend.proofs.main.Goals as goal

pub slice_bounds-mend_input-end : goal.slice_bounds-mend_input-end
slice_bounds-mend_input-end c = sym (length-replicate {A = ℕ} 65537 0)

pub slice_bounds-mend_input-end-2 : goal.slice_bounds-mend_input-end-2
slice_bounds-mend_input-end-2 c = sym (length-replicate {A = ℕ} 65536 0)

pub slice_bounds-mend_input-end-3 : goal.slice_bounds-mend_input-end-3
slice_bounds-mend_input-end-3 c = sym (length-replicate {A = ℕ} 65536 0)

pub slice_bounds-mend_input-end-4 : goal.slice_bounds-mend_input-end-4
slice_bounds-mend_input-end-4 c = sym (length-replicate {A = ℕ} 600000 0)
