-- Traces with dropouts (02, [5]): the PST that is left of each cycle, the mended trace, and the list of what was changed.
use Rattle.std.specs.Prelude.{ℕ, zero, suc, ◌+◌, ◌*◌, cond, List, [], ◌∷◌, ◌++◌, eqb, length}
use Rattle.cycle.specs.declared.Carried.{Carried}
use Rattle.cycle.specs.Cycle.{pst, ddata, marker, reserved, too_soon, nothing, after}

-- "a reserved PST becomes 0; a marker that would get ground 9 becomes PST 0": what is kept of the PST p where so many nibbles are due
unfoldable pub kept : ℕ → ℕ → ℕ
kept due p = cond (reserved p) 0 (cond (too_soon due p) 0 p)

-- "The first two are judged from the first cycle on, over what has been mended so far": what cycle i finds under way there
unfoldable pub found : List ℕ → ℕ → Carried
found trace zero = nothing
found trace (suc i) = after (found trace i) (kept (found trace i).due (pst trace i))

-- the PST of cycle i as these two leave it
abbrev pub kept_at : List ℕ → ℕ → ℕ
kept_at trace i = kept (found trace i).due (pst trace i)

-- the cycle of the latest marker before cycle i
unfoldable pub latest_marker : List ℕ → ℕ → ℕ
latest_marker trace zero = 0
latest_marker trace (suc i) = cond (marker (kept_at trace i)) i (latest_marker trace i)

-- "if the trace ends inside a transfer, that transfer's marker": its cycle; where it does not, the trace's length, which no cycle has
unfoldable pub cut_short : List ℕ → ℕ
cut_short trace = cond (eqb (found trace (length trace)).due 0) (length trace) (latest_marker trace (length trace))

-- ".. becomes PST 0": what is left of cycle i's PST
unfoldable pub mended_pst : List ℕ → ℕ → ℕ
mended_pst trace i = cond (eqb i (cut_short trace)) 0 (kept_at trace i)

-- "All DDATA nibbles stay.": the first i cycles of a trace, with the PSTs given
unfoldable pub retold : (ℕ → ℕ) → List ℕ → ℕ → List ℕ
retold psts trace zero = []
retold psts trace (suc i) = retold psts trace i ++ (psts i * 16 + ddata trace i) ∷ []

-- "mends a trace of the same length"
abbrev pub mended : List ℕ → List ℕ
mended trace = retold (mended_pst trace) trace (length trace)

-- "every changed cycle with its old PST, .. one 32-bit word each: cycle times 16 plus PST": the word of cycle i, or none
abbrev pub change_word : ℕ → ℕ → ℕ → List ℕ
change_word i old left = cond (eqb left old) [] ((i * 16 + old) ∷ [])

-- "in cycle order": the words of the cycles before cycle i
unfoldable pub changes_before : List ℕ → ℕ → List ℕ
changes_before trace zero = []
changes_before trace (suc i) = changes_before trace i ++ change_word i (pst trace i) (mended_pst trace i)

abbrev pub changes : List ℕ → List ℕ
changes trace = changes_before trace (length trace)
