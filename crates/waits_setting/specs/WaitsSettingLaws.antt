-- Laws of what came out held against what is due: two lists compared byte by byte, and where a line begins.
use Rattle.std.specs.Prelude.{ℕ, suc, ◌+◌, ◌≤◌, ◌<◌, ◌≡◌, cond, List, eqb, length, get_or, take, drop}
use Rattle.std.proofs.Common.{zero-add, add-one, drop_of_length-le, eq-eqb, ne_eqb}
use Rattle.laws.specs.PlaceLaws.{from_here}
use Rattle.waits_lines.specs.WaitsLines.{line_length}
use Rattle.waits_setting.specs.WaitsSetting.{first_other, line_start, other_line}

-- ---- where two first differ
pub same_so_far : (due came : List ℕ) (i : ℕ) → i < length due → i < length came → get_or due i 0 ≡ get_or came i 0
    → first_other (drop i due) (drop i came) ≡ suc (first_other (drop (i + 1) due) (drop (i + 1) came))
same_so_far due came i h g e = rw (from_here due i h, from_here came i g, eq-eqb _ _ e)

pub differs_here : (due came : List ℕ) (i : ℕ) → i < length due → i < length came → (get_or due i 0 ≡ get_or came i 0 → ⊥)
    → first_other (drop i due) (drop i came) ≡ 0
differs_here due came i h g e = rw (from_here due i h, from_here came i g, ne_eqb _ _ e)

pub due_ends : (due came : List ℕ) (i : ℕ) → length due ≤ i → first_other (drop i due) (drop i came) ≡ 0
due_ends due came i h = rw (drop_of_length-le due h)

pub came_ends : (due came : List ℕ) (i : ℕ) → i < length due → length came ≤ i → first_other (drop i due) (drop i came) ≡ 0
came_ends due came i h g = rw (from_here due i h, drop_of_length-le came g)

-- ---- where a line begins
pub start_on : (start : ℕ) (before : List ℕ) (i : ℕ) → i < length before
    → line_start i start (drop i before) ≡ line_start (i + 1) (cond (eqb (get_or before i 0) 10) (i + 1) start) (drop (i + 1) before)
start_on start before i h = rw (from_here before i h, add-one)

pub start_out : (start : ℕ) (before : List ℕ) (i : ℕ) → length before ≤ i → line_start i start (drop i before) ≡ start
start_out start before i h = rw (drop_of_length-le before h)

-- the line found: the bytes before the first other one, where their line begins, and what stands from there to its end
pub other_line_lem : (due came : List ℕ) {before here line : List ℕ} {other start end : ℕ} → other ≡ first_other due came → before ≡ take other came
    → start ≡ line_start 0 0 before → here ≡ drop start came → end ≡ 0 + line_length (drop 0 here) → line ≡ take end here → line ≡ other_line due came
other_line_lem due came o b s h e l = rw (l, e, h, s, b, o, zero-add)
