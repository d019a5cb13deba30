-- How the code goes: a cycle judged with what is due after it, and how the first pass counts the cycles that change.
use Rattle.std.specs.Prelude.{◌≡◌, ℕ, zero, suc, ◌+◌, ◌<◌, cond, Some, List, eqb, length}
use Rattle.std.specs.Option.{unwrap_or}
use Rattle.cycle.specs.Cycle.{pst, due_after}
use Rattle.mending.specs.declared.Kept.{Kept}
use Rattle.mending.specs.declared.Survey.{Survey}
use Rattle.mending.specs.Mending.{kept, kept_at, cut_short, changes}

-- a cycle by the first two rules: what is kept of its PST, and what is due after it
abbrev pub kept_after : ℕ → ℕ → Kept
kept_after due p = record { pst = kept due p; due = due_after due (kept due p) }

abbrev pub wipes : ℕ → ℕ → ℕ
wipes old left = cond (eqb left old) 0 1

unfoldable pub wiped_before : List ℕ → ℕ → ℕ
wiped_before trace zero = 0
wiped_before trace (suc i) = wiped_before trace i + wipes (pst trace i) (kept_at trace i)

-- what is known before anything is written; no cycle is cut short where the trace's length stands for it
pub record Surveyed (trace : List ℕ) (r : Survey) : Type 0 where
  pub changed : r.changed ≡ length (changes trace)
  pub cut : unwrap_or r.cut (length trace) ≡ cut_short trace
  -- a cycle that is cut short is one of the trace's, so no second answer fits
  pub within : (n : ℕ) → r.cut ≡ Some n → n < length trace
