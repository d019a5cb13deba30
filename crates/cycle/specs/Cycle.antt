-- Recorded cycles (01): what a cycle's byte says, what the cycles before it have left under way, and what it gives.
use Rattle.std.specs.Prelude.{ℕ, zero, suc, ◌+◌, ◌-◌, ◌*◌, ◌/◌, ◌%◌, Bool, false, cond, not, ◌||◌, List, ltb, eqb, get_or}
use Rattle.cycle.specs.declared.Carried.{Carried}

-- "One byte a cycle: PST upper, DDATA lower nibble."
abbrev pub pst : List ℕ → ℕ → ℕ
pst trace i = get_or trace i 0 / 16

abbrev pub ddata : List ℕ → ℕ → ℕ
ddata trace i = get_or trace i 0 % 16

-- "PST 1, 3, 4, 5, 7 each give an item."
abbrev pub single : ℕ → Bool
single p = eqb p 1 || (eqb p 3 || (eqb p 4 || (eqb p 5 || eqb p 7)))

-- "C, D, E, F give one at the first cycle of a run": where the cycle does not stand in a run of its own code
unfoldable pub gives_own : ℕ → ℕ → Bool
gives_own run p = cond (ltb p 12) (single p) (not (eqb p run))

-- "A marker 8 to B"
abbrev pub marker : ℕ → Bool
marker p = cond (ltb p 8) false (ltb p 12)

-- "markers don't end a run, any other PST does": the run that the next cycle stands in
abbrev pub run_after : ℕ → ℕ → ℕ
run_after run p = cond (marker p) run (cond (ltb p 12) 0 p)

-- "A marker 8 to B announces 1 to 4 bytes"
abbrev pub bytes : ℕ → ℕ
bytes m = m % 4 + 1

-- "the next 2, 4, 6 or 8 cycles carry its nibbles"
abbrev pub nibbles : ℕ → ℕ
nibbles m = 2 * bytes m

-- "while PST goes on": each cycle carries one nibble, whatever its PST; a marker announces anew
abbrev pub due_after : ℕ → ℕ → ℕ
due_after due p = cond (marker p) (nibbles p) (due - 1)

abbrev pub marker_after : ℕ → ℕ → ℕ
marker_after m p = cond (marker p) p m

-- what the cycle after one of PST p finds under way
unfoldable pub after : Carried → ℕ → Carried
after c p = record { marker = marker_after c.marker p; due = due_after c.due p; run = run_after c.run p }

abbrev pub nothing : Carried
nothing = record { marker = 0; due = 0; run = 0 }

-- what cycle i finds under way: nothing at first, then what the cycle before it leaves
unfoldable pub carried_into : List ℕ → ℕ → Carried
carried_into trace zero = nothing
carried_into trace (suc i) = after (carried_into trace i) (pst trace i)

-- "least significant first": the number that the nibbles of n cycles make, from the cycle `from` on
unfoldable pub value : List ℕ → ℕ → ℕ → ℕ
value trace from zero = 0
value trace from (suc n) = ddata trace from + 16 * value trace (from + 1) n

-- the value of the marker m whose last nibble's cycle is i
abbrev pub value_ending : List ℕ → ℕ → ℕ → ℕ
value_ending trace i m = value trace (i + 1 - nibbles m) (nibbles m)

-- ground 8: "a reserved PST, 2 or 6"
abbrev pub reserved : ℕ → Bool
reserved p = eqb p 2 || eqb p 6

-- "A marker may stand on the last nibble's cycle"; ground 9: "a marker with two or more nibbles of the earlier transfer still due"
abbrev pub too_soon : ℕ → ℕ → Bool
too_soon due p = cond (ltb due 2) false (marker p)
