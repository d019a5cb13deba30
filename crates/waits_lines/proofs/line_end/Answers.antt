use mathlib.Core.Path.{◌≡◌, ◌∙◌}
use Prim.Native.Nat.{ℕ, ◌-◌}
use mathlib.Core.List.{List}
use native.Mathlib.Omega.{arith}
use lib.ListN.{drop, length, take, length-drop}
use Rattle.std.proofs.Common.{take_all}
use Rattle.std.specs.Prelude.{Option, position}
use Rattle.std.specs.Option.{unwrap_or}
use Rattle.console.specs.InputLines.{is_line_end}
use Rattle.waits_lines.specs.WaitsLines.{line_length}
use Rattle.waits_lines.specs.WaitsLinesLaws.{line_length_found, line_within, line_out}
use Rattle.waits_lines.proofs.line_end.Goals as goal

-- a part up to the end, with its length by subtraction
found : (input : List ℕ) (from : ℕ) {p : Option ℕ} {n : ℕ} → p ≡ position is_line_end (take (length input - from) (drop from input))
    → n ≡ unwrap_or p (length input - from) → n ≡ line_length (drop from input)
found input from {p} e f =
    let all : take (length input - from) (drop from input) ≡ drop from input = take_all _ _ (omega (arith, length-drop from input)) in
    let long : length input - from ≡ length (drop from input) = omega (arith, length-drop from input) in
    let place : p ≡ position is_line_end (drop from input) = rw all at e in
    rw (place, long) at f ∙ line_length_found (drop from input)

pub overflow_add-result : goal.overflow_add-result
overflow_add-result c = let input = c.args.input.now in
    omega (
      arith,
      found input c.args.from c.first_line_end.ensures c.unwrap_or.ensures,
      line_within (drop c.args.from input),
      length-drop c.args.from input,
    )

pub returns-then-from-input : goal.returns-then-from-input
returns-then-from-input c = omega (arith, found c.args.input.now c.args.from c.first_line_end.ensures c.unwrap_or.ensures)

pub returns-else-from-input : goal.returns-else-from-input
returns-else-from-input c = omega (arith, line_out c.args.input.now c.args.from c.if-from-input.false)
