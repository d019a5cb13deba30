use Prim.Native.Nat.{ℕ, ◌+◌, ◌-◌, ◌≤◌}
use mathlib.Core.List.{List}
use mathlib.Core.Path.{◌≡◌}
use native.Mathlib.Omega.{arith}
use lib.ListN.{length, take, drop, length-drop}
use Rattle.std.proofs.Common.{take_all}
use Rattle.text.specs.TextPartLaws.{ends_inside}
use Rattle.scripts.specs.Script.{line_length}
use Rattle.scripts.specs.ScriptLaws.{line_end_within, rests_on, rests_out}
use Rattle.script.proofs.take_lines.Goals as goal

line_here : (script : List ℕ) (from n : ℕ) → n ≡ line_length (take (length script - from) (drop from script)) → from + n ≡ from + line_length (drop from script)
line_here script from n e = rw (e, take_all (length script - from) (drop from script) (omega (arith, length-drop from script)))

within : (script : List ℕ) (from n : ℕ) → from ≤ length script → n ≡ line_length (take (length script - from) (drop from script)) → from + n ≤ length script
within script from n h e = line_end_within script from (from + n) h (line_here script from n e)

pub loop-from-init : goal.loop-from-init
loop-from-init c = (omega arith, λ r text' m' went. went)

pub overflow_add-end : goal.overflow_add-end
overflow_add-end c = omega (arith, within c.args.script.now c.loop-from.from c.line_length.result (omega arith) c.line_length.ensures)

pub slice_bounds-take_line-end : goal.slice_bounds-take_line-end
slice_bounds-take_line-end c = within c.args.script.now c.loop-from.from c.line_length.result (omega arith) c.line_length.ensures

pub loop-from-preserved : goal.loop-from-preserved
loop-from-preserved c = let at = c.loop-from in let gone = c.take_line-gone.ensures in (
  ends_inside at.invariant.0 gone.puts,
  rests_on _ _ _ _ at.from (at.from + c.line_length.result) at.gone at.memory c.loop-from-test.true
      (line_here c.args.script.now at.from c.line_length.result c.line_length.ensures) at.invariant.1 gone,
)

pub returns : goal.returns
returns c = let at = c.loop-from in rests_out _ _ _ _ at.from at.gone at.text at.memory c.loop-from-test.false at.invariant.1
