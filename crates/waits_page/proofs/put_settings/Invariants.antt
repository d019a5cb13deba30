use mathlib.Core.Path.{◌≡◌}
use Prim.Native.Nat.{◌-◌}
use lib.ListN.{length}
use Rattle.waits_setting.specs.WaitsSetting.{came_of}
use Rattle.waits_page.specs.WaitsPage.{worked_in}
use Rattle.waits_page.specs.WaitsPageLaws.{Onward}
use Rattle.waits_page.proofs.put_settings.Given as goal

abbrev pub invariant-loop-w : goal.invariant-loop-w
invariant-loop-w l = (length l.page ≡ length l.initial.page) × (length l.memory ≡ length l.initial.memory) × (length l.text ≡ length l.initial.text)
    × Onward (came_of l.due l.due_memory) (length l.initial.text) (length l.initial.memory) l.input l.initial.page l.at l.w l.same l.page l.end
    × (worked_in (16 - l.w) l.w l.input (came_of l.text l.memory) ≡ worked_in 16 0 l.input (came_of l.initial.text l.initial.memory))
