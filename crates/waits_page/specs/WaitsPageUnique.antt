-- The page of `waits`: no second answer fits.
use Rattle.std.specs.Prelude.{ℕ, ◌≡◌, List}
use Rattle.std.proofs.Common.{sym, ◌∙◌}
use Rattle.waits_setting.specs.WaitsSetting.{Came}
use Rattle.waits_page.specs.WaitsPage.{WaitsMeets}

pub waits_unique : {input before : List ℕ} {lent work : Came} {end end' : ℕ} {after after' : List ℕ} {due due' came came' : Came}
    → WaitsMeets input before lent work end after due came → WaitsMeets input before lent work end' after' due' came'
    → (end ≡ end') × (after ≡ after') × (due ≡ due') × (came ≡ came')
waits_unique f g = (
  f.page.place ∙ sym g.page.place,
  f.page.bytes ∙ sym g.page.bytes,
  f.due ∙ sym g.due,
  f.came ∙ sym g.came,
)
