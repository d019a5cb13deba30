-- The line of one W: no second answer fits.
use Rattle.std.specs.Prelude.{ℕ, ◌≡◌, Bool, List}
use Rattle.std.proofs.Common.{ap, sym, ◌∙◌}
use Rattle.waits_setting.specs.declared.Judged.{Judged}
use Rattle.waits_setting.specs.WaitsSetting.{JudgedSo}

pub judged_unique : {text page : List ℕ} {is_same : Bool} {at : ℕ} {r q : Judged} {page' page'' : List ℕ}
    → JudgedSo text is_same page at r page' → JudgedSo text is_same page at q page'' → (r ≡ q) × (page' ≡ page'')
judged_unique {r = r} {q = q} f g = (
  ap (λ x. record { end = x; same = r.same }) (f.puts.place ∙ sym g.puts.place)
      ∙ ap (λ x. record { end = q.end; same = x }) (f.verdict ∙ sym g.verdict),
  f.puts.bytes ∙ sym g.puts.bytes,
)
