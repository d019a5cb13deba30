-- A run at one W: no second answer fits.
use Rattle.std.specs.Prelude.{ℕ, ◌≡◌, List}
use Rattle.std.proofs.Common.{ap, sym, ◌∙◌}
use Rattle.waits_run.specs.declared.Ran.{Ran}
use Rattle.waits_run.specs.WaitsRun.{RunSo}

pub run_unique : {w : ℕ} {input m text : List ℕ} {r q : Ran} {m' m'' text' text'' : List ℕ}
    → RunSo w input m text r m' text' → RunSo w input m text q m'' text'' → (r ≡ q) × (m' ≡ m'') × (text' ≡ text'')
run_unique {r = r} {q = q} f g = (
  ap (λ x. record { end = x; packets = r.packets; taken = r.taken; stray = r.stray }) (f.told.place ∙ sym g.told.place)
      ∙ ap (λ x. record { end = q.end; packets = x; taken = r.taken; stray = r.stray }) (f.packets ∙ sym g.packets)
      ∙ ap (λ x. record { end = q.end; packets = q.packets; taken = x; stray = r.stray }) (f.taken ∙ sym g.taken)
      ∙ ap (λ x. record { end = q.end; packets = q.packets; taken = q.taken; stray = x }) (f.stray ∙ sym g.stray),
  f.memory ∙ sym g.memory,
  f.told.bytes ∙ sym g.told.bytes,
)
