-- A file's lines taken: no second answer fits.
use Rattle.std.specs.Prelude.{◌≡◌, List, ℕ}
use Rattle.std.proofs.Common.{ap, sym, ◌∙◌}
use Rattle.answers.specs.Bench.{Left}
use Rattle.waits_lines.specs.declared.Gone.{Gone}
use Rattle.waits_lines.specs.WaitsLines.{LinesTaken}

pub lines_taken_unique : {lines : List (List ℕ)} {l : Left} {text : List ℕ} {r q : Gone} {text' text'' m' m'' : List ℕ}
    → LinesTaken lines l text r text' m' → LinesTaken lines l text q text'' m'' → (r ≡ q) × (text' ≡ text'') × (m' ≡ m'')
lines_taken_unique {r = r} {q = q} f g =
    let stands = f.stands ∙ sym g.stands in (
      ap (λ x. record { bench = x; end = r.end; packets = r.packets; taken = r.taken; stray = r.stray }) (ap (λ (l : Left). l.bench) stands)
          ∙ ap (λ x. record { bench = q.bench; end = x; packets = r.packets; taken = r.taken; stray = r.stray }) (f.rows.place ∙ sym g.rows.place)
          ∙ ap (λ x. record { bench = q.bench; end = q.end; packets = x; taken = r.taken; stray = r.stray }) (f.packets ∙ sym g.packets)
          ∙ ap (λ x. record { bench = q.bench; end = q.end; packets = q.packets; taken = x; stray = r.stray }) (f.taken ∙ sym g.taken)
          ∙ ap (λ x. record { bench = q.bench; end = q.end; packets = q.packets; taken = q.taken; stray = x }) (f.stray ∙ sym g.stray),
      f.rows.bytes ∙ sym g.rows.bytes,
      ap (λ (l : Left). l.memory) stands,
    )
