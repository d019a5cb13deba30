-- A text that is put: no second buffer and no second end fit.
use Rattle.std.specs.Prelude.{ℕ, ◌≡◌, List}
use Rattle.std.proofs.Common.{sym, ◌∙◌}
use Rattle.text.specs.Text.{Puts}

pub puts_unique : {b t a c : List ℕ} {at m n : ℕ} → Puts b at t a m → Puts b at t c n → (a ≡ c) × (m ≡ n)
puts_unique p q = (p.bytes ∙ sym q.bytes, p.place ∙ sym q.place)
