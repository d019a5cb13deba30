-- Different numbers have different text.
use Rattle.std.specs.Prelude.{ℕ, ◌^◌, ◌<◌, ◌≡◌}
use Rattle.std.proofs.Common.{ap, sym, ◌∙◌}
use Rattle.numbers.specs.Numbers.{value}
use Rattle.text.specs.NumberText.{hex_text, number_text, decimal_text}
use Rattle.text_laws.specs.ReadBackLaws.{decimal_value, hex_back, number_back, decimal_back}

pub hex_unique : (k m n : ℕ) → m < 16 ^ k → n < 16 ^ k → hex_text k m ≡ hex_text k n → m ≡ n
hex_unique k m n p q e = sym (hex_back k m p) ∙ ap value e ∙ hex_back k n q

pub number_unique : (m n : ℕ) → m < 16 ^ 20 → n < 16 ^ 20 → number_text m ≡ number_text n → m ≡ n
number_unique m n p q e = sym (number_back m p) ∙ ap value e ∙ number_back n q

pub decimal_unique : (m n : ℕ) → m < 10 ^ 20 → n < 10 ^ 20 → decimal_text m ≡ decimal_text n → m ≡ n
decimal_unique m n p q e = sym (decimal_back m p) ∙ ap decimal_value e ∙ decimal_back n q
