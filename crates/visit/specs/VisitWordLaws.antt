-- Laws of a visit's packets: five words of zero, built into, hold the words of what is asked, and then NOPs.
use Rattle.std.specs.Prelude.{ℕ, zero, suc, ◌≤◌, ◌≡◌, refl, true, List, [], ◌∷◌, leb, length, get_or, replicate, Ok, Result}
use Rattle.grounds.specs.declared.Ground.{Ground}
use Rattle.std.proofs.Common.{arith, ap, ◌∙◌, leb-true}
use Rattle.std.proofs.Math.ListN.{get_or-eq_default}
use Rattle.requests.specs.declared.Request.{Request}
use Rattle.building.specs.RequestWords.{built_words}
use Rattle.building.specs.Building.{BuildingMeets, buffer_at}
use Rattle.asked.specs.VisitRequests.{request_at}
use Rattle.asked.specs.RequestAtLaws.{each_asked, asked_in_range}

one_word : (word i : ℕ) → get_or (word ∷ replicate 4 0) i 0 ≡ get_or (word ∷ []) i 0
one_word word zero = refl
one_word word (suc zero) = refl
one_word word (suc (suc zero)) = refl
one_word word (suc (suc (suc zero))) = refl
one_word word (suc (suc (suc (suc zero)))) = refl
one_word word (suc (suc (suc (suc (suc i))))) = refl

three_words : (word upper lower i : ℕ) → get_or (word ∷ upper ∷ lower ∷ replicate 2 0) i 0 ≡ get_or (word ∷ upper ∷ lower ∷ []) i 0
three_words word upper lower zero = refl
three_words word upper lower (suc zero) = refl
three_words word upper lower (suc (suc zero)) = refl
three_words word upper lower (suc (suc (suc zero))) = refl
three_words word upper lower (suc (suc (suc (suc zero)))) = refl
three_words word upper lower (suc (suc (suc (suc (suc i))))) = refl

-- there is room for them, and what stands behind them is NOPs
abbrev ThenNops : Request → Type 0
ThenNops request =
    (leb (length (built_words request)) 5 ≡ true) × ((i : ℕ) → get_or (buffer_at (Ok tt) request (replicate 5 0)) i 0 ≡ get_or (built_words request) i 0)

then_nops : (address j : ℕ) → ThenNops (request_at address j)
then_nops address j =
    each_asked ThenNops address j
    (record {
      register = λ b n small. (refl, one_word _);
      control = λ b rc small. (refl, three_words _ _ _);
      csr = λ b. (refl, one_word _);
      longword = λ t address small. (refl, three_words _ _ _);
      further = λ t b. (refl, one_word _);
    })

pub asked_then_nops : (address j : ℕ) {r : Result ℕ Ground} {after : List ℕ} → BuildingMeets (request_at address j) (replicate 5 0) r after
    → (i : ℕ) → get_or after i 0 ≡ get_or (built_words (request_at address j)) i 0
asked_then_nops address j met i =
    let sent = then_nops address j in
    ap (λ (words : List ℕ). get_or words i 0) met.buffer ∙ rw (asked_in_range address j, sent.0) (sent.1 i)

-- no request asked has a word beyond the fifth
pub asked_words_end : (address j : ℕ) {i : ℕ} → 5 ≤ i → get_or (built_words (request_at address j)) i 0 ≡ 0
asked_words_end address j {i} far =
    let words = built_words (request_at address j) in get_or-eq_default words 0 {n = i} (omega (arith, leb-true (length words) 5 (then_nops address j).0))
