-- Laws of sending: no packet of an exchange is refused, and the words in the buffer are those built.
use Rattle.std.specs.Prelude.{ℕ, zero, suc, ◌≤◌, ◌≡◌, refl, Bool, true, false, not, List, [], ◌∷◌, ◌++◌, length, get_or, drop, replicate, Result}
use Rattle.grounds.specs.declared.Ground.{Ground}
use Rattle.std.proofs.Common.{arith, sym, ap, ◌∙◌, le-leb}
use Rattle.board.specs.State.{State}
use Rattle.port.specs.declared.Answer.{Answer}
use Rattle.port.specs.Packet.{PacketMeets, Stepped}
use Rattle.port.specs.PacketLaws.{accepted_takes_its_step, no_other}
use Rattle.sound.specs.Sound.{Sound}
use Rattle.sound.specs.SoundLaws.{sound_is_in_range}
use Rattle.requests.specs.declared.Request.{Request}
use Rattle.requests.specs.Request.{in_range}
use Rattle.building.specs.RequestWords.{built_words}
use Rattle.pod_laws.specs.RequestCountLaws.{word_count_bound}
use Rattle.building.specs.Building.{BuildingMeets}

-- a word with C clear, from a state within all ranges
pub sound_is_sent : {s : State} {word : ℕ} {r : Answer} {after : List ℕ} → Sound s → word ≤ 0xFFFF → PacketMeets s word r after → Stepped s word r after
sound_is_sent {s} {word} f clear met =
    accepted_takes_its_step met (no_other s word (sound_is_in_range s.board.w s.board s.place f.board f.place) f.memory.limit (omega arith))

-- ---- a loop goes on while a test does not hold, and ends where it does
pub not_so : {t x : Bool} → t ≡ x → not t ≡ true → x ≡ false
not_so {t = true} e h = cc
not_so {t = false} e h = sym e

pub so_after_all : {t x : Bool} → t ≡ x → not t ≡ false → x ≡ true
so_after_all {t = true} e h = sym e
so_after_all {t = false} e h = cc

-- ---- the buffer
zeros_are_zero : (n i : ℕ) → ◌≡◌ {A = ℕ} (get_or (replicate n 0) i 0) 0
zeros_are_zero zero i = refl
zeros_are_zero (suc n) zero = refl
zeros_are_zero (suc n) (suc i) = zeros_are_zero n i

zeros_from : (k n i : ℕ) → ◌≡◌ {A = ℕ} (get_or (drop k (replicate n 0)) i 0) 0
zeros_from zero n i = zeros_are_zero n i
zeros_from (suc k) zero i = refl
zeros_from (suc k) (suc n) i = zeros_from k n i

padding_adds_zeros : (xs ys : List ℕ) (i : ℕ) → ((j : ℕ) → get_or ys j 0 ≡ 0) → get_or (xs ++ ys) i 0 ≡ get_or xs i 0
padding_adds_zeros [] ys i h = h i
padding_adds_zeros (x ∷ xs) ys zero h = refl
padding_adds_zeros (x ∷ xs) ys (suc i) h = padding_adds_zeros xs ys i h

-- five words of zero, built into, hold the request's words and then NOPs
pub built_then_nops : {request : Request} {r : Result ℕ Ground} {after : List ℕ} → BuildingMeets request (replicate 5 0) r after → in_range request ≡ true
    → (i : ℕ) → get_or after i 0 ≡ get_or (built_words request) i 0
built_then_nops {request} m h i =
    let room = le-leb (length (built_words request)) 5 (word_count_bound request) in
    ap (λ (l : List ℕ). get_or l i 0) m.buffer
    ∙ rw (h, room) (padding_adds_zeros (built_words request) (drop (length (built_words request)) (replicate 5 0)) i
    (zeros_from (length (built_words request)) 5))
