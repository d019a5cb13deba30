-- Laws of a text put into a part of a buffer.
use Rattle.std.specs.Prelude.{ℕ, suc, ◌+◌, ◌-◌, ◌≤◌, ◌≡◌, List, [], ◌∷◌, ◌++◌, length, take, drop, set}
use Rattle.std.proofs.Common.{ap, sym, ◌∙◌, append-nil, arith, add-zero, add-suc, length-take, length-drop, take-append-drop, drop_of_length-le, take_all}
use Rattle.std.proofs.lemmas.List.Edits.{sets}
use Rattle.std.proofs.lemmas.List.{take-set-le, drop-set-add}
use Rattle.std.proofs.Math.Seq.{length-sets}
use Rattle.text.specs.Text.{Puts}

-- a text put into the part of a buffer from a place on is put at that place
sets_behind : (t b : List ℕ) (at i : ℕ) → sets b (at + i) t ≡ take at b ++ sets (drop at b) i t
sets_behind [] b at i = sym (take-append-drop at b)
sets_behind (v ∷ t) b at i =
    rw (← add-suc at i)
    (sets_behind t (set b (at + i) v) at (suc i) ∙ rw (take-set-le at b (at + i) v (omega arith), drop-set-add at b i v))

pub puts_behind : {b a t : List ℕ} {at end : ℕ} → at ≤ length b → Puts (drop at b) 0 t a end → Puts b at t (take at b ++ a) (at + end)
puts_behind {b} {a} {t} {at} {end} h p =
    record {
      bytes = ap (λ (tail : List ℕ). take at b ++ tail) p.bytes ∙ sym (rw (add-zero at) at (sets_behind t b at 0));
      place = omega (arith, p.place, length-drop at b);
    }

pub puts_in_rest : {b a t : List ℕ} {at end : ℕ} → at ≤ length b → Puts (take (length b - at) (drop at b)) 0 t a end
    → Puts b at t (take at b ++ (a ++ drop (length b - at) (drop at b))) (at + end)
puts_in_rest {b} {a} {t} {at} {end} h p =
    let most : length (drop at b) ≤ length b - at = omega (arith, length-drop at b) in
    rw (drop_of_length-le (drop at b) most, append-nil a) (puts_behind h (rw (take_all (length b - at) (drop at b) most) at p))

pub ends_inside : {b a t : List ℕ} {at end : ℕ} → at ≤ length b → Puts b at t a end → end ≤ length a
ends_inside {b} {a} {t} {at} {end} h p =
    let same : length a ≡ length b = ap length p.bytes ∙ length-sets b at t in
    omega (arith, p.place)

pub ends_in_rest : {text b a g t : List ℕ} {from at end : ℕ} → from ≤ length text → Puts text from g b at
    → Puts (take (length b - at) (drop at b)) 0 t a end → at + end ≤ length text
ends_in_rest {text} {b} {a} {g} {t} {from} {at} {end} h p q =
    let same : length b ≡ length text = ap length p.bytes ∙ length-sets text from g in
    omega (arith, ends_inside h p, q.place, length-take (length b - at) (drop at b))
