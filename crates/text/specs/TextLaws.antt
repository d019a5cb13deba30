-- Laws of text put into a buffer: two texts put one after the other are one text, and what is told is the text.
use Rattle.std.specs.Prelude.{ℕ, suc, ◌+◌, ◌≤◌, ◌<◌, ◌≡◌, refl, Bool, true, false, List, [], ◌∷◌, ◌++◌, leb, length, take, drop}
use Rattle.std.proofs.Common.{ap, sym, ◌∙◌, arith, zero-add, length-append, length-take, take-append-drop, drop_of_length-le, take_at, take_all}
use Rattle.std.proofs.Common.{leb-true, leb-false}
use Rattle.std.proofs.lemmas.List.Edits.{sets, sets-eq}
use Rattle.std.proofs.Math.Seq.{length-sets, set_out}
use Rattle.laws.specs.StoreLaws.{sets_append}
use Rattle.text.specs.Text.{written, end_of, Puts}

-- nothing is written beyond the end
beyond : (text buffer : List ℕ) (at : ℕ) → length buffer ≤ at → sets buffer at text ≡ buffer
beyond [] buffer at h = refl
beyond (a ∷ text) buffer at h = rw (set_out buffer at a h) (beyond text buffer (suc at) (omega arith))

-- two texts, the second where the first ends, are one
written_twice : (t u buffer : List ℕ) (at : ℕ) → written (written buffer at t) (end_of at (length t) (length buffer)) u ≡ written buffer at (t ++ u)
written_twice t u buffer at = by_room (leb (at + length t) (length buffer)) refl
  where
    same : length (sets buffer at t) ≡ length buffer
    same = length-sets buffer at t

    by_room : (fits : Bool) → leb (at + length t) (length buffer) ≡ fits
        → written (written buffer at t) (end_of at (length t) (length buffer)) u ≡ written buffer at (t ++ u)
    by_room true h = let e : end_of at (length t) (length buffer) ≡ at + length t = omega (arith, leb-true) in rw (e, sets_append t u buffer at)
    by_room false h =
        let short : length buffer < at + length t = leb-false _ _ h in
        beyond u (sets buffer at t) (end_of at (length t) (length buffer)) (omega (arith, same))
        ∙ sym (sets_append t u buffer at ∙ beyond u (sets buffer at t) (at + length t) (omega (arith, same)))

ends_twice : (at n m room : ℕ) → end_of (end_of at n room) m room ≡ end_of at (n + m) room
ends_twice at n m room = omega arith

pub nothing : (buffer : List ℕ) (at : ℕ) → Puts buffer at [] buffer at
nothing buffer at = record { bytes = refl; place = omega arith }

infixl 30 ◌then◌
-- one text put after another, as the code does it
pub ◌then◌ : {b c d t u : List ℕ} {at mid end : ℕ} → Puts b at t c mid → Puts c mid u d end → Puts b at (t ++ u) d end
◌then◌ {b} {c} {d} {t} {u} {at} {mid} {end} p q =
    let same : length c ≡ length b = ap length p.bytes ∙ length-sets b at t in
    record {
      bytes = q.bytes ∙ rw (p.bytes, p.place) (written_twice t u b at);
      place = q.place ∙ rw (p.place, same, length-append t u) (ends_twice at (length t) (length u) (length b));
    }

-- a loop's invariant: the rest put from here is the whole put from the start
abbrev pub Remains : List ℕ → ℕ → List ℕ → List ℕ → ℕ → List ℕ → Type 0
Remains before at whole here to rest = (after : List ℕ) (end : ℕ) → Puts here to rest after end → Puts before at whole after end

pub all_remains : (buffer : List ℕ) (at : ℕ) (whole : List ℕ) → Remains buffer at whole buffer at whole
all_remains buffer at whole after end p = p

pub rest_remains : {b w c d t u : List ℕ} {at mid to : ℕ} → Remains b at w c mid (t ++ u) → Puts c mid t d to → Remains b at w d to u
rest_remains r p after end q = r after end (p then q)

pub none_remains : {b w c : List ℕ} {at to : ℕ} → Remains b at w c to [] → Puts b at w c to
none_remains {b} {w} {c} {at} {to} r = r c to (nothing c to)

-- from the front on, the text ends within the buffer
pub ends_within : {b a t : List ℕ} {end : ℕ} → Puts b 0 t a end → end ≤ length b
ends_within p = omega (arith, p.place)

-- a text is cut at the buffer's end
rest_out : (b c t : List ℕ) → length c ≡ length b → sets c (length (take (length b) t)) (drop (length b) t) ≡ c
rest_out b c t same = by_room (leb (length b) (length t)) refl
  where
    by_room : (more : Bool) → leb (length b) (length t) ≡ more → sets c (length (take (length b) t)) (drop (length b) t) ≡ c
    by_room true e = let long : length b ≤ length t = leb-true _ _ e in beyond (drop (length b) t) c _ (omega (arith, length-take (length b) t))
    by_room false e =
        let over : length t < length b = leb-false _ _ e in
        let short : length t ≤ length b = omega arith in
        rw (drop_of_length-le t short)

written_front : (b t : List ℕ) → sets b 0 t ≡ take (length b) t ++ drop (length (take (length b) t)) b
written_front b t =
    let kept = take (length b) t in
    let room : 0 + length kept ≤ length b = omega (arith, length-take (length b) t) in
    ap (sets b 0) (sym (take-append-drop (length b) t))
    ∙ sets_append kept (drop (length b) t) b 0
    ∙ rw (zero-add (length kept)) (rest_out b (sets b 0 kept) t (length-sets b 0 kept))
    ∙ rw (zero-add (length kept)) at (sets-eq kept b 0 room)

-- what stands up to the end is the text, as far as the buffer goes
pub told_cut : {b a t : List ℕ} {end : ℕ} → Puts b 0 t a end → take end a ≡ take (length b) t
told_cut {b} {a} {t} {end} p =
    let stop : length (take (length b) t) ≡ end = omega (arith, length-take (length b) t, p.place) in
    rw (p.bytes, written_front b t) (take_at (take (length b) t) _ end stop)

-- and the whole text where there is room for it
pub told_whole : {b a t : List ℕ} {end : ℕ} → Puts b 0 t a end → length t ≤ length b → take end a ≡ t
told_whole {b} {a} {t} p room = told_cut p ∙ take_all (length b) t room
