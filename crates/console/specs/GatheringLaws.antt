-- Laws of lines gathered in a text: the parts written out are the lines, none left out, none twice, and none of them is cut.
use Rattle.std.specs.Prelude.{ℕ, ◌/◌, ◌≤◌, ◌<◌, ◌≡◌, refl, Bool, true, false, cond, List, [], ◌∷◌, ◌++◌, ltb, length}
use Rattle.std.proofs.Common.{ap, sym, ◌∙◌, append_assoc, arith, length-append, lt-ltb, le-ltb, ltb-true, ltb-false}
use Rattle.std.proofs.Math.Seq.{length-sets}
use Rattle.text.specs.Text.{written, Puts}
use Rattle.text.specs.TextLaws.{◌then◌, nothing as puts-nothing}
use Rattle.console.specs.LineWriting.{laid}
use Rattle.console.specs.GatheringMirror.{place_in, parts_from, parts}

-- what is gathered so far: parts that were written out have led to a text, in which the last part stands from the front on
pub record Gathering (before : List ℕ) (all : List (List ℕ)) (text : List ℕ) (at : ℕ) (more : List (List ℕ)) : Type 0 where
  pub from : List ℕ
  pub part : List ℕ
  pub room : length from ≡ length before
  pub stands : Puts from 0 part text at
  pub goes_on : laid before (parts (length before) all) ≡ laid from (parts_from (length before) part more)

pub gathers_none : (before : List ℕ) (all : List (List ℕ)) → Gathering before all before 0 all
gathers_none before all = record { from = before; part = []; room = refl; stands = puts-nothing before 0; goes_on = refl }

pub gathers_line : {before text after : List ℕ} {all more : List (List ℕ)} {line : List ℕ} {at end : ℕ} → Gathering before all text at (line ∷ more)
    → Puts text (place_in (length text) at) line after end → Gathering before all after end more
gathers_line {before} {text} {after} {all} {more} {line} {at} {end} g p = by_test (ltb (length g.part) (length before / 2)) refl
  where
    same : length text ≡ length before
    same = ap length g.stands.bytes ∙ length-sets g.from 0 g.part ∙ g.room

    by_test : (t : Bool) → ltb (length g.part) (length before / 2) ≡ t → Gathering before all after end more
    by_test true e =
        let used : length g.part < length before / 2 = ltb-true _ _ e in
        let place = g.stands.place in
        let here : place_in (length text) at ≡ at = rw same (ap (λ (t : Bool). cond t at 0) (lt-ltb at (length before / 2) (omega (arith, place, g.room)))) in
        let behind : Puts text at line after end = rw here at p in
        record { from = g.from; part = g.part ++ line; room = g.room; stands = g.stands then behind; goes_on = g.goes_on ∙ rw e }
    by_test false e =
        let used : length before / 2 ≤ length g.part = ltb-false _ _ e in
        let place = g.stands.place in
        let here : place_in (length text) at ≡ 0 = rw same (ap (λ (t : Bool). cond t at 0) (le-ltb at (length before / 2) (omega (arith, place, g.room)))) in
        let front : Puts text 0 line after end = rw here at p in
        record {
          from = text;
          part = line;
          room = same;
          stands = front;
          goes_on = g.goes_on ∙ rw e (ap (λ (b : List ℕ). laid b (parts_from (length before) line more)) (sym g.stands.bytes));
        }

pub gathers_all : {before text : List ℕ} {all : List (List ℕ)} {at : ℕ} → Gathering before all text at [] → text ≡ laid before (parts (length before) all)
gathers_all g = g.stands.bytes ∙ sym g.goes_on

-- the head by itself, and then the lines
pub head_first : (before head : List ℕ) {middle : List ℕ} → middle ≡ written before 0 head → (lines : List (List ℕ))
    → laid middle (parts (length middle) lines) ≡ laid before (head ∷ parts (length before) lines)
head_first before head {middle} f lines =
    let same : length middle ≡ length before = ap length f ∙ length-sets before 0 head in
    rw (same, f)

-- all of some texts, one behind the other
abbrev pub joined : List (List ℕ) → List ℕ
joined [] = []
joined (text ∷ texts) = text ++ joined texts

pub joined_both : (texts more : List (List ℕ)) → joined (texts ++ more) ≡ joined texts ++ joined more
joined_both [] more = refl
joined_both (text ∷ texts) more = ap (λ (l : List ℕ). text ++ l) (joined_both texts more) ∙ sym (append_assoc text (joined texts) (joined more))

-- the parts written out, one behind the other, are the lines, one behind the other
pub parts_joined : (room : ℕ) (part : List ℕ) (lines : List (List ℕ)) → joined (parts_from room part lines) ≡ part ++ joined lines
parts_joined room part [] = refl
parts_joined room part (line ∷ lines) = by_test (λ l. parts_joined room l lines) (ltb (length part) (room / 2))
  where
    by_test : ((l : List ℕ) → joined (parts_from room l lines) ≡ l ++ joined lines) → (t : Bool)
        → joined (cond t (parts_from room (part ++ line) lines) (part ∷ parts_from room line lines)) ≡ part ++ (line ++ joined lines)
    by_test on true = on (part ++ line) ∙ append_assoc part line (joined lines)
    by_test on false = ap (λ (l : List ℕ). part ++ l) (on line)

abbrev pub EachWithin : ℕ → List (List ℕ) → Type 0
EachWithin most [] = Unit
EachWithin most (text ∷ texts) = (length text ≤ most) × EachWithin most texts

-- and none of them is cut, where no line is longer than half of the text
pub parts_within : (room : ℕ) (part : List ℕ) (lines : List (List ℕ)) → length part ≤ room → EachWithin (room / 2) lines
    → EachWithin room (parts_from room part lines)
parts_within room part [] h e = (h, tt)
parts_within room part (line ∷ lines) h e = by_test (λ l k. parts_within room l lines k e.1) (ltb (length part) (room / 2)) refl
  where
    by_test : ((l : List ℕ) → length l ≤ room → EachWithin room (parts_from room l lines)) → (t : Bool) → ltb (length part) (room / 2) ≡ t
        → EachWithin room (cond t (parts_from room (part ++ line) lines) (part ∷ parts_from room line lines))
    by_test on true f =
        let used : length part < room / 2 = ltb-true _ _ f in
        on (part ++ line) (simp length-append (omega (arith, e.0)))
    by_test on false f = (h, on line (omega (arith, e.0)))
