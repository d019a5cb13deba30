-- Reading: no second answer fits.
use Rattle.std.specs.Prelude.{ℕ, ◌≡◌, refl, cond, List, eqb, Err, None, Ok, Option, Result, Some}
use Rattle.grounds.specs.declared.Ground.{Ground}
use Rattle.std.proofs.Common.{ap, sym, ◌∙◌}
use Rattle.command.specs.Reply.{complete, not_ready, bus_error, illegal}
use Rattle.grounds.specs.GroundLaws.{same_number_same_ground, number_is_not_zero}
use Rattle.requests.specs.declared.Request.{Request}
use Rattle.readings.specs.declared.Outcome.{Outcome}
use Rattle.readings.specs.declared.Outcome.TheVariants.{Value, Complete, BusError, Illegal}
use Rattle.readings.specs.Reading.{ReadingOnPaper, told_reading, ReadingMeets}

-- an answer that is no refusal, back from what it says on paper
abbrev meant : ReadingOnPaper → Result (Option Outcome × ℕ) Ground
meant p =
    cond (eqb p.reply not_ready) (Ok (None, p.words))
    (cond (eqb p.reply complete) (Ok (Some Complete, p.words))
    (cond (eqb p.reply bus_error) (Ok (Some BusError, p.words))
    (cond (eqb p.reply illegal) (Ok (Some Illegal, p.words)) (Ok (Some (Value p.value), p.words)))))

back : (outcome : Outcome) (n : ℕ) → meant (told_reading (Ok (Some outcome, n))) ≡ Ok (Some outcome, n)
back (Value value) n = refl
back Complete n = refl
back BusError n = refl
back Illegal n = refl

refusal_number : ReadingOnPaper → ℕ
refusal_number p = p.refusal.number

pub told_reading_unique : (r s : Result (Option Outcome × ℕ) Ground) → told_reading r ≡ told_reading s → r ≡ s
unfolding refusal_number
told_reading_unique (Ok (Some o, m)) (Ok (Some p, n)) e = sym (back o m) ∙ ap meant e ∙ back p n
told_reading_unique (Ok (Some o, m)) (Ok (None, n)) e = sym (back o m) ∙ ap meant e
told_reading_unique (Ok (Some o, m)) (Err h) e = absurd (number_is_not_zero h (sym (ap refusal_number e)))
told_reading_unique (Ok (None, m)) (Ok (Some p, n)) e = ap meant e ∙ back p n
told_reading_unique (Ok (None, m)) (Ok (None, n)) e = ap meant e
told_reading_unique (Ok (None, m)) (Err h) e = absurd (number_is_not_zero h (sym (ap refusal_number e)))
told_reading_unique (Err g) (Ok (Some p, n)) e = absurd (number_is_not_zero g (ap refusal_number e))
told_reading_unique (Err g) (Ok (None, n)) e = absurd (number_is_not_zero g (ap refusal_number e))
told_reading_unique (Err g) (Err h) e = ap Err (same_number_same_ground g h (ap refusal_number e))

-- no second answer fits
pub reading_unique : {request : Request} {replies : List ℕ} {r s : Result (Option Outcome × ℕ) Ground} → ReadingMeets request replies r
    → ReadingMeets request replies s → r ≡ s
reading_unique {request} {replies} {r} {s} f g = told_reading_unique r s (f.answer ∙ sym g.answer)
