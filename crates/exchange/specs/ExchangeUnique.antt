-- An exchange: no second answer fits.
use Rattle.std.specs.Prelude.{ℕ, ◌≡◌, refl, cond, List, eqb, Err, Ok, Result}
use Rattle.grounds.specs.declared.Ground.{Ground}
use Rattle.std.proofs.Common.{sym, ap, ◌∙◌}
use Rattle.grounds.specs.GroundLaws.{same_number_same_ground, number_is_not_zero}
use Rattle.command.specs.Reply.{complete, bus_error, illegal}
use Rattle.board.specs.State.{State}
use Rattle.requests.specs.declared.Request.{Request}
use Rattle.readings.specs.declared.Outcome.{Outcome}
use Rattle.readings.specs.declared.Outcome.TheVariants.{Value, Complete, BusError, Illegal}
use Rattle.exchange.specs.declared.Returned.{Returned}
use Rattle.exchange.specs.Exchange.{ExchangeTold, told_exchange, ExchangeMeets}

-- an answer that is no refusal, back from what it says on paper
abbrev ended_as : ExchangeTold → Result (Outcome × ℕ) Ground
ended_as t =
    cond (eqb t.reply complete) (Ok (Complete, t.packets))
    (cond (eqb t.reply bus_error) (Ok (BusError, t.packets))
    (cond (eqb t.reply illegal) (Ok (Illegal, t.packets)) (Ok (Value t.value, t.packets))))

ended_back : (outcome : Outcome) (n : ℕ) → ended_as (told_exchange (Ok (outcome, n))) ≡ Ok (outcome, n)
ended_back (Value value) n = refl
ended_back Complete n = refl
ended_back BusError n = refl
ended_back Illegal n = refl

abbrev refusal_number : ExchangeTold → ℕ
refusal_number t = t.refusal.number

-- an answer is known by what it says on paper
pub told_exchange_unique : (x y : Result (Outcome × ℕ) Ground) → told_exchange x ≡ told_exchange y → x ≡ y
told_exchange_unique (Ok (o, m)) (Ok (q, n)) e = sym (ended_back o m) ∙ ap ended_as e ∙ ended_back q n
told_exchange_unique (Ok (o, m)) (Err h) e = absurd (number_is_not_zero h (sym (ap refusal_number e)))
told_exchange_unique (Err g) (Ok (q, n)) e = absurd (number_is_not_zero g (ap refusal_number e))
told_exchange_unique (Err g) (Err h) e = ap Err (same_number_same_ground g h (ap refusal_number e))

pub exchange_unique : {request : Request} {s : State} {q r : Returned} {x y : List ℕ}
    → ExchangeMeets request s q x → ExchangeMeets request s r y → (q ≡ r) × (x ≡ y)
exchange_unique {q = q} {r = r} f g =
    let same = f.state ∙ sym g.state in (
      ap (λ a. record { answer = a; board = q.board; place = q.place }) (told_exchange_unique q.answer r.answer (f.answer ∙ sym g.answer))
          ∙ ap (λ (t : State). record { answer = r.answer; board = t.board; place = t.place }) same,
      ap (λ (t : State). t.memory) same,
    )
