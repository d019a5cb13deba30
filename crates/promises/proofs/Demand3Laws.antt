-- DEMAND 3, "no history strands the port": the theorems.
use Rattle.std.specs.Prelude.{ℕ, ◌≤◌, ◌≡◌, refl, List, length}
use Rattle.std.proofs.Common.{ap, ◌∙◌, subst, arith}
use Rattle.board.specs.declared.Place.{Place}
use Rattle.board.specs.Board.{at_rest}
use Rattle.board.specs.State.{State}
use Rattle.promises.specs.Machine.{stand_in}
use Rattle.promises.specs.Environment.{Trail, begun, AllFit, AllNops}
use Rattle.promises.specs.History.{Lent, Call, after, finds, made, Idle}
use Rattle.promises.specs.Demand3.{PlaceRests, NopsBring, trail_of, NeverStranded, ClosingReplies, Demand3, PlaceDemand3}
use Rattle.sound.specs.Sound.{SoundPlace}
use Rattle.promises.proofs.PlaceClosingLaws.{kept_from_fresh, place_closes}
use Rattle.promises.proofs.PlaceRestLaws.{place_rests_from, place_rests}
use Rattle.promises.proofs.HistoryLaws.{Fits, ranged, within_is_accepted, fresh_fits, history_fits, finds_fit, place_of_trail}
use Rattle.promises.proofs.HeldRegisterLaws.{register_below_16}
use Rattle.promises.proofs.IdleLaws.{idle_found, idle_unmoved}

module _ (w : ℕ) (small : w ≤ 15) (history : List Call) where
  reached : Fits w (after stand_in (made w) history)
  reached = history_fits w (made w) history (fresh_fits w small)

  found : AllFit w (finds stand_in (made w) history)
  found = finds_fit w (made w) history (fresh_fits w small)

  here : (after stand_in (made w) history).place ≡ (trail_of stand_in w history).place
  here = place_of_trail (made w) begun history refl

  pub closing_replies : ClosingReplies stand_in w history
  closing_replies = record { place = here; closes = place_closes w (finds stand_in (made w) history) found }

  nops_bring : (ms : List Lent) (idle : List Call) → Idle ms idle → NopsBring stand_in w (after stand_in (made w) history) (trail_of stand_in w history) ms idle
  nops_bring ms idle i =
      let s : State = after stand_in (made w) history in
      let t : Trail = trail_of stand_in w history in
      let nops : AllNops w (finds stand_in s idle) × (length (finds stand_in s idle) ≡ length ms) = idle_found w s ms idle i reached in
      let brought : PlaceRests stand_in w t (finds stand_in s idle) =
      place_rests_from w t (finds stand_in s idle) nops.0 (kept_from_fresh w (finds stand_in (made w) history) found)
      (subst (SoundPlace w) here reached.place) in
      record {
        accepted = nops.1;
        enough = λ l. ap (λ (p : Place). at_rest p.phase) (place_of_trail s t idle here) ∙ brought.enough (omega (arith, nops.1));
        brought = brought;
        unmoved = idle_unmoved w s ms idle i reached;
      }

  pub never_stranded : NeverStranded stand_in w history
  never_stranded = record {
    ranged = ranged w (after stand_in (made w) history) reached;
    register = register_below_16 w history;
    accepted = within_is_accepted w (after stand_in (made w) history) reached;
    nops = nops_bring;
  }

pub demand_3 : Demand3 stand_in
demand_3 = record { rest = never_stranded; closing = closing_replies }

pub place_demand_3 : PlaceDemand3 stand_in
place_demand_3 = record { rest = place_rests; closing = place_closes }
