-- Demand 3 of one place in any environment: each command word gets one closing reply, in the order sent.
use Rattle.std.specs.Prelude.{ℕ, ◌≡◌, refl, true, false, List, [], ◌∷◌, map}
use Rattle.std.proofs.Common.{sym, ap, ◌∙◌}
use Rattle.board.specs.declared.Place.{Place}
use Rattle.board.specs.declared.Phase.{Phase}
use Rattle.board.specs.declared.Phase.TheVariants.{Rest, Due, Waiting, Upper}
use Rattle.board.specs.Board.{fresh_place, at_rest}
use Rattle.plan.specs.Plan.{no_operands}
use Rattle.step.specs.Step.{reply_in, reply_now}
use Rattle.promises.specs.Machine.{stand_in}
use Rattle.promises.specs.TakenWords.{Word, Stage, stage, closing, closing_at, reply_at, is_closed}
use Rattle.promises.specs.TakenWords.Closing.{reply}
use Rattle.promises.specs.TakenWords.Stage.{operand_due, wait_due, upper_due, closed}
use Rattle.promises.specs.Environment.{Found, Trail, heard_at, heard, given_at, given_by, noted, trail, begun, AllFit}
use Rattle.promises.specs.Demand3.{next_reply, last_closed, earlier, PlaceCloses}
use Rattle.promises.specs.Environment.AllFit.{none, more}
use Rattle.promises.specs.OperandLaws.{held}
use Rattle.promises.specs.StageLaws.{stage_due, stage_waiting}
use Rattle.promises.proofs.PlaceTellsLaws.{Tells, PlaceTells, tells_next}

module _ (w : ℕ) where
  told_next : (phase : Phase) (next : ℕ) (os : List Word) → Tells w phase next os → reply_in phase next ≡ next_reply os
  told_next Rest next [] h = h
  told_next Rest next (o ∷ os) h = rw h
  told_next (Due c left t) next [] h = absurd h
  told_next (Due c left t) next (o ∷ os) h = rw (stage_due w c o left t h.0 h.1)
  told_next (Waiting c left address value) next [] h = absurd h
  told_next (Waiting c left address value) next (o ∷ os) h = rw (stage_waiting w c o (held no_operands o.operands) h.asked left h.count h.some)
  told_next (Upper low) next [] h = absurd h
  told_next (Upper low) next (o ∷ os) h = rw h.0

  told_rest : (phase : Phase) (next : ℕ) (os : List Word) → Tells w phase next os → at_rest phase ≡ last_closed os
  told_rest Rest next [] h = refl
  told_rest Rest next (o ∷ os) h = rw h
  told_rest (Due c left t) next [] h = absurd h
  told_rest (Due c left t) next (o ∷ os) h = rw (stage_due w c o left t h.0 h.1)
  told_rest (Waiting c left address value) next [] h = absurd h
  told_rest (Waiting c left address value) next (o ∷ os) h = rw (stage_waiting w c o (held no_operands o.operands) h.asked left h.count h.some)
  told_rest (Upper low) next [] h = absurd h
  told_rest (Upper low) next (o ∷ os) h = rw h.0

-- a closed stage says its reply twice
closed_reply : (s : Stage) → is_closed s ≡ true → closing_at s ≡ reply (reply_at s)
closed_reply operand_due h = let z : false ≡ true = h in cc
closed_reply wait_due h = let z : false ≡ true = h in cc
closed_reply (upper_due upper) h = let z : false ≡ true = h in cc
closed_reply (closed last) h = refl

abbrev pub Paid : List ℕ → List Word → Type 0
Paid gs os = map closing (earlier os) ≡ map reply gs

paid_at : (s : Stage) (f : Found) (p : Place) (r : ℕ) (o : Word) (os : List Word) (gs : List ℕ) → stage o ≡ s → r ≡ reply_at s → Paid gs (o ∷ os)
    → Paid (given_at s r gs) (heard_at s f p o os)
paid_at operand_due f p r o os gs e n h = h
paid_at wait_due f p r o os gs e n h = h
paid_at (upper_due upper) f p r o os gs e n h = h
paid_at (closed last) f p r o os gs e n h = rw (e, n, h)

paid_next : (f : Found) (p : Place) (r : ℕ) (os : List Word) (gs : List ℕ) → r ≡ next_reply os → Paid gs os → Paid (given_by os r gs) (heard f p os)
paid_next f p r [] gs n h = h
paid_next f p r (o ∷ os) gs n h = paid_at (stage o) f p r o os gs refl n h

-- what every packet keeps
pub record Kept (w : ℕ) (t : Trail) : Type 0 where
  pub tells : PlaceTells w t.place t.words
  pub paid : Paid t.given t.words

next_reply_lem : (w : ℕ) (t : Trail) → Kept w t → reply_now t.place ≡ next_reply t.words
unfolding reply_now
next_reply_lem w t h = told_next w t.place.phase t.place.next t.words h.tells

pub kept_noted : (w : ℕ) (t : Trail) (f : Found) → f.board.w ≡ w → Kept w t → Kept w (noted stand_in t f)
kept_noted w t f e h = record {
  tells = tells_next w f t.place e t.words h.tells;
  paid = paid_next f t.place (reply_now t.place) t.words t.given (next_reply_lem w t h) h.paid;
}

kept_trail : (w : ℕ) (t : Trail) (fs : List Found) → AllFit w fs → Kept w t → Kept w (trail stand_in t fs)
unfolding trail
kept_trail w t fs none h = h
kept_trail w t fs (more {f = f} {fs = gs} fits others) h = kept_trail w (noted stand_in t f) gs others (kept_noted w t f fits.board.setting h)

pub kept_from_fresh : (w : ℕ) (fs : List Found) → AllFit w fs → Kept w (trail stand_in begun fs)
unfolding fresh_place
kept_from_fresh w fs fit = kept_trail w begun fs fit (record { tells = refl; paid = refl })

pub place_closes_kept : (w : ℕ) (t : Trail) → Kept w t → PlaceCloses stand_in t
place_closes_kept w t h = record {
  last = λ o os e r.
      let ends : is_closed (stage o) ≡ true = sym (ap last_closed e) ∙ sym (told_rest w t.place.phase t.place.next t.words h.tells) ∙ r in
      closed_reply (stage o) ends ∙ ap reply (sym (ap next_reply e) ∙ sym (next_reply_lem w t h));
  rests = told_rest w t.place.phase t.place.next t.words h.tells;
  next = next_reply_lem w t h;
  in_order = h.paid;
}

-- Whatever board of W and memory within the limit each of its packets finds, each command word gets one closing reply, in the order sent.
pub place_closes : (w : ℕ) (fs : List Found) → AllFit w fs → PlaceCloses stand_in (trail stand_in begun fs)
place_closes w fs fit = place_closes_kept w (trail stand_in begun fs) (kept_from_fresh w fs fit)
