-- Events and the breakpoint input: an outcome is known by what it says on paper, so no second answer fits.
use Rattle.std.specs.Prelude.{ℕ, ◌≡◌, refl, Bool, cond, List, [], ◌∷◌, Err, None, Ok, Option, Result, Some}
use Rattle.std.proofs.Common.{sym, ap, ◌∙◌}
use Rattle.grounds.specs.declared.Ground.{Ground}
use Rattle.grounds.specs.Grounds.{Refusal, refusal_of, no_refusal}
use Rattle.grounds.specs.GroundLaws.{same_refusal_same_ground, number_is_not_zero}
use Rattle.board.specs.declared.Board.{Board}
use Rattle.board.specs.declared.Place.{Place}
use Rattle.trigger.specs.declared.Event.{Event}
use Rattle.halting.specs.declared.Halting.{Halting}
use Rattle.halting.specs.declared.Halting.TheVariants.{NoHalt, Halts, Ignored}
use Rattle.firing.specs.declared.Seen.{Seen}
use Rattle.firing.specs.declared.Pressed.{Pressed}
use Rattle.bus.specs.declared.Answer.{Answer}
use Rattle.bus.specs.EventAnswers.{told_captured, told_halting, EventTold, told_event, BreakpointTold, told_breakpoint}
use Rattle.bus.specs.Events.{EventMeets, BreakpointMeets}

a_refusal_is_told : (g : Ground) → refusal_of g ≡ no_refusal → ⊥
a_refusal_is_told g e = number_is_not_zero g (ap (λ (r : Refusal). r.number) e)

-- the answers back from what is told
abbrev captured_back : List ℕ → Option ℕ
captured_back [] = None
captured_back (pc ∷ pcs) = Some pc

abbrev halting_back : List Bool → Halting
halting_back [] = NoHalt
halting_back (ignored ∷ more) = cond ignored Ignored Halts

abbrev seen_of : EventTold → Option ℕ → Halting → Seen
seen_of t captured halting = record { level = t.level; halted = t.halted; interrupt = t.interrupt; captured = captured; halting = halting }

abbrev seen_back : EventTold → Seen
seen_back t = seen_of t (captured_back t.captured) (halting_back t.ignored)

abbrev pressed_back : BreakpointTold → Pressed
pressed_back t = record { halted = t.halted; interrupt = t.interrupt }

captured_back_lem : (c : Option ℕ) → captured_back (told_captured c) ≡ c
captured_back_lem None = refl
captured_back_lem (Some pc) = refl

halting_back_lem : (h : Halting) → halting_back (told_halting h) ≡ h
halting_back_lem NoHalt = refl
halting_back_lem Halts = refl
halting_back_lem Ignored = refl

seen_back_lem : (s : Seen) → seen_back (told_event (Ok s)) ≡ s
seen_back_lem s =
    let told = told_event (Ok s) in
    ap (λ (c : Option ℕ). seen_of told c (halting_back (told_halting s.halting))) (captured_back_lem s.captured)
    ∙ ap (λ (h : Halting). seen_of told s.captured h) (halting_back_lem s.halting)

pub told_event_unique : (o q : Result Seen Ground) → told_event o ≡ told_event q → o ≡ q
told_event_unique (Err g) (Err h) e =
    ap Err (same_refusal_same_ground g h (ap (λ (t : EventTold). t.refusal) e))
told_event_unique (Err g) (Ok t) e = absurd (a_refusal_is_told g (ap (λ (t : EventTold). t.refusal) e))
told_event_unique (Ok s) (Err h) e = absurd (a_refusal_is_told h (sym (ap (λ (t : EventTold). t.refusal) e)))
told_event_unique (Ok s) (Ok t) e =
    ap Ok (sym (seen_back_lem s) ∙ ap seen_back e ∙ seen_back_lem t)

pub told_breakpoint_unique : (o q : Result Pressed Ground) → told_breakpoint o ≡ told_breakpoint q → o ≡ q
told_breakpoint_unique (Err g) (Err h) e =
    ap Err (same_refusal_same_ground g h (ap (λ (t : BreakpointTold). t.refusal) e))
told_breakpoint_unique (Err g) (Ok t) e =
    absurd (a_refusal_is_told g (ap (λ (t : BreakpointTold). t.refusal) e))
told_breakpoint_unique (Ok s) (Err h) e =
    absurd (a_refusal_is_told h (sym (ap (λ (t : BreakpointTold). t.refusal) e)))
told_breakpoint_unique (Ok s) (Ok t) e = ap Ok (ap pressed_back e)

-- no second answer fits
pub event_unique : {b : Board} {p : Place} {e : Event} {r s : Answer Seen} → EventMeets b p e r → EventMeets b p e s → r ≡ s
event_unique {b} {p} {e} {r} {s} f g =
    ap (λ (o : Result Seen Ground). record { outcome = o; board = r.board }) (told_event_unique r.outcome s.outcome (f.answer ∙ sym g.answer))
    ∙ ap (λ (after : Board). record { outcome = s.outcome; board = after }) (f.board ∙ sym g.board)

pub breakpoint_unique : {b : Board} {p : Place} {r s : Answer Pressed} → BreakpointMeets b p r → BreakpointMeets b p s → r ≡ s
breakpoint_unique {b} {p} {r} {s} f g =
    ap (λ (o : Result Pressed Ground). record { outcome = o; board = r.board })
    (told_breakpoint_unique r.outcome s.outcome (f.answer ∙ sym g.answer))
    ∙ ap (λ (after : Board). record { outcome = s.outcome; board = after }) (f.board ∙ sym g.board)
