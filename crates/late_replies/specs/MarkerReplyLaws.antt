-- Laws: what is known of the port's replies at each packet of a marker, however late they come in: none since its first packet is "illegal", but the one
-- to its 23rd.
use Rattle.std.specs.Prelude.{ℕ, zero, suc, ◌≤◌, ◌<◌, ◌≡◌, refl, List, ◌∷◌, get_or}
use Rattle.std.proofs.Common.{arith, ne_eqb}
use Rattle.laws.specs.TestLaws.{either, by_test}
use Rattle.command.specs.Reply.{complete, illegal}
use Rattle.board.specs.declared.Phase.TheVariants.{Rest}
use Rattle.board.specs.declared.Place.{Place}
use Rattle.board.specs.State.{State}
use Rattle.step.specs.Step.{reply_now, stepped}
use Rattle.sound.specs.Sound.{Sound}
use Rattle.sound.specs.SoundLaws.{packet_keeps_sound}
use Rattle.asked.specs.Marker.{illegal_at, last_at, mark_word}
use Rattle.visit.specs.declared.Stage.{Stage}
use Rattle.visit.specs.declared.Stage.TheVariants.{Marking, Asking, AsRead, NotRead}
use Rattle.visit.specs.Visit.{next_of, is_over, heard, noted}
use Rattle.joined.specs.Joined.{Joined, packet_now, exchanged_for}
use Rattle.late_replies.specs.LateReplies.{Late, came_in, late_by, reach, Begins}
use Rattle.late_replies.specs.NopReplyLaws.{nop_never_illegal, illegal_is_at_rest, nop_completes}
use Rattle.visit.specs.HeardStageLaws.{Anew, asked_anew, after_marker_lem, marking_leads, mark_at}

-- ---- one packet of the visit and the port
pub exchanged_visit : (j : Joined) (reply : ℕ) → (exchanged_for j reply).visit ≡ heard j.visit reply
unfolding exchanged_for heard
exchanged_visit j reply = by_test (is_over j.visit.stage) (λ e. rw e) (λ e. rw e)

pub exchanged_sound : (j : Joined) (reply : ℕ) → Sound j.port → Sound (exchanged_for j reply).port
unfolding exchanged_for
exchanged_sound j reply f =
    either (λ (x : Joined). Sound x.port) (is_over j.visit.stage) j
    (record { visit = heard j.visit reply; notes = noted j.visit reply j.notes; port = stepped j.port (packet_now j.visit) })
    (λ e. f) (λ e. packet_keeps_sound f (packet_now j.visit))

pub marked_port : (j : Joined) (m reply : ℕ) → j.visit.stage ≡ Marking m → (exchanged_for j reply).port ≡ stepped j.port (mark_word m)
unfolding exchanged_for next_of
marked_port j m reply e = rw e

pub nop_in_marker : (m : ℕ) → (m ≡ illegal_at → ⊥) → mark_word m ≡ 0
unfolding mark_word
nop_in_marker m h = rw (ne_eqb m illegal_at h)

-- ---- what is known before packet m of a marker
module _ (p : Place) (replies : List ℕ) where
  pub record Remembers (m : ℕ) : Type 0 where
    pub within : m ≤ last_at
    -- the reply to this packet follows a NOP, but for the one after the illegal word
    pub ahead : 1 ≤ m → m ≤ illegal_at → reply_now p ≡ illegal → ⊥
    -- and so did each since the marker's first
    pub behind : m ≤ suc illegal_at → (d : ℕ) → suc d < m → get_or replies d 0 ≡ illegal → ⊥
    -- "illegal" is told at rest
    pub rests : 1 ≤ m → reply_now p ≡ illegal → p.phase ≡ Rest

  abbrev pub RemembersAt : Stage → Type 0
  RemembersAt (Marking m) = Remembers m
  RemembersAt (Asking sent reader) = Unit {0}
  RemembersAt AsRead = Unit {0}
  RemembersAt (NotRead reason) = Unit {0}

  pub first_remembers : Remembers 0
  first_remembers = record { within = omega arith; ahead = λ h k e. omega arith; behind = λ h d k e. omega arith; rests = λ h e. absurd (omega arith) }

  anew_remembers : (stage : Stage) → Anew stage → RemembersAt stage
  anew_remembers (Marking zero) h = first_remembers
  anew_remembers (Marking (suc m)) h = absurd h
  anew_remembers (Asking sent reader) h = tt
  anew_remembers AsRead h = absurd h
  anew_remembers (NotRead reason) h = tt

  pub marks_within : (stage : Stage) → RemembersAt stage → mark_at stage ≤ last_at
  marks_within (Marking m) h = h.within
  marks_within (Asking sent reader) h = omega arith
  marks_within AsRead h = omega arith
  marks_within (NotRead reason) h = omega arith

-- the next packet of the marker
module _ {s : State} (f : Sound s) (replies : List ℕ) (m : ℕ) (h : Remembers s.place replies m) where
  no_illegal_behind : suc m ≤ suc illegal_at → (d : ℕ) → suc d < suc m → get_or (reply_now s.place ∷ replies) d 0 ≡ illegal → ⊥
  no_illegal_behind k zero lt e = h.ahead (omega arith) (omega arith) e
  no_illegal_behind k (suc d) lt e = h.behind (omega arith) d (omega arith) e

  next_remembers : m < last_at → Remembers (stepped s (mark_word m)).place (reply_now s.place ∷ replies) (suc m)
  next_remembers lt =
      record {
        within = lt;
        ahead =
            λ lo hi e.
            let nop : mark_word m ≡ 0 = nop_in_marker m (omega arith) in nop_never_illegal f (rw nop at e);
        behind = no_illegal_behind;
        rests = λ lo e. illegal_is_at_rest f (mark_word m) e;
      }

-- ---- at every packet of a visit
pub record Known (l : Late) : Type 0 where
  pub sound : Sound l.joined.port
  pub remembers : RemembersAt l.joined.port.place l.replies l.joined.visit.stage

pub begins_known : {l : Late} → Begins l → Known l
begins_known {l} b = record { sound = b.sound; remembers = rw b.marks (first_remembers l.joined.port.place l.replies) }

module _ (d : ℕ) {l : Late} (k : Known l) where
  abbrev j : Joined
  j = l.joined

  abbrev now : ℕ
  now = reply_now j.port.place

  remembers_on : (stage : Stage) → j.visit.stage ≡ stage → RemembersAt j.port.place l.replies stage
      → RemembersAt (exchanged_for j (came_in d l)).port.place (now ∷ l.replies) (exchanged_for j (came_in d l)).visit.stage
  unfolding heard
  remembers_on (Marking m) e h =
      let after = RemembersAt (stepped j.port (mark_word m)).place (now ∷ l.replies) in
      rw (exchanged_visit j (came_in d l), marked_port j m (came_in d l) e)
      (marking_leads j.visit after m (came_in d l) e (λ holds less. next_remembers k.sound l.replies m h less)
      (λ holds more. after_marker_lem j.visit after tt tt) tt tt)
  remembers_on (Asking sent reader) e h =
      rw (exchanged_visit j (came_in d l))
      (anew_remembers (exchanged_for j (came_in d l)).port.place (now ∷ l.replies) (heard j.visit (came_in d l)).stage
      (asked_anew j.visit sent reader (came_in d l) e))
  remembers_on AsRead e h = rw (exchanged_visit j (came_in d l), e) tt
  remembers_on (NotRead reason) e h = rw (exchanged_visit j (came_in d l), e) tt

  pub known_on : Known (late_by d l)
  known_on = record { sound = exchanged_sound j (came_in d l) k.sound; remembers = remembers_on j.visit.stage refl k.remembers }

-- ---- at the 23rd packet of a marker
module _ {l : Late} (k : Known l) (at : l.joined.visit.stage ≡ Marking (suc illegal_at)) where
  abbrev here : Remembers l.joined.port.place l.replies (suc illegal_at)
  here = rw at at k.remembers

  -- what comes in late is not 1FFFF
  pub late_no_illegal : (d : ℕ) → 1 ≤ d → d ≤ reach → came_in d l ≡ illegal → ⊥
  late_no_illegal zero lo hi e = omega arith
  late_no_illegal (suc d) lo hi e = here.behind (omega arith) d (omega arith) e

  -- where 1FFFF is the port's own reply to it, its reply to the marker's last packet is "complete"
  pub then_complete : (reply : ℕ) → reply_now l.joined.port.place ≡ illegal → reply_now (exchanged_for l.joined reply).port.place ≡ complete
  then_complete reply e =
      rw (marked_port l.joined (suc illegal_at) reply at, nop_in_marker (suc illegal_at) (omega arith))
      (nop_completes l.joined.port (here.rests (omega arith) e))
