-- Laws of the visit joined with the stand-in: packets are counted one after the other, and what each of them does to both.
use Rattle.std.specs.Prelude.{ℕ, zero, suc, ◌+◌, ◌≤◌, ◌<◌, ◌≡◌, refl, true, false, List, get_or, set}
use Rattle.std.proofs.Common.{arith, zero-add}
use borrow.Author.Tests.{le-leb, lt-ltb, ne_eqb}
use Rattle.command.specs.Reply.{complete}
use Rattle.board.specs.declared.Phase.{Phase}
use Rattle.board.specs.declared.Phase.TheVariants.{Rest, Due, Waiting, Upper}
use Rattle.board.specs.State.{State}
use Rattle.step.specs.Step.{reply_in, reply_now, stepped}
use Rattle.sound.specs.Sound.{Sound}
use Rattle.requests.specs.Request.{kind_of}
use Rattle.building.specs.RequestWords.{built_words}
use Rattle.readings.specs.declared.Outcome.{Outcome}
use Rattle.readings.specs.declared.Reader.{Reader}
use Rattle.readings.specs.declared.Reader.TheVariants.{First, Second, Closed, Bad}
use Rattle.readings.specs.Reader.{after_reply, done}
use Rattle.asked.specs.VisitRequests.{request_at}
use Rattle.asked.specs.Marker.{last_at, mark_word, mark_holds}
use Rattle.visit.specs.declared.Stage.{Stage}
use Rattle.visit.specs.declared.Stage.TheVariants.{Marking, Asking}
use Rattle.visit.specs.declared.Visit.{Visit}
use Rattle.visit.specs.Visit.{next_of, patience, on_stage, after_marker, afterwards, ends_after, stage_after, notable, closed_by, read_by, heard}
use Rattle.visit.specs.Visit.{note_of, noted_by, noted}
use Rattle.joined.specs.Joined.{Joined, exchanged_for, onward, joined}

pub joined_more : (m n : ℕ) (j : Joined) → joined (m + n) j ≡ joined n (joined m j)
unfolding joined
joined_more zero n j = rw (zero-add n)
joined_more (suc m) n j = let more : suc m + n ≡ suc (m + n) = omega arith in rw more (joined_more m n (onward j))

pub joined_on : (n : ℕ) (j : Joined) → joined (suc n) j ≡ joined n (onward j)
unfolding joined
joined_on n j = refl

pub joined_none : (j : Joined) → joined 0 j ≡ j
unfolding joined
joined_none j = refl

-- ---- where both stand
abbrev pub visit_at : ℕ → ℕ → ℕ → ℕ → Stage → Visit
visit_at address ends at packets stage = record { address = address; ends = ends; at = at; packets = packets; stage = stage }

abbrev pub meeting : Visit → List ℕ → State → Joined
meeting v notes s = record { visit = v; notes = notes; port = s }

-- the request under way is closed; packets are the packets then answered
abbrev pub closed_at : ℕ → ℕ → ℕ → ℕ → Outcome → Visit
closed_at address ends at packets o =
    visit_at address (ends_after o ends at) (afterwards ends at) packets (stage_after o (ends_after o ends at) (afterwards ends at))

-- a packet is counted up to this
abbrev pub last_counted : ℕ
last_counted = 0xFFFFFFFF

-- ---- replies
pub reply_within : {s : State} → Sound s → reply_now s.place ≤ 0x1FFFF
unfolding reply_now
reply_within {s} f = by_phase s.place.phase
  where
    by_phase : (phase : Phase) → reply_in phase s.place.next ≤ 0x1FFFF
    by_phase Rest = f.place.next
    by_phase (Due c left t) = omega arith
    by_phase (Waiting c left a d) = omega arith
    by_phase (Upper low) = f.place.next

-- ---- a reader that waits for a reply more
read_on : (v : Visit) (sent : ℕ) (reader : Reader) → done reader ≡ false → sent < patience → read_by v sent reader ≡ on_stage v (Asking (suc sent) reader)
read_on v sent First waits patient = rw (lt-ltb sent patience patient)
read_on v sent (Second upper) waits patient = rw (lt-ltb sent patience patient)
read_on v sent (Closed o) waits patient = cc
read_on v sent (Bad why) waits patient = cc

noted_on : (j : ℕ) (reader : Reader) (notes : List ℕ) → done reader ≡ false → noted_by j reader notes ≡ notes
noted_on j First notes waits = refl
noted_on j (Second upper) notes waits = refl
noted_on j (Closed o) notes waits = cc
noted_on j (Bad why) notes waits = cc

-- ---- a packet of a marker, of a request's command word, and of what follows it
module _ (address ends at p : ℕ) (notes : List ℕ) (s : State) (small : reply_now s.place ≤ 0x1FFFF) (more : p < last_counted) where
  pub mark_on : (i : ℕ) → i < last_at → mark_holds i (reply_now s.place) ≡ true
      → onward (meeting (visit_at address ends at p (Marking i)) notes s)
      ≡ meeting (visit_at address ends at (suc p) (Marking (suc i))) notes (stepped s (mark_word i))
  unfolding exchanged_for next_of heard noted
  mark_on i before holds = rw (le-leb (reply_now s.place) 0x1FFFF small, holds, lt-ltb i last_at before, lt-ltb p last_counted more)

  pub mark_last : mark_holds last_at (reply_now s.place) ≡ true
      → onward (meeting (visit_at address ends at p (Marking last_at)) notes s)
      ≡ meeting (visit_at address ends at (suc p) (after_marker ends at)) notes (stepped s (mark_word last_at))
  unfolding exchanged_for next_of heard noted
  mark_last holds = rw (le-leb (reply_now s.place) 0x1FFFF small, holds, lt-ltb p last_counted more)

  pub command_on : reply_now s.place ≡ complete
      → onward (meeting (visit_at address ends at p (Asking 0 First)) notes s)
      ≡ meeting (visit_at address ends at (suc p) (Asking 1 First)) notes (stepped s (get_or (built_words (request_at address at)) 0 0))
  unfolding exchanged_for next_of heard noted
  command_on held = rw (held, lt-ltb p last_counted more)

  -- .. the reader may be one that waits for a reply more, or be done with this one
  module _ (sent : ℕ) (reader : Reader) (asked : 1 ≤ sent) where
    pub reply_on : done (after_reply (kind_of (request_at address at)) reader (reply_now s.place)) ≡ false → sent < patience
        → onward (meeting (visit_at address ends at p (Asking sent reader)) notes s)
        ≡ meeting (visit_at address ends at (suc p) (Asking (suc sent) (after_reply (kind_of (request_at address at)) reader (reply_now s.place)))) notes
        (stepped s (get_or (built_words (request_at address at)) sent 0))
    unfolding exchanged_for next_of heard noted
    reply_on waits patient =
        let v = visit_at address ends at p (Asking sent reader) in
        let reader' = after_reply (kind_of (request_at address at)) reader (reply_now s.place) in
        rw (
          le-leb (reply_now s.place) 0x1FFFF small,
          ne_eqb sent 0 (λ e. omega arith),
          read_on v sent reader' waits patient,
          noted_on at reader' notes waits,
          lt-ltb p last_counted more,
        )

    pub reply_closes : (o : Outcome) → after_reply (kind_of (request_at address at)) reader (reply_now s.place) ≡ Closed o → notable o at ≡ true
        → onward (meeting (visit_at address ends at p (Asking sent reader)) notes s)
        ≡ meeting (closed_at address ends at (suc p) o) (set notes at (note_of o)) (stepped s (get_or (built_words (request_at address at)) sent 0))
    unfolding exchanged_for next_of heard noted closed_by
    reply_closes o closed fine =
        rw (le-leb (reply_now s.place) 0x1FFFF small, ne_eqb sent 0 (λ e. omega arith), closed, fine, lt-ltb p last_counted more)
