-- A gateway's visit (docs/gateway.md), the promise: joined with the stand-in it ends as read, and what it notes is what is meant.
use Rattle.std.specs.Prelude.{ℕ, ◌≡◌, List, ◌++◌, map, length, drop}
use Rattle.command.specs.Reply.{complete}
use Rattle.board.specs.State.{State}
use Rattle.visit.specs.declared.Stage.TheVariants.{AsRead}
use Rattle.visit.specs.Visit.{begun, note_of}
use Rattle.round_trip.specs.RoundTrip.{resting}
use Rattle.joined.specs.Joined.{Joined, joined}
use Rattle.visit_course.specs.VisitCourse.{Course, course_of}

abbrev pub starts_at : ℕ → ℕ → List ℕ → State → Joined
starts_at address longwords notes s = record { visit = begun address longwords; notes = notes; port = s }

module _ (address longwords : ℕ) (before : List ℕ) (s : State) where
  abbrev pub course : Course
  course = course_of address longwords s

  -- after the stated number of packets
  abbrev pub visited : Joined
  visited = joined course.packets (starts_at address longwords before s)

  pub record VisitReads : Type 0 where
    -- it ends as read
    pub read : visited.visit.stage ≡ AsRead
    -- the packets sent
    pub packets : visited.visit.packets ≡ course.packets
    -- a result for each request that was asked
    pub ends : visited.visit.ends ≡ length course.outcomes
    -- the notes: the outcomes in turn, and the rest as it was
    pub notes : visited.notes ≡ map note_of course.outcomes ++ drop (length course.outcomes) before
    -- the port is left at rest with what is meant
    pub port : visited.port ≡ resting course.leaves complete
