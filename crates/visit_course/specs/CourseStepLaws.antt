-- Laws of one request of a visit's course: what it comes to, and what stands after it.
use Rattle.std.specs.Prelude.{ℕ, suc, ◌+◌, ◌≡◌, false, cond, ◌||◌}
use Rattle.asked.specs.VisitRequests.{request_at, marked}
use Rattle.requests.specs.declared.Request.{Request}
use Rattle.readings.specs.declared.Outcome.{Outcome}
use Rattle.readings.specs.declared.Outcome.TheVariants.{Illegal}
use Rattle.visit.specs.Visit.{is_illegal}
use Rattle.round_trip.specs.Meaning.{Scene}
use Rattle.round_trip.specs.RoundTrip.{unchained, legal_there, outcome_there, packets_there}
use Rattle.visit_course.specs.VisitCourse.{Course, nothing_more, behind_marker, behind, noting, leaves_there, ends_table, course_from}

-- what a request comes to in a scene
pub record ComesTo (request : Request) (s : Scene) (o : Outcome) (n : ℕ) (left : Scene) : Type 0 where
  pub outcome : outcome_there request s ≡ o
  pub packets : packets_there request s ≡ n
  pub leaves : leaves_there request s ≡ left

pub illegal_comes_to : {request : Request} {s : Scene} → legal_there request s ≡ false → ComesTo request s Illegal 2 (unchained s)
unfolding packets_there
illegal_comes_to l = record { outcome = rw l; packets = rw l; leaves = rw l }

-- the course behind a request with such an outcome, which leaves such a scene
abbrev pub course_behind : ℕ → ℕ → ℕ → Outcome → Scene → Course
course_behind left address j outcome leaves =
    cond (ends_table j outcome) (behind_marker nothing_more leaves)
    (behind (is_illegal outcome || marked (suc j + left) (suc j)) (course_from left address (suc j)) leaves)

pub course_step : (left address j : ℕ) {s leaves : Scene} {request : Request} {outcome : Outcome} {packets : ℕ} → request_at address j ≡ request
    → ComesTo request s outcome packets leaves
    → course_from (suc left) address j s ≡ noting outcome packets (course_behind left address j outcome leaves)
unfolding course_from
course_step left address j e c = rw (e, c.outcome, c.packets, c.leaves)
