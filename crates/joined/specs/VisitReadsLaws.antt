-- A gateway's visit (docs/gateway.md) joined with the stand-in: from any sound state it ends as read, and what it notes is what its requests mean in turn.
use Rattle.std.specs.Prelude.{ℕ, zero, suc, ◌+◌, ◌≤◌, ◌≡◌, true, ◌||◌, List, ◌++◌, map, length, drop}
use Rattle.std.proofs.Common.{arith, zero-add, ap, sym, ◌∙◌, true≢false}
use Rattle.std.proofs.lemmas.List.{length-map}
use Rattle.std.proofs.lemmas.List.Edits.{sets-eq}
use Rattle.laws.specs.TestLaws.{by_test}
use Rattle.command.specs.Reply.{complete}
use Rattle.board.specs.State.{State}
use Rattle.sound.specs.Sound.{Sound}
use Rattle.asked.specs.VisitRequests.{registers_asked, request_at, marked}
use Rattle.asked.specs.Marker.{marker_packets}
use Rattle.visit.specs.Visit.{table_in_range, after_marker, note_of, is_illegal}
use Rattle.visit.specs.VisitLaws.{table_bound}
use Rattle.round_trip.specs.Meaning.{Scene}
use Rattle.round_trip.specs.RoundTrip.{resting, unchained, outcome_there}
use Rattle.round_trip.specs.BroughtToRest.{rest_budget, rest_scene}
use Rattle.round_trip.proofs.BroughtToRestLaws.{rest_keeps_sound}
use Rattle.visit_course.specs.VisitCourse.{leaves_there, ends_table, course_from, course_of}
use Rattle.joined.specs.Joined.{Joined, joined}
use Rattle.joined.specs.VisitReads.{starts_at, VisitReads}
use Rattle.joined.specs.JoinedLaws.{visit_at, meeting}
use Rattle.joined.specs.AskedJoinedLaws.{unchained_sound}
use Rattle.joined.specs.CourseJoinedLaws.{came_to, marker_first, course_joined}

-- no more outcomes than requests
outcomes_bound : (left address j : ℕ) (s : Scene) → length (course_from left address j s).outcomes ≤ left
unfolding course_from
outcomes_bound zero address j s = omega arith
outcomes_bound (suc left) address j s =
    let o = outcome_there (request_at address j) s in
    let s' = leaves_there (request_at address j) s in
    by_test (ends_table j o) (λ t. rw t (omega arith))
    (λ t.
    by_test (is_illegal o || marked (suc j + left) (suc j))
    (λ m. rw (t, m) (omega (arith, outcomes_bound left address (suc j) (unchained s'))))
    (λ m. rw (t, m) (omega (arith, outcomes_bound left address (suc j) s'))))

module _ (address longwords : ℕ) (before : List ℕ) (s : State) (f : Sound s) (fits : table_in_range address longwords ≡ true) where
  -- where both come to
  pub visit_joined : joined (course_of address longwords s).packets (starts_at address longwords before s)
      ≡ came_to address 0 0 before (course_of address longwords s)
  unfolding course_of
  visit_joined =
      let asked = registers_asked + longwords in
      let few = table_bound address longwords fits in
      let found = unchained (rest_scene s) in
      let sound = unchained_sound (rest_keeps_sound rest_budget s f) in
      let rest = course_from asked address 0 in
      marker_first address asked 0 0 before rest f (omega arith)
      (ap (λ ends. joined (rest found).packets (meeting (visit_at address ends 0 marker_packets (after_marker ends 0)) before (resting found complete)))
      (sym (zero-add asked))
      ∙ course_joined asked address 0 marker_packets before found sound (λ some there. absurd (true≢false (sym there))) (omega arith))

  outcomes_fit : length (course_of address longwords s).outcomes ≤ registers_asked + longwords
  unfolding course_of
  outcomes_fit = outcomes_bound (registers_asked + longwords) address 0 (unchained (rest_scene s))

  pub visit_reads : registers_asked + longwords ≤ length before → VisitReads address longwords before s
  visit_reads room =
      let c = course_of address longwords s in
      let notes = map note_of c.outcomes in
      let same : length notes ≡ length c.outcomes = length-map c.outcomes note_of in
      let asked : 0 + length notes ≡ length c.outcomes = omega arith in
      record {
        read = ap (λ (j : Joined). j.visit.stage) visit_joined;
        packets = ap (λ (j : Joined). j.visit.packets) visit_joined ∙ zero-add c.packets;
        ends = ap (λ (j : Joined). j.visit.ends) visit_joined ∙ zero-add (length c.outcomes);
        notes = ap (λ (j : Joined). j.notes) visit_joined ∙ sets-eq notes before 0 (omega (arith, outcomes_fit)) ∙ ap (λ n. notes ++ drop n before) asked;
        port = ap (λ (j : Joined). j.port) visit_joined;
      }
