-- The course of a visit's requests joined with the stand-in: found at rest, they are asked in turn, and both come to what the course says.
use Rattle.std.specs.Prelude.{ℕ, zero, suc, ◌+◌, ◌-◌, ◌*◌, ◌≤◌, ◌≡◌, Bool, true, false, cond, ◌||◌, List, map, leb, length, set}
use Rattle.std.proofs.Common.{arith, add-zero, le_refl, sym, ap, ◌∙◌, true≢false}
use Rattle.std.proofs.Math.Bool.{or-true}
use Rattle.std.proofs.lemmas.List.Edits.{sets}
use borrow.Author.Tests.{leb-true, leb-false, le-leb, lt-leb, lt-ltb}
use Rattle.laws.specs.TestLaws.{by_test}
use Rattle.command.specs.Reply.{complete}
use Rattle.board.specs.declared.Chain.TheVariants.{Dumping}
use Rattle.board.specs.State.{State}
use Rattle.sound.specs.Sound.{Sound}
use Rattle.readings.specs.declared.Outcome.{Outcome}
use Rattle.readings.specs.declared.Reader.TheVariants.{First}
use Rattle.asked.specs.VisitRequests.{registers_asked, begins, request_at, in_table, marked}
use Rattle.asked.specs.Marker.{marker_packets}
use Rattle.visit.specs.declared.Stage.TheVariants.{Marking, Asking, AsRead}
use Rattle.visit.specs.Visit.{after_marker, is_illegal, note_of}
use Rattle.round_trip.specs.Meaning.{Scene}
use Rattle.round_trip.specs.RoundTrip.{resting, unchained, outcome_there, packets_there}
use Rattle.round_trip.specs.BroughtToRest.{rested, rest_scene}
use Rattle.round_trip.proofs.TalkLaws.{packets_bound}
use Rattle.visit_course.specs.VisitCourse.{Course, nothing_more, behind_marker, behind, noting, leaves_there, ends_table, course_from}
use Rattle.joined.specs.Joined.{Joined, joined}
use Rattle.joined.specs.JoinedLaws.{joined_more, joined_none, visit_at, meeting, closed_at, last_counted}
use Rattle.joined.specs.MarkerJoinedLaws.{marker_joined}
use Rattle.joined.specs.RequestJoinedLaws.{request_joined}
use Rattle.asked.specs.RequestAtLaws.{asked_in_range}
use Rattle.joined.specs.AskedJoinedLaws.{asked_leaves, unchained_sound, asked_keeps_sound, InTable, in_table_lem, asked_is_notable}

-- ---- where both stand
-- once all is asked that the course asks, from request j and packet p on
abbrev pub came_to : ℕ → ℕ → ℕ → List ℕ → Course → Joined
came_to address j p notes c =
    meeting (visit_at address (j + length c.outcomes) (j + length c.outcomes) (p + c.packets) AsRead) (sets notes j (map note_of c.outcomes))
    (resting c.leaves complete)

none_left : (address j p : ℕ) (notes : List ℕ) (s : Scene)
    → joined 0 (meeting (visit_at address j j p (after_marker j j)) notes (resting s complete)) ≡ came_to address j p notes (nothing_more s)
none_left address j p notes s =
    joined_none (meeting (visit_at address j j p (after_marker j j)) notes (resting s complete)) ∙ rw (le-leb j j (le_refl j), add-zero j, add-zero p)

-- a request more, before the rest
noted_first : (address j p n : ℕ) (notes : List ℕ) (o : Outcome) (c : Course)
    → came_to address (suc j) (p + n) (set notes j (note_of o)) c ≡ came_to address j p notes (noting o n c)
noted_first address j p n notes o c =
    let asked : j + suc (length c.outcomes) ≡ suc j + length c.outcomes = omega arith in
    let packets : p + (n + c.packets) ≡ p + n + c.packets = omega arith in
    rw (asked, packets)

-- ---- a marker first
pub marker_first : (address ends at p : ℕ) (notes : List ℕ) (rest : Scene → Course) {s : State} → Sound s → p + marker_packets ≤ last_counted
    → joined (rest (unchained (rest_scene s))).packets
    (meeting (visit_at address ends at (p + marker_packets) (after_marker ends at)) notes (resting (unchained (rest_scene s)) complete))
    ≡ came_to address at (p + marker_packets) notes (rest (unchained (rest_scene s)))
    → joined (behind_marker rest (rest_scene s)).packets (meeting (visit_at address ends at p (Marking 0)) notes s)
    ≡ came_to address at p notes (behind_marker rest (rest_scene s))
marker_first address ends at p notes rest {s} f more goes =
    let n = (rest (unchained (rest_scene s))).packets in
    let sum : p + (marker_packets + n) ≡ p + marker_packets + n = omega arith in
    joined_more marker_packets n (meeting (visit_at address ends at p (Marking 0)) notes s)
    ∙ ap (joined n) (marker_joined address ends at notes p f more)
    ∙ goes
    ∙ rw sum

-- .. where the port is at rest
marker_between : (address ends at p : ℕ) (notes : List ℕ) (rest : Scene → Course) (s : Scene) → Sound (resting s complete) → p + marker_packets ≤ last_counted
    → joined (rest (unchained s)).packets
    (meeting (visit_at address ends at (p + marker_packets) (after_marker ends at)) notes (resting (unchained s) complete))
    ≡ came_to address at (p + marker_packets) notes (rest (unchained s))
    → joined (behind_marker rest s).packets (meeting (visit_at address ends at p (Marking 0)) notes (resting s complete))
    ≡ came_to address at p notes (behind_marker rest s)
unfolding rested
marker_between address ends at p notes rest s f more goes = marker_first address ends at p notes rest f more goes

-- ---- between two requests
-- "a marker .. after the last of them"
marked_at_end : (t : Bool) (ends j : ℕ) → ends ≤ j → (t || marked ends j) ≡ true
unfolding marked
marked_at_end t ends j h = rw (le-leb ends j h, or-true, or-true)

unmarked_is_not_end : (t : Bool) (ends j : ℕ) → (t || marked ends j) ≡ false → leb ends j ≡ false
unmarked_is_not_end t ends j h =
    by_test (leb ends j) (λ e. absurd (true≢false (sym (marked_at_end t ends j (leb-true ends j e)) ∙ h))) (λ e. e)

-- what follows a request that is closed with this outcome at rest, where the rest goes on as its course says
module _ (address j left p : ℕ) (notes : List ℕ) (o : Outcome) (rest : Scene → Course) (s : Scene) (f : Sound (resting s complete)) where
  abbrev Goes : ℕ → Scene → Type 0
  Goes p x =
      joined (rest x).packets (meeting (visit_at address (suc j + left) (suc j) p (after_marker (suc j + left) (suc j))) notes (resting x complete))
      ≡ came_to address (suc j) p notes (rest x)

  abbrev marks : Bool
  marks = is_illegal o || marked (suc j + left) (suc j)

  abbrev follows : Course
  follows = cond (ends_table j o) (behind_marker nothing_more s) (behind marks rest s)

  closed_on : p + marker_packets ≤ last_counted
      → (ends_table j o ≡ false → marks ≡ true → Goes (p + marker_packets) (unchained s))
      → (ends_table j o ≡ false → marks ≡ false → Goes p s)
      → joined follows.packets (meeting (closed_at address (j + suc left) j p o) notes (resting s complete)) ≡ came_to address (suc j) p notes follows
  closed_on more marked-on straight-on =
      let all : j + suc left ≡ suc j + left = omega arith in
      rw (lt-ltb j (j + suc left) (omega arith), all)
      (by_test (ends_table j o)
      (λ t.
      rw (t, marked_at_end (is_illegal o) (suc j) (suc j) (le_refl (suc j)))
      (marker_between address (suc j) (suc j) p notes nothing_more s f more (none_left address (suc j) (p + marker_packets) notes (unchained s))))
      (λ t.
      by_test marks
      (λ m. rw (t, m) (marker_between address (suc j + left) (suc j) p notes rest s f more (marked-on t m)))
      (λ m. rw (t, m) (rw (unmarked_is_not_end (is_illegal o) (suc j + left) (suc j) m) at (straight-on t m)))))

-- ---- the chain of a table
-- where a DUMP is asked next, the port is in a chain of READ and DUMP
abbrev pub Chained : ℕ → ℕ → Scene → Type 0
Chained left j s = 1 ≤ left → in_table j ≡ true → begins (j - registers_asked) ≡ false → s.chain ≡ Dumping

-- the first of the table is a READ
first_begins : {A : Type 0} (j : ℕ) → in_table j ≡ false → in_table (suc j) ≡ true → begins (suc j - registers_asked) ≡ false → A
first_begins j before there further =
    let first : suc j - registers_asked ≡ 0 = omega (arith, leb-false registers_asked j before, leb-true registers_asked (suc j) there) in
    absurd (true≢false (rw first at further))

module _ (address j left : ℕ) (s : Scene) (chained : Chained (suc left) j s) where
  abbrev outcome : Outcome
  outcome = outcome_there (request_at address j) s

  chained_table : in_table j ≡ true → InTable (request_at address j) s
  chained_table t = in_table_lem address j s t (chained (omega arith) t)

  marked_chained : (is_illegal outcome || marked (suc j + left) (suc j)) ≡ true → (x : Scene) → Chained left (suc j) x
  unfolding marked
  marked_chained m x some there further =
      by_test (in_table j)
      (λ t. absurd (true≢false (sym m ∙ rw ((chained_table t).not_illegal, there, further, lt-leb (suc j + left) (suc j) (omega arith)))))
      (λ t. first_begins j t there further)

  unmarked_chained : ends_table j outcome ≡ false → Chained left (suc j) (leaves_there (request_at address j) s)
  unmarked_chained e some there further =
      by_test (in_table j) (λ t. (chained_table t).chains (rw t at e)) (λ t. first_begins j t there further)

-- ---- the requests in turn
-- a request and a marker after it take no more packets than this
abbrev pub most_each : ℕ
most_each = 22 + marker_packets

pub course_joined : (left address j p : ℕ) (notes : List ℕ) (s : Scene) → Sound (resting s complete) → Chained left j s → p + most_each * left ≤ last_counted
    → joined (course_from left address j s).packets (meeting (visit_at address (j + left) j p (after_marker (j + left) j)) notes (resting s complete))
    ≡ came_to address j p notes (course_from left address j s)
unfolding course_from
course_joined zero address j p notes s f chained more =
    ap (λ ends. joined 0 (meeting (visit_at address ends j p (after_marker ends j)) notes (resting s complete))) (add-zero j) ∙ none_left address j p notes s
course_joined (suc left) address j p notes s f chained more =
    let r = request_at address j in
    let o = outcome_there r s in
    let n = packets_there r s in
    let s' = leaves_there r s in
    let f' = asked_keeps_sound address j s f in
    let few = packets_bound r s f.board.small in
    let rest = course_from left address (suc j) in
    let all = cond (ends_table j o) (behind_marker nothing_more s') (behind (is_illegal o || marked (suc j + left) (suc j)) rest s') in
    let some : leb (j + suc left) j ≡ false = lt-leb (j + suc left) j (omega arith) in
    rw some
    (joined_more n all.packets (meeting (visit_at address (j + suc left) j p (Asking 0 First)) notes (resting s complete))
    ∙ ap (joined all.packets)
    (request_joined address (j + suc left) j notes p s (asked_in_range address j) f (asked_is_notable address j s (chained (omega arith))) (omega arith)
    ∙ ap (meeting (closed_at address (j + suc left) j (p + n) o) (set notes j (note_of o))) (asked_leaves address j s))
    ∙ closed_on address j left (p + n) (set notes j (note_of o)) o rest s' f' (omega arith)
    (λ t m. course_joined left address (suc j) (p + n + marker_packets) (set notes j (note_of o)) (unchained s') (unchained_sound f')
    (marked_chained address j left s chained m (unchained s')) (omega arith))
    (λ t m. course_joined left address (suc j) (p + n) (set notes j (note_of o)) s' f' (unmarked_chained address j left s chained t) (omega arith))
    ∙ noted_first address j p n notes o all)
