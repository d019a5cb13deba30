-- What a visit joined with the stand-in hands over: the outcome of each request in turn, and nothing beyond them.
use Rattle.std.specs.Prelude.{ℕ, zero, suc, ◌+◌, ◌%◌, ◌≤◌, ◌<◌, ◌≡◌, true, ◌||◌, leb, ltb, None, Some}
use Rattle.std.proofs.Common.{arith, ap, sym, ◌∙◌}
use mathlib.Core.List.{List, [], ◌∷◌, ◌++◌, map}
use Rattle.std.proofs.Math.ListN.{length, get_or, drop, length-append, length-map, get_or-append, get_or-map}
use borrow.Author.Tests.{leb-true, leb-false, ltb-true, ltb-false, le-ltb, lt-ltb}
use Rattle.laws.specs.TestLaws.{by_test, either}
use Rattle.memory.specs.declared.Size.TheVariants.{Long}
use Rattle.memory.specs.Memory.{aligned, present}
use Rattle.memory.specs.MemoryLaws.{value_within}
use Rattle.command.specs.Reply.{complete}
use Rattle.board.specs.State.{State}
use Rattle.control.specs.Control.{control_index, control_listed}
use Rattle.sound.specs.Sound.{Sound}
use Rattle.readings.specs.declared.Outcome.{Outcome}
use Rattle.readings.specs.declared.Outcome.TheVariants.{Value}
use Rattle.asked.specs.VisitRequests.{registers_asked, request_at, marked}
use Rattle.visit.specs.Visit.{table_in_range, note_of, is_illegal}
use Rattle.visit.specs.HandedOver.{handed_over}
use Rattle.visit.specs.VisitLaws.{table_whole, Narrow, note_read_back}
use Rattle.round_trip.specs.Meaning.{Scene, meaning, reads}
use Rattle.round_trip.specs.RoundTrip.{resting, unchained, legal_there, outcome_there}
use Rattle.round_trip.specs.BroughtToRest.{rest_budget, rest_scene}
use Rattle.round_trip.proofs.BroughtToRestLaws.{rest_keeps_sound}
use Rattle.round_trip.proofs.MeantWorkLaws.{csr_fits}
use Rattle.visit_course.specs.VisitCourse.{leaves_there, ends_table, course_from, course_of}
use Rattle.visit_course.specs.TableRead.{longwords_there, longwords_asked}
use Rattle.visit_course.specs.TableReadLaws.{TableIs, table_holds}
use Rattle.visit_course.specs.CourseIsLaws.{CourseIs, course_is, register_at, table_at, longword_at, results_counted}
use Rattle.joined.specs.VisitHands.{There, Missing, handed_at, VisitHands}
use Rattle.asked.specs.RequestAtLaws.{each_asked}
use Rattle.joined.specs.AskedJoinedLaws.{unchained_sound, asked_keeps_sound}
use Rattle.joined.specs.VisitReadsLaws.{visit_reads}

-- ---- each outcome is read back from its note
module _ (s : Scene) (f : Sound (resting s complete)) where
  longword_narrow : (address : ℕ) → Narrow (reads Long address s).outcome
  longword_narrow address =
      by_test (present s.memory Long address) (λ t. rw t (value_within s.memory Long (aligned Long address) f.memory.bytes)) (λ t. rw t tt)

  asked_narrow : (address j : ℕ) → Narrow (outcome_there (request_at address j) s)
  asked_narrow address j =
      by_test (legal_there (request_at address j) s)
      (λ l.
      rw l
      (each_asked (λ r. Narrow (meaning r s).outcome) address j
      (record {
        register = λ b n h. f.board.general n;
        control = λ b rc h. by_test (control_listed rc) (λ t. rw t (f.board.control (control_index rc))) (λ t. rw t tt);
        csr = λ b. omega (arith, csr_fits s.board);
        longword = λ t a h. longword_narrow a;
        further = λ t b. longword_narrow s.pointer;
      })))
      (λ l. rw l tt)

abbrev AllNarrow : List Outcome → Type 0
AllNarrow [] = Unit {0}
AllNarrow (o ∷ os) = Narrow o × AllNarrow os

narrow_at : (os : List Outcome) (i : ℕ) → AllNarrow os → Narrow (get_or os i (Value 0))
narrow_at [] i h = omega arith
narrow_at (o ∷ os) zero h = h.0
narrow_at (o ∷ os) (suc i) h = narrow_at os i h.1

course_narrow : (left address j : ℕ) (s : Scene) → Sound (resting s complete) → AllNarrow (course_from left address j s).outcomes
unfolding course_from
course_narrow zero address j s f = tt
course_narrow (suc left) address j s f =
    let o = outcome_there (request_at address j) s in
    let s' = leaves_there (request_at address j) s in
    let f' = asked_keeps_sound address j s f in (
      asked_narrow s f address j,
      by_test (ends_table j o) (λ t. rw t tt)
          (λ t.
          by_test (is_illegal o || marked (suc j + left) (suc j))
          (λ m. rw (t, m) (course_narrow left address (suc j) (unchained s') (unchained_sound f')))
          (λ m. rw (t, m) (course_narrow left address (suc j) s' f'))),
    )

-- ---- what is handed over
module _ (address longwords : ℕ) (before : List ℕ) (s : State) (f : Sound s) (fits : table_in_range address longwords ≡ true)
    (room : registers_asked + longwords ≤ length before) where
  visit_narrow : AllNarrow (course_of address longwords s).outcomes
  unfolding course_of
  visit_narrow = course_narrow (registers_asked + longwords) address 0 (unchained (rest_scene s)) (unchained_sound (rest_keeps_sound rest_budget s f))

  pub handed_over_lem : (i : ℕ) → i < length (course_of address longwords s).outcomes
      → handed_at address longwords before s i ≡ Some (get_or (course_of address longwords s).outcomes i (Value 0))
  unfolding handed_over
  handed_over_lem i there =
      let r = visit_reads address longwords before s f fits room in
      let os = (course_of address longwords s).outcomes in
      let notes = map note_of os in
      let rest = drop (length os) before in
      let same : length notes ≡ length os = length-map os note_of in
      let long : i < length (notes ++ rest) = omega (arith, length-append notes rest) in
      let note : get_or (notes ++ rest) i 0 ≡ note_of (get_or os i (Value 0)) =
      get_or-append notes rest 0 i (omega arith) ∙ get_or-map note_of os i (Value 0) in
      rw (r.read, r.ends, r.notes, lt-ltb i (length os) there, lt-ltb i (length (notes ++ rest)) long, note)
      (ap Some (note_read_back (get_or os i (Value 0)) (narrow_at os i visit_narrow)))

  pub nothing_beyond : (i : ℕ) → length (course_of address longwords s).outcomes ≤ i → handed_at address longwords before s i ≡ None
  unfolding handed_over
  nothing_beyond i beyond =
      let r = visit_reads address longwords before s f fits room in
      rw (r.read, r.ends, le-ltb i (length (course_of address longwords s).outcomes) beyond)

  -- ---- by the board and the memory that the port came to rest with
  is : CourseIs address longwords (rest_scene s) (course_of address longwords s)
  is = course_is address longwords fits s f

  whole : address % 4 ≡ 0
  whole = table_whole address longwords fits

  abbrev there : ℕ
  there = longwords_there address longwords (length (rest_scene s).memory)

  table : TableIs address longwords (rest_scene s).memory
  table = table_holds address (rest_scene s).memory whole longwords

  -- those that are there, and one that is missing
  counted : length (course_of address longwords s).outcomes ≡ registers_asked + longwords_asked there longwords
  counted = results_counted is whole

  all_there : there ≤ longwords_asked there longwords
  all_there = either (λ n. there ≤ n) (ltb there longwords) (suc there) there (λ t. omega arith) (λ t. omega arith)

  no_more : longwords_asked there longwords ≤ suc there
  no_more = either (λ n. n ≤ suc there) (ltb there longwords) (suc there) there (λ t. omega arith) (λ t. omega arith)

  none_beyond : longwords_asked there longwords ≤ longwords
  none_beyond =
      either (λ n. n ≤ longwords) (ltb there longwords) (suc there) there (λ t. omega (arith, ltb-true there longwords t)) (λ t. omega arith)

  missing_from : (k : ℕ) → Missing address s k → there ≤ k
  missing_from k missing =
      by_test (leb there k) (leb-true there k) (λ t. absurd (omega (arith, (table.within k (leb-false there k t)).1)))

  -- the first that is missing is the one behind those there
  first_missing : (k : ℕ) → k < longwords → ((i : ℕ) → i < k → There address s i) → Missing address s k → there ≡ k
  first_missing k less before-it gone =
      let from = missing_from k gone in
      by_test (ltb there k)
      (λ t.
      let short : there < k = ltb-true there k t in
      absurd (omega (arith, table.there there (omega arith) (before-it there short))))
      (λ t. omega (arith, ltb-false there k t))

  missing_asked : there < longwords → there < longwords_asked there longwords
  missing_asked less = rw (lt-ltb there longwords less) (omega arith)

  -- The registers of that board are handed over, the longwords of that memory, and nothing else.
  pub visit_hands : VisitHands address longwords before s
  visit_hands = record {
    register = λ j less. handed_over_lem j (omega (arith, counted)) ∙ ap Some (register_at is j (Value 0) less);
    word = λ k less here.
        handed_over_lem (registers_asked + k) (omega (arith, counted, all_there, table.there k less here))
        ∙ ap Some (longword_at is whole k (Value 0) less here);
    missing = λ k less before-it gone.
        let it = first_missing k less before-it gone in
        let short : there < longwords = omega arith in
        handed_over_lem (registers_asked + k) (omega (arith, counted, missing_asked short))
        ∙ ap Some (table_at is k (Value 0) ∙ rw (sym it) (table.missing (Value 0) short));
    behind = λ i k gone later. nothing_beyond (registers_asked + k) (omega (arith, counted, no_more, missing_from i gone));
    beyond = λ k past. nothing_beyond (registers_asked + k) (omega (arith, counted, none_beyond));
  }
