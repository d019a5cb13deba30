-- Laws of a table's course: each longword's request is legal, means the longword at its address, and finds the pointer there.
use Prim.Native.Nat.{ℕ, suc, ◌+◌, ◌-◌, ◌*◌, ◌%◌, ◌^◌, ◌≤◌}
use Rattle.std.proofs.Common.{add_assoc, arith}
use Rattle.std.specs.Prelude.{◌≡◌, true, false, cond, length}
use borrow.Author.Tests.{leb-true, le-leb, lt-leb, le-ltb}
use Rattle.laws.specs.TestLaws.{by_test}
use Rattle.memory.specs.declared.Size.TheVariants.{Long}
use Rattle.memory.specs.Memory.{aligned, present, value_at}
use Rattle.command.specs.Command.{decoded, decoded_word}
use Rattle.board.specs.declared.Chain.TheVariants.{Dumping}
use Rattle.access.specs.Access.{past}
use Rattle.requests.specs.declared.Request.TheVariants.{Read, Dump}
use Rattle.readings.specs.declared.Outcome.{Outcome}
use Rattle.readings.specs.declared.Outcome.TheVariants.{Value, BusError}
use Rattle.asked.specs.VisitRequests.{registers_asked, begins, address_at, table_request, request_at, in_table, marked}
use Rattle.asked.specs.Marker.{marker_packets}
use Rattle.round_trip.specs.Meaning.{Scene, cleared, misses}
use Rattle.round_trip.specs.RoundTrip.{unchained, legal_there, packets_there}
use Rattle.visit_course.specs.VisitCourse.{Course, nothing_more, behind_marker, behind, noting, course_from}
use Rattle.visit_course.specs.CourseStepLaws.{ComesTo, course_behind, course_step}

-- ---- a READ and a DUMP
pub read_legal : (a : ℕ) (s : Scene) → legal_there (Read Long a) s ≡ true
unfolding decoded decoded_word
read_legal a s = by_test s.board.status.halted (λ h. rw h) (λ h. rw h)

pub dump_legal : (s : Scene) → s.chain ≡ Dumping → legal_there (Dump Long) s ≡ true
unfolding decoded decoded_word
dump_legal s e = by_test s.board.status.halted (λ h. rw (h, e)) (λ h. rw (h, e))

-- what a longword read leaves
abbrev pub scene_read : ℕ → Scene → Scene
scene_read pointer s = record { board = cleared s.board; chain = Dumping; pointer = pointer; memory = s.memory }

-- and what one that is missing leaves
abbrev scene_missed : ℕ → Scene → Scene
scene_missed a s = (misses Long a s).leaves

module _ (a : ℕ) (s : Scene) where
  read_there : present s.memory Long a ≡ true
      → ComesTo (Read Long a) s (Value (value_at s.memory Long (aligned Long a))) (3 + (s.board.w + 2)) (scene_read (past Long a) s)
  unfolding packets_there
  read_there t = record { outcome = rw (read_legal a s, t); packets = rw (read_legal a s, t); leaves = rw (read_legal a s, t) }

  read_missing : present s.memory Long a ≡ false → ComesTo (Read Long a) s BusError (3 + (s.board.w + 1)) (scene_missed a s)
  unfolding packets_there
  read_missing t = record { outcome = rw (read_legal a s, t); packets = rw (read_legal a s, t); leaves = rw (read_legal a s, t) }

  dump_there : s.chain ≡ Dumping → s.pointer ≡ a → present s.memory Long a ≡ true
      → ComesTo (Dump Long) s (Value (value_at s.memory Long (aligned Long a))) (1 + (s.board.w + 2)) (scene_read (past Long a) s)
  unfolding packets_there
  dump_there e p t = record { outcome = rw (dump_legal s e, p, t); packets = rw (dump_legal s e, p, t); leaves = rw (dump_legal s e, p, t) }

  dump_missing : s.chain ≡ Dumping → s.pointer ≡ a → present s.memory Long a ≡ false
      → ComesTo (Dump Long) s BusError (1 + (s.board.w + 1)) (scene_missed a s)
  unfolding packets_there
  dump_missing e p t = record { outcome = rw (dump_legal s e, p, t); packets = rw (dump_legal s e, p, t); leaves = rw (dump_legal s e, p, t) }

-- ---- a longword of the table, number k
-- a READ has two words more than a DUMP
abbrev request_packets : ℕ → ℕ → ℕ
request_packets k packets = cond (begins k) (2 + packets) packets

-- the scene that its request finds: where a block begins, behind a marker
abbrev found_at : ℕ → Scene → Scene
found_at k s = cond (begins k) (unchained s) s

-- inside a block the DUMP finds the chain and the pointer
abbrev pub InBlock : ℕ → ℕ → Scene → Type 0
InBlock address k s = begins k ≡ false → (s.chain ≡ Dumping) × (s.pointer ≡ address + 4 * k)

module _ (address k : ℕ) (s : Scene) (whole : address % 4 ≡ 0) (within : address + 4 * suc k ≤ 2 ^ 32) where
  plain_address : address_at address k ≡ address + 4 * k
  plain_address = omega arith

  aligned_address : aligned Long (address + 4 * k) ≡ address + 4 * k
  aligned_address = omega arith

  longword_there : length s.memory ≤ 65536 → present s.memory Long (address + 4 * k) ≡ true → InBlock address k s
      → ComesTo (table_request address k) (found_at k s) (Value (value_at s.memory Long (address + 4 * k))) (request_packets k (3 + s.board.w))
      (scene_read (address + 4 * suc k) s)
  longword_there small t f =
      let at = address + 4 * k in
      let there : aligned Long at + 4 ≤ length s.memory = leb-true (aligned Long at + 4) (length s.memory) t in
      let after : past Long at ≡ address + 4 * suc k = omega arith in
      by_test (begins k)
      (λ b. let five : 3 + (s.board.w + 2) ≡ 2 + (3 + s.board.w) = omega arith in
      rw (b, plain_address) (rw (after, aligned_address, five) at (read_there at (unchained s) t)))
      (λ b. let three : 1 + (s.board.w + 2) ≡ 3 + s.board.w = omega arith in
      rw b (rw (after, aligned_address, three) at (dump_there at s (f b).0 (f b).1 t)))

  longword_missing : present s.memory Long (address + 4 * k) ≡ false → InBlock address k s
      → ComesTo (table_request address k) (found_at k s) BusError (request_packets k (2 + s.board.w)) (scene_missed (address + 4 * k) s)
  longword_missing t f =
      let at = address + 4 * k in
      by_test (begins k)
      (λ b. let four : 3 + (s.board.w + 1) ≡ 2 + (2 + s.board.w) = omega arith in rw (b, plain_address) (rw four at (read_missing at (unchained s) t)))
      (λ b. let two : 1 + (s.board.w + 1) ≡ 2 + s.board.w = omega arith in rw b (rw two at (dump_missing at s (f b).0 (f b).1 t)))

-- ---- the course from there on
-- so many longwords, the first of them request j, with the marker before it where one comes
abbrev pub on_table : ℕ → ℕ → ℕ → Scene → Course
on_table left address j s = behind (marked (j + left) j) (course_from left address j) s

-- the packets of longword k and of the marker before it
abbrev pub longword_packets : ℕ → ℕ → ℕ
longword_packets k packets = cond (begins k) (marker_packets + (2 + packets)) packets

module _ (address left k j : ℕ) (s : Scene) (e : j ≡ registers_asked + k) where
  in_table_lem : in_table j ≡ true
  in_table_lem = le-leb registers_asked j (omega arith)

  number : j - registers_asked ≡ k
  number = omega arith

  request_is : request_at address j ≡ table_request address k
  unfolding request_at
  request_is = rw (le-ltb j registers_asked (omega arith), number)

  marked_before : marked (j + suc left) j ≡ begins k
  unfolding marked
  marked_before = rw (in_table_lem, number, lt-leb (j + suc left) j (omega arith)) (by_test (begins k) (λ b. rw b) (λ b. rw b))

  pub end_marked : marked (j + 0) j ≡ true
  unfolding marked
  end_marked = rw (in_table_lem, number, le-leb (j + 0) j (omega arith)) (by_test (begins k) (λ b. rw b) (λ b. rw b))

  -- a request, with a marker before it where a block begins
  longword_step : (o : Outcome) (packets : ℕ) (x : Scene) → ComesTo (table_request address k) (found_at k s) o (request_packets k packets) x
      → on_table (suc left) address j s ≡ noting o (longword_packets k packets) (course_behind left address j o x)
  longword_step o packets x c =
      let step = course_step left address j request_is c in
      by_test (begins k) (λ b. rw (marked_before, b, rw b at step, add_assoc marker_packets (2 + packets) _)) (λ b. rw (marked_before, b) (rw b at step))

  module _ (whole : address % 4 ≡ 0) (within : address + 4 * suc k ≤ 2 ^ 32) (follows : InBlock address k s) where
    -- one that is there
    pub there_step : length s.memory ≤ 65536 → present s.memory Long (address + 4 * k) ≡ true
        → on_table (suc left) address j s
        ≡ noting (Value (value_at s.memory Long (address + 4 * k))) (longword_packets k (3 + s.board.w))
        (on_table left address (suc j) (scene_read (address + 4 * suc k) s))
    there_step small t =
        rw in_table_lem at
        (longword_step (Value (value_at s.memory Long (address + 4 * k))) (3 + s.board.w) (scene_read (address + 4 * suc k) s)
        (longword_there address k s whole within small t follows))

    -- one that is missing
    pub missing_step : present s.memory Long (address + 4 * k) ≡ false
        → on_table (suc left) address j s ≡ noting BusError (longword_packets k (2 + s.board.w)) (behind_marker nothing_more s)
    missing_step t =
        rw in_table_lem at
        (longword_step BusError (2 + s.board.w) (scene_missed (address + 4 * k) s) (longword_missing address k s whole within t follows))
