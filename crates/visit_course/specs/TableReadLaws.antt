-- Laws of a table: its course is the longwords of memory in turn, and leaves the board and memory; which longwords those are.
use Prim.Native.Nat.{ℕ, zero, suc, ◌+◌, ◌*◌, ◌%◌, ◌^◌, ◌≤◌, ◌<◌}
use Rattle.std.proofs.Math.Nat.{add-zero}
use Rattle.std.proofs.Common.{zero-add, ap, true≢false}
use native.Mathlib.Omega.{arith}
use Rattle.std.specs.Prelude.{◌≡◌, refl, true, false, List, ltb, length, get_or}
use Rattle.std.proofs.Math.Dec.{leb-suc-suc}
use borrow.Author.Tests.{leb-true, leb-false, le-leb, lt-ltb, le-ltb}
use Rattle.laws.specs.TestLaws.{by_test}
use Rattle.memory.specs.declared.Size.TheVariants.{Long}
use Rattle.memory.specs.Memory.{aligned, present, value_at}
use Rattle.board.specs.declared.Chain.TheVariants.{Off}
use Rattle.readings.specs.declared.Outcome.{Outcome}
use Rattle.readings.specs.declared.Outcome.TheVariants.{Value, BusError}
use Rattle.asked.specs.VisitRequests.{registers_asked}
use Rattle.visit.specs.Visit.{table_in_range}
use Rattle.visit.specs.VisitLaws.{table_whole, table_within}
use Rattle.round_trip.specs.Meaning.{Scene, cleared}
use Rattle.visit_course.specs.VisitCourse.{Course, course_from}
use Rattle.visit_course.specs.TableRead.{table_from, table_read, longwords_there, longwords_asked}
use Rattle.visit_course.specs.TableCourseLaws.{InBlock, scene_read, on_table, end_marked, there_step, missing_step}

-- ---- the course
pub record TableComes (left address k : ℕ) (s : Scene) (c : Course) : Type 0 where
  -- the longwords of memory in turn
  pub outcomes : c.outcomes ≡ table_from left address k s.memory
  -- reading alters no register and no memory; the last marker clears [4]'s number
  pub board : c.leaves.board ≡ cleared s.board
  pub memory : c.leaves.memory ≡ s.memory
  -- the last marker ends the chain
  pub chain : c.leaves.chain ≡ Off

table_comes : (left address k j : ℕ) (s : Scene) → j ≡ registers_asked + k → address % 4 ≡ 0 → address + 4 * (k + left) ≤ 2 ^ 32
    → length s.memory ≤ 65536 → InBlock address k s → TableComes left address k s (on_table left address j s)
unfolding course_from table_from
table_comes zero address k j s e whole within small follows =
    rw (end_marked address 0 k j s e) (record { outcomes = refl; board = refl; memory = refl; chain = refl })
table_comes (suc left) address k j s e whole within small follows =
    let next = scene_read (address + 4 * suc k) s in
    let more = table_comes left address (suc k) (suc j) next (omega arith) whole (omega arith) small (λ b. (refl, refl)) in
    by_test (present s.memory Long (address + 4 * k))
    (λ t. rw (there_step address left k j s e whole (omega arith) follows small t)
    (record { outcomes = rw (more.outcomes, t); board = more.board; memory = more.memory; chain = more.chain }))
    (λ t. rw (missing_step address left k j s e whole (omega arith) follows t) (record { outcomes = rw t; board = refl; memory = refl; chain = refl }))

module _ (address longwords : ℕ) (range : table_in_range address longwords ≡ true) where
  -- with the marker before it
  pub table_is : (s : Scene) → length s.memory ≤ 65536 → TableComes longwords address 0 s (on_table longwords address registers_asked s)
  table_is s small =
      let within = table_within address longwords range in
      table_comes longwords address 0 registers_asked s refl (table_whole address longwords range) (omega arith) small (λ b. absurd (true≢false b))

-- ---- the longwords
pub record TableIs (address longwords : ℕ) (m : List ℕ) : Type 0 where
  -- as many as are asked for
  pub count : length (table_read address longwords m) ≡ longwords_asked (longwords_there address longwords (length m)) longwords
  -- "word k is the longword of memory at address + 4k"
  pub word : (k : ℕ) (other : Outcome) → k < longwords → address + 4 * k + 4 ≤ length m
      → get_or (table_read address longwords m) k other ≡ Value (value_at m Long (address + 4 * k))
  -- "bus error at the first that is not, and nothing after it"
  pub missing : (other : Outcome) → longwords_there address longwords (length m) < longwords
      → get_or (table_read address longwords m) (longwords_there address longwords (length m)) other ≡ BusError
  -- the number of those there: exactly so many
  pub there : (k : ℕ) → k < longwords → address + 4 * k + 4 ≤ length m → k < longwords_there address longwords (length m)
  pub within : (k : ℕ) → k < longwords_there address longwords (length m) → (k < longwords) × (address + 4 * k + 4 ≤ length m)

module _ (address : ℕ) (m : List ℕ) (whole : address % 4 ≡ 0) where
  here : (k : ℕ) → address + 4 * k + 4 ≤ length m → present m Long (address + 4 * k) ≡ true
  here k h = le-leb (aligned Long (address + 4 * k) + 4) (length m) (omega arith)

  word_of : (left i k : ℕ) (other : Outcome) → k < left → address + 4 * (i + k) + 4 ≤ length m
      → get_or (table_from left address i m) k other ≡ Value (value_at m Long (address + 4 * (i + k)))
  unfolding table_from
  word_of zero i k other less h = absurd (omega arith)
  word_of (suc left) i zero other less h = rw (here i (omega arith), add-zero i)
  word_of (suc left) i (suc k) other less h =
      let same : i + suc k ≡ suc i + k = omega arith in
      rw (here i (omega arith), same) (word_of left (suc i) k other (omega arith) (omega arith))

  -- so many are there of those from number i on
  abbrev there_from : ℕ → ℕ → ℕ
  there_from left i = longwords_there (address + 4 * i) left (length m)

  pub there_one : (left i : ℕ) → present m Long (address + 4 * i) ≡ true → there_from (suc left) i ≡ suc (there_from left (suc i))
  there_one left i t = let there : aligned Long (address + 4 * i) + 4 ≤ length m = leb-true _ _ t in omega arith

  pub there_none : (left i : ℕ) → present m Long (address + 4 * i) ≡ false → there_from left i ≡ 0
  there_none left i t = let beyond : length m < aligned Long (address + 4 * i) + 4 = leb-false _ _ t in omega arith

  asked_one : (there left : ℕ) → longwords_asked (suc there) (suc left) ≡ suc (longwords_asked there left)
  asked_one there left = rw (leb-suc-suc (suc there) left) (by_test (ltb there left) (λ t. rw t) (λ t. rw t))

  count_of : (left i : ℕ) → length (table_from left address i m) ≡ longwords_asked (there_from left i) left
  unfolding table_from
  count_of zero i = rw (le-ltb (there_from 0 i) 0 (omega arith)) (omega arith)
  count_of (suc left) i =
      by_test (present m Long (address + 4 * i))
      (λ t. rw (t, there_one left i t, asked_one (there_from left (suc i)) left) (ap suc (count_of left (suc i))))
      (λ t. rw (t, there_none (suc left) i t, lt-ltb 0 (suc left) (omega arith)))

  missing_at : (left i : ℕ) (other : Outcome) → there_from left i < left → get_or (table_from left address i m) (there_from left i) other ≡ BusError
  unfolding table_from
  missing_at zero i other less = absurd (omega arith)
  missing_at (suc left) i other less =
      by_test (present m Long (address + 4 * i))
      (λ t. let one = there_one left i t in rw (t, one) (missing_at left (suc i) other (omega arith)))
      (λ t. rw (t, there_none (suc left) i t))

  pub table_holds : (longwords : ℕ) → TableIs address longwords m
  table_holds longwords =
      let start : address + 4 * 0 ≡ address = omega arith in
      record {
        count = rw start at (count_of longwords 0);
        word = λ k other less h. rw (zero-add k) at (word_of longwords 0 k other less (omega arith));
        missing = λ other. rw start at (missing_at longwords 0 other);
        there = λ k less h. omega arith;
        within = λ k h. omega arith;
      }
