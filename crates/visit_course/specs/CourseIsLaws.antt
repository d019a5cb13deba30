-- What a visit comes to, whole: its registers and its table, what it leaves, and the number of its packets.
use Rattle.std.specs.Prelude.{ℕ, ◌+◌, ◌*◌, ◌%◌, ◌≤◌, ◌<◌, ◌≡◌, true, List, ◌++◌, length, get_or, take, drop}
use Rattle.std.proofs.Common.{arith, ap, subst, ◌∙◌, length-append, get_or-append-add}
use Rattle.std.proofs.Math.ListN.{get_or-append}
use Rattle.std.proofs.Math.Seq.{take-append_seam, drop-append_seam}
use Rattle.laws.specs.TestLaws.{by_test}
use Rattle.memory.specs.declared.Size.TheVariants.{Long}
use Rattle.memory.specs.Memory.{value_at}
use Rattle.readings.specs.declared.Outcome.{Outcome}
use Rattle.readings.specs.declared.Outcome.TheVariants.{Value}
use Rattle.board.specs.declared.Board.{Board}
use Rattle.board.specs.declared.Chain.TheVariants.{Off}
use Rattle.board.specs.State.{State}
use Rattle.sound.specs.Sound.{Sound}
use Rattle.asked.specs.VisitRequests.{registers_asked}
use Rattle.visit.specs.Visit.{table_in_range}
use Rattle.round_trip.specs.Meaning.{Scene, cleared}
use Rattle.round_trip.specs.BroughtToRest.{rest_budget, rest_scene}
use Rattle.round_trip.proofs.BroughtToRestLaws.{rest_keeps_sound}
use Rattle.visit_course.specs.VisitCourse.{Course, behind_marker, course_from, course_of}
use Rattle.visit_course.specs.TableRead.{table_read, longwords_there, longwords_asked}
use Rattle.visit_course.specs.RegistersRead.{registers_read, csr_cleared}
use Rattle.visit_course.specs.PacketsStated.{packets_stated}
use Rattle.visit_course.specs.TableReadLaws.{table_is, table_holds}
use Rattle.visit_course.specs.TablePacketsLaws.{table_packets_lem}
use Rattle.visit_course.specs.RegistersReadLaws.{scene_asked, registers_notes}

-- a course, where the port has come to rest with such a scene
pub record CourseIs (address longwords : ℕ) (found : Scene) (c : Course) : Type 0 where
  -- the registers, and the longwords of memory in turn
  pub outcomes : c.outcomes ≡ registers_read found.board ++ table_read address longwords found.memory
  -- the stated number of packets
  pub packets : c.packets
      ≡ packets_stated found.board.w found.board.status.halted (longwords_there address longwords (length found.memory)) longwords
  -- reading alters no memory, and of the board what reading CSR clears and, [4], a command word
  pub memory : c.leaves.memory ≡ found.memory
  pub board : c.leaves.board ≡ cleared (csr_cleared found.board)
  -- no DUMP and no FILL is left to follow
  pub chain : c.leaves.chain ≡ Off

scene_course : (address longwords : ℕ) → table_in_range address longwords ≡ true → (s : Scene) → length s.memory ≤ 65536
    → CourseIs address longwords s (behind_marker (course_from (registers_asked + longwords) address 0) s)
scene_course address longwords range s small =
    let after = scene_asked address s in
    let whole = registers_notes address s longwords in
    let table = table_is address longwords range after small in
    let packets = table_packets_lem address longwords range after small in
    rw whole
    (record {
      outcomes = rw table.outcomes;
      packets = rw packets;
      memory = table.memory;
      board = table.board;
      chain = table.chain;
    })

-- from any state of the port
pub course_is : (address longwords : ℕ) → table_in_range address longwords ≡ true → (s : State) → Sound s
    → CourseIs address longwords (rest_scene s) (course_of address longwords s)
unfolding course_of
course_is address longwords range s f = scene_course address longwords range (rest_scene s) (rest_keeps_sound rest_budget s f).memory.limit

-- ---- where each result stands
pub registers_counted : (b : Board) → length (registers_read b) ≡ registers_asked
unfolding registers_read
registers_counted b = by_test b.status.halted (λ h. rw h) (λ h. rw h)

module _ {address longwords : ℕ} {found : Scene} {c : Course} (is : CourseIs address longwords found c) where
  abbrev registers : List Outcome
  registers = registers_read found.board

  abbrev table : List Outcome
  table = table_read address longwords found.memory

  -- the registers come first
  pub registers_first : take registers_asked c.outcomes ≡ registers_read found.board
  registers_first =
      ap (λ (os : List Outcome). take registers_asked os) is.outcomes
      ∙ subst (λ (n : ℕ). take n (registers ++ table) ≡ registers) (registers_counted found.board) (take-append_seam registers table)

  -- and behind them the table
  pub table_behind : drop registers_asked c.outcomes ≡ table_read address longwords found.memory
  table_behind =
      ap (λ (os : List Outcome). drop registers_asked os) is.outcomes
      ∙ subst (λ (n : ℕ). drop n (registers ++ table) ≡ table) (registers_counted found.board) (drop-append_seam registers table)

  -- so result j is that of the register, and the one that many behind the registers that of the longword
  pub register_at : (j : ℕ) (other : Outcome) → j < registers_asked → get_or c.outcomes j other ≡ get_or (registers_read found.board) j other
  register_at j other less = rw is.outcomes (get_or-append registers table other j (omega (arith, registers_counted found.board)))

  pub table_at : (k : ℕ) (other : Outcome) → get_or c.outcomes (registers_asked + k) other ≡ get_or (table_read address longwords found.memory) k other
  table_at k other = rw (is.outcomes, ← registers_counted found.board) (get_or-append-add registers table k other)

  -- "word k is the longword of memory at address + 4k"
  pub longword_at : address % 4 ≡ 0 → (k : ℕ) (other : Outcome) → k < longwords → address + 4 * k + 4 ≤ length found.memory
      → get_or c.outcomes (registers_asked + k) other ≡ Value (value_at found.memory Long (address + 4 * k))
  longword_at whole k other less there = table_at k other ∙ (table_holds address found.memory whole longwords).word k other less there

  -- a result for each register and for each longword asked
  pub results_counted : address % 4 ≡ 0
      → length c.outcomes ≡ registers_asked + longwords_asked (longwords_there address longwords (length found.memory)) longwords
  results_counted whole =
      ap length is.outcomes ∙ length-append registers table
      ∙ rw (registers_counted found.board, (table_holds address found.memory whole longwords).count)
