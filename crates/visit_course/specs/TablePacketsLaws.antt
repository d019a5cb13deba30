-- Laws of the packets of a table: as many as stated.
use Rattle.std.specs.Prelude.{ℕ, zero, suc, ◌+◌, ◌-◌, ◌*◌, ◌%◌, ◌^◌, ◌≤◌, ◌≡◌, refl, true, cond, ltb, length}
use Rattle.std.proofs.Common.{mul-suc, arith, true≢false, eqb-true, lt-ltb}
use Rattle.std.proofs.Math.Dec.{leb-suc-suc}
use Rattle.std.proofs.lemmas.Bool.{eqb-false}
use Rattle.laws.specs.TestLaws.{by_test}
use Rattle.memory.specs.declared.Size.TheVariants.{Long}
use Rattle.memory.specs.Memory.{present}
use Rattle.asked.specs.VisitRequests.{registers_asked, begins}
use Rattle.asked.specs.Marker.{marker_packets}
use Rattle.visit.specs.Visit.{table_in_range}
use Rattle.visit.specs.VisitLaws.{table_whole, table_within}
use Rattle.round_trip.specs.Meaning.{Scene}
use Rattle.visit_course.specs.VisitCourse.{course_from}
use Rattle.visit_course.specs.TableRead.{longwords_there, longwords_asked}
use Rattle.visit_course.specs.PacketsStated.{blocks, table_packets}
use Rattle.visit_course.specs.TableCourseLaws.{InBlock, scene_read, on_table, longword_packets, end_marked, there_step, missing_step}
use Rattle.visit_course.specs.TableReadLaws.{there_one, there_none}

-- the packets of so many longwords from number k on, and of the markers before their blocks
abbrev packets_from_longword : ℕ → ℕ → ℕ → ℕ → ℕ
packets_from_longword w k there left =
    (3 + w) * there + cond (ltb there left) (2 + w) 0 + (marker_packets + 2) * (blocks (k + longwords_asked there left) - blocks k)

one_there : (w k there left : ℕ) → packets_from_longword w k (suc there) (suc left) ≡ longword_packets k (3 + w) + packets_from_longword w (suc k) there left
one_there w k there left =
    let product = mul-suc (3 + w) there in
    rw (leb-suc-suc (suc there) left)
    (by_test (begins k)
    (λ b. let first : k % 256 ≡ 0 = eqb-true (k % 256) 0 b in by_test (ltb there left) (λ t. rw (b, t) (omega arith)) (λ t. rw (b, t) (omega arith)))
    (λ b. let inside : k % 256 ≡ 0 → ⊥ = eqb-false (k % 256) 0 b in by_test (ltb there left) (λ t. rw (b, t) (omega arith)) (λ t. rw (b, t) (omega arith))))

one_missing : (w k left : ℕ) → packets_from_longword w k 0 (suc left) ≡ longword_packets k (2 + w)
one_missing w k left =
    rw (lt-ltb 0 (suc left) (omega arith))
    (by_test (begins k) (λ b. let first : k % 256 ≡ 0 = eqb-true (k % 256) 0 b in rw b (omega arith))
    (λ b. let inside : k % 256 ≡ 0 → ⊥ = eqb-false (k % 256) 0 b in rw b (omega arith)))

packets_from : (left address k j : ℕ) (s : Scene) → j ≡ registers_asked + k → address % 4 ≡ 0 → address + 4 * (k + left) ≤ 2 ^ 32
    → length s.memory ≤ 65536 → InBlock address k s
    → (on_table left address j s).packets
    ≡ packets_from_longword s.board.w k (longwords_there (address + 4 * k) left (length s.memory)) left + marker_packets
unfolding course_from
packets_from zero address k j s e whole within small follows =
    let none : longwords_there (address + 4 * k) 0 (length s.memory) ≡ 0 = omega arith in rw (end_marked address 0 k j s e, none) (omega arith)
packets_from (suc left) address k j s e whole within small follows =
    let w = s.board.w in
    let m = s.memory in
    let next = scene_read (address + 4 * suc k) s in
    let more = packets_from left address (suc k) (suc j) next (omega arith) whole (omega arith) small (λ b. (refl, refl)) in
    by_test (present m Long (address + 4 * k))
    (λ t. rw (
      there_step address left k j s e whole (omega arith) follows small t,
      there_one address m whole left k t,
      one_there w k (longwords_there (address + 4 * suc k) left (length m)) left,
      more,
    ) (omega arith))
    (λ t. rw (missing_step address left k j s e whole (omega arith) follows t, there_none address m whole (suc left) k t, one_missing w k left) (omega arith))

-- with the marker before it and the marker at the end
pub table_packets_lem : (address longwords : ℕ) → table_in_range address longwords ≡ true → (s : Scene) → length s.memory ≤ 65536
    → (on_table longwords address registers_asked s).packets
    ≡ table_packets s.board.w (longwords_there address longwords (length s.memory)) longwords + marker_packets
table_packets_lem address longwords range s small =
    let whole = table_whole address longwords range in
    let within = table_within address longwords range in
    let start : address + 4 * 0 ≡ address = omega arith in
    let asked = longwords_asked (longwords_there address longwords (length s.memory)) longwords in
    let first : blocks (0 + asked) - blocks 0 ≡ blocks asked = omega arith in
    rw (start, first) at (packets_from longwords address 0 registers_asked s refl whole (omega arith) small (λ b. absurd (true≢false b)))
