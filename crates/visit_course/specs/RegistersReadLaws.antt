-- Laws of a visit's registers: each request comes to its register, or is illegal where the processor runs; together they are what the registers come to.
use Prim.Native.Nat.{ℕ, zero, suc, ◌+◌, ◌-◌, ◌*◌, ◌≤◌, ◌<◌}
use Rattle.std.proofs.Common.{add-zero, zero-add, suc-add, sym, ◌∙◌}
use native.Mathlib.Omega.{arith}
use Rattle.std.specs.Prelude.{◌≡◌, refl, Bool, true, false, cond, ◌&&◌, List, [], ◌∷◌, ◌++◌, eqb, ltb, replicate}
use Rattle.std.proofs.Math.Path.{ap}
use Rattle.std.proofs.Math.ListN.{get_or}
use Rattle.std.proofs.Math.Seq.{append_snoc}
use borrow.Author.Tests.{eqb-true, eqb-false, ltb-true, lt-ltb, le-ltb, le-leb, lt-leb}
use Rattle.laws.specs.TestLaws.{by_test, both_hold}
use Rattle.command.specs.Command.{decoded, decoded_word}
use Rattle.board.specs.declared.Chain.TheVariants.{Off}
use Rattle.csr.specs.Csr.{csr_value}
use Rattle.control.specs.Control.{control_numbers, control_index}
use Rattle.requests.specs.declared.Request.TheVariants.{Rdreg, Rcreg, Rdmreg}
use Rattle.readings.specs.declared.Outcome.{Outcome}
use Rattle.readings.specs.declared.Outcome.TheVariants.{Value, Illegal}
use Rattle.pod_laws.specs.MeantCommandLaws.{decoded_as_meant}
use Rattle.asked.specs.VisitRequests.{registers_asked, register_request, request_at, in_table, marked}
use Rattle.asked.specs.Marker.{marker_packets}
use Rattle.round_trip.specs.Meaning.{Scene, cleared}
use Rattle.round_trip.specs.RoundTrip.{unchained, legal_there, packets_there}
use Rattle.visit_course.specs.VisitCourse.{Course, noting, course_from}
use Rattle.visit_course.specs.PacketsStated.{processor_packets, registers_packets}
use Rattle.visit_course.specs.RegistersRead.{values_from, processor_read, registers_read, csr_cleared}
use Rattle.visit_course.specs.TableCourseLaws.{on_table}
use Rattle.visit_course.specs.CourseStepLaws.{ComesTo, illegal_comes_to, course_step}

-- ---- the requests
rdreg_legal : (n : ℕ) (s : Scene) → n < 16 → legal_there (Rdreg n) s ≡ s.board.status.halted
rdreg_legal n s h =
    rw (lt-leb 0x10000 (0x2180 + n) (omega arith), decoded_as_meant (Rdreg n) (le-leb n 15 (omega arith)))
    (by_test s.board.status.halted (λ t. rw t) (λ t. rw t))

rcreg_legal : (rc : ℕ) (s : Scene) → legal_there (Rcreg rc) s ≡ s.board.status.halted
unfolding decoded decoded_word
rcreg_legal rc s = by_test s.board.status.halted (λ t. rw t) (λ t. rw t)

csr_legal : (s : Scene) → legal_there (Rdmreg 0) s ≡ true
unfolding decoded decoded_word
csr_legal s = by_test s.board.status.halted (λ t. rw t) (λ t. rw t)

-- the list of control registers is in the order of their numbers in the board
abbrev in_order : ℕ → ℕ → Bool
in_order zero i = true
in_order (suc n) i = eqb (control_index (get_or control_numbers i 0)) i && in_order n (suc i)

in_order_lem : (n i k : ℕ) → in_order n i ≡ true → i ≤ k → k < i + n → control_index (get_or control_numbers k 0) ≡ k
in_order_lem zero i k h a b = absurd (omega arith)
in_order_lem (suc n) i k h a b =
    let both = both_hold (eqb (control_index (get_or control_numbers i 0)) i) (in_order n (suc i)) h in
    by_test (eqb k i)
    (λ t. rw (eqb-true k i t) (eqb-true (control_index (get_or control_numbers i 0)) i both.0))
    (λ t. let other : k ≡ i → ⊥ = eqb-false k i t in in_order_lem n (suc i) k both.1 (omega arith) (omega arith))

control_index_lem : (k : ℕ) → k < 10 → control_index (get_or control_numbers k 0) ≡ k
unfolding control_index
control_index_lem k h = in_order_lem 10 0 k refl (omega arith) (omega arith)

module _ (s : Scene) (h : s.board.status.halted ≡ true) where
  rdreg_comes_to : (n : ℕ) → n < 16 → ComesTo (Rdreg n) s (Value (get_or s.board.registers.general n 0)) 3 (unchained s)
  unfolding packets_there
  rdreg_comes_to n f =
      let legal = rdreg_legal n s f ∙ h in record { outcome = rw legal; packets = rw legal; leaves = rw legal }

  rcreg_comes_to : (k : ℕ) → k < 10
      → ComesTo (Rcreg (get_or control_numbers k 0)) s (Value (get_or s.board.registers.control k 0)) (5 + s.board.w) (unchained s)
  unfolding packets_there
  rcreg_comes_to k f =
      let rc = get_or control_numbers k 0 in
      let legal = rcreg_legal rc s ∙ h in
      let index = control_index_lem k f in
      let listed = lt-ltb k 10 f in
      record { outcome = rw (legal, index, listed); packets = rw (legal, index, listed) (omega arith); leaves = rw (legal, index, listed) }

csr_comes_to : (s : Scene)
    → ComesTo (Rdmreg 0) s (Value (csr_value s.board)) 3
    (record { board = cleared (csr_cleared s.board); chain = Off; pointer = s.pointer; memory = s.memory })
unfolding packets_there
csr_comes_to s = let legal = csr_legal s in record { outcome = rw legal; packets = rw legal; leaves = rw legal }

-- ---- one after the other
-- outcomes with so many packets, and then the rest
abbrev pub noting_all : List Outcome → ℕ → Course → Course
noting_all os packets rest = record { outcomes = os ++ rest.outcomes; packets = packets + rest.packets; leaves = rest.leaves }

-- so many outcomes from number j on
abbrev each_from : (ℕ → Outcome) → ℕ → ℕ → List Outcome
each_from f zero j = []
each_from f (suc n) j = f j ∷ each_from f n (suc j)

module _ (address : ℕ) (s : Scene) where
  -- the scene that every one of the first 26 finds and leaves
  abbrev u : Scene
  u = unchained s

  -- request j comes to such an outcome with so many packets, a marker after it among them, and then the rest
  abbrev Notes : (ℕ → Outcome) → ℕ → ℕ → Type 0
  Notes f packets j = (left : ℕ) → 0 < left → course_from (suc left) address j u ≡ noting (f j) packets (course_from left address (suc j) u)

  several : (f : ℕ → Outcome) (packets n from left : ℕ) → ((j : ℕ) → from ≤ j → j < from + n → Notes f packets j) → 0 < left
      → course_from (n + left) address from u ≡ noting_all (each_from f n from) (n * packets) (course_from left address (from + n) u)
  several f packets zero from left step some =
      let same : 0 * packets + (course_from left address from u).packets ≡ (course_from left address from u).packets = omega arith in
      rw (zero-add left, add-zero from, same)
  several f packets (suc n) from left step some =
      let more = (course_from left address (suc from + n) u).packets in
      let next : from + suc n ≡ suc from + n = omega arith in
      let all : suc n * packets + more ≡ packets + (n * packets + more) = omega arith in
      rw (suc-add n left, step from (omega arith) (omega arith) (n + left) (omega arith), next, all)
      (ap (noting (f from) packets) (several f packets n (suc from) left (λ j a b. step j (omega arith) (omega arith)) some))

  not_marked : (j left : ℕ) → j < 26 → 0 < left → marked (suc j + left) (suc j) ≡ false
  unfolding marked
  not_marked j left a some = rw (lt-leb registers_asked (suc j) (omega arith), lt-leb (suc j + left) (suc j) (omega arith))

  not_in_table : (j : ℕ) → j < 26 → in_table j ≡ false
  not_in_table j a = lt-leb registers_asked j (omega arith)

  request_of : (j : ℕ) → j < registers_asked → request_at address j ≡ register_request j
  unfolding request_at
  request_of j a = rw (lt-ltb j registers_asked a)

  general_notes : s.board.status.halted ≡ true → (j : ℕ) → j < 16 → Notes (λ n. Value (get_or s.board.registers.general n 0)) 3 j
  general_notes h j a left some =
      let request : request_at address j ≡ Rdreg j = request_of j (omega arith) ∙ rw (lt-ltb j 16 a) in
      course_step left address j request (rdreg_comes_to u h j a) ∙ rw (not_in_table j (omega arith), not_marked j left (omega arith) some)

  control_notes : s.board.status.halted ≡ true → (j : ℕ) → 16 ≤ j → j < 26
      → Notes (λ n. Value (get_or s.board.registers.control (n - 16) 0)) (5 + s.board.w) j
  control_notes h j a b left some =
      let request : request_at address j ≡ Rcreg (get_or control_numbers (j - 16) 0) =
      request_of j (omega arith) ∙ rw (le-ltb j 16 (omega arith), lt-ltb j 26 b) in
      course_step left address j request (rcreg_comes_to u h (j - 16) (omega arith)) ∙ rw (not_in_table j b, not_marked j left b some)

  illegal_there : s.board.status.halted ≡ false → (j : ℕ) → j < 26 → legal_there (register_request j) u ≡ false
  illegal_there h j a =
      by_test (ltb j 16) (λ t. rw t (rdreg_legal j u (ltb-true j 16 t) ∙ h))
      (λ t. rw (t, lt-ltb j 26 a) (rcreg_legal (get_or control_numbers (j - 16) 0) u ∙ h))

  illegal_notes : s.board.status.halted ≡ false → (j : ℕ) → j < 26 → Notes (λ n. Illegal) (2 + marker_packets) j
  illegal_notes h j a left some =
      let more = (course_from left address (suc j) u).packets in
      let all : 2 + marker_packets + more ≡ 2 + (marker_packets + more) = omega arith in
      rw all (course_step left address j (request_of j (omega arith)) (illegal_comes_to {s = u} (illegal_there h j a)) ∙ rw (not_in_table j a))

  -- ---- all of them
  -- what they leave
  abbrev pub scene_asked : Scene
  scene_asked = record { board = cleared (csr_cleared s.board); chain = Off; pointer = s.pointer; memory = s.memory }

  csr_notes : (left : ℕ) → course_from (suc left) address 26 u ≡ noting (Value (csr_value s.board)) 3 (on_table left address registers_asked scene_asked)
  unfolding csr_value
  csr_notes left = course_step left address 26 (request_of 26 (omega arith)) (csr_comes_to u)

  -- the processor's, halted or running
  abbrev halted : List Outcome
  halted = values_from 16 0 s.board.registers.general ++ values_from 10 0 s.board.registers.control

  abbrev chosen : ℕ → Bool → Course
  chosen left t = noting_all (cond t halted (replicate 26 Illegal)) (processor_packets s.board.w t) (course_from left address 26 u)

  halted_notes : (left : ℕ) → 0 < left → s.board.status.halted ≡ true → course_from (26 + left) address 0 u ≡ chosen left true
  halted_notes left some h =
      let start : 26 + left ≡ 16 + (10 + left) = omega arith in
      let more = course_from left address 26 u in
      let all : 16 * 3 + 10 * (5 + s.board.w) + more.packets ≡ 16 * 3 + (10 * (5 + s.board.w) + more.packets) = omega arith in
      let controls = several (λ n. Value (get_or s.board.registers.control (n - 16) 0)) (5 + s.board.w) 10 16 left (control_notes h) some in
      let generals = several (λ n. Value (get_or s.board.registers.general n 0)) 3 16 0 (10 + left) (λ j a b. general_notes h j b) (omega arith) in
      rw (start, all) (generals ∙ ap (noting_all (values_from 16 0 s.board.registers.general) (16 * 3)) controls)

  processor_notes : (left : ℕ) → 0 < left → course_from (26 + left) address 0 u ≡ chosen left s.board.status.halted
  processor_notes left some =
      by_test s.board.status.halted
      (λ h. halted_notes left some h ∙ ap (chosen left) (sym h))
      (λ h. several (λ n. Illegal) (2 + marker_packets) 26 0 left (λ j a b. illegal_notes h j b) some ∙ ap (chosen left) (sym h))

  pub registers_notes : (longwords : ℕ)
      → course_from (registers_asked + longwords) address 0 u
      ≡ noting_all (registers_read s.board) (registers_packets s.board.w s.board.status.halted) (on_table longwords address registers_asked scene_asked)
  unfolding registers_read
  registers_notes longwords =
      let start : registers_asked + longwords ≡ 26 + suc longwords = omega arith in
      let first = processor_packets s.board.w s.board.status.halted in
      let more = on_table longwords address registers_asked scene_asked in
      let all : first + 3 + more.packets ≡ first + (3 + more.packets) = omega arith in
      rw (append_snoc (processor_read s.board) (Value (csr_value s.board)) more.outcomes, all)
      (ap (λ (n : ℕ). course_from n address 0 u) start
      ∙ processor_notes (suc longwords) (omega arith)
      ∙ ap (noting_all (processor_read s.board) first) (csr_notes longwords))
