-- Laws of what `gateway` says of a stand-in: what its requests mean in turn, each longword with its own address.
use Rattle.std.specs.Prelude.{ℕ, zero, suc, ◌+◌, ◌-◌, ◌*◌, ◌^◌, ◌≤◌, ◌<◌, ◌≡◌, refl, true, false, List, [], ◌∷◌, ◌++◌, length, get_or, drop, leb, None, Some}
use Rattle.std.proofs.Common.{arith, zero-add, mod-eq_of_lt, ap, sym, ◌∙◌, drop-cons, le-ltb, leb-true, leb-false}
use Rattle.std.proofs.Math.ListN.{get_or-append}
use Rattle.std.proofs.Math.Seq.{drop-length}
use Rattle.laws.specs.TestLaws.{by_test}
use Rattle.text.specs.Text.{ascii}
use Rattle.memory.specs.declared.Size.TheVariants.{Long}
use Rattle.memory.specs.Memory.{value_at}
use Rattle.board.specs.State.{State}
use Rattle.sound.specs.Sound.{Sound}
use Rattle.readings.specs.declared.Outcome.{Outcome}
use Rattle.readings.specs.declared.Outcome.TheVariants.{Value, BusError}
use Rattle.asked.specs.VisitRequests.{registers_asked}
use Rattle.visit.specs.declared.Visit.{Visit}
use Rattle.visit.specs.Visit.{next_of, table_in_range}
use Rattle.visit.specs.VisitLaws.{table_within}
use Rattle.visit.specs.HandedOver.{handed_over}
use Rattle.round_trip.specs.BroughtToRest.{rest_scene}
use Rattle.visit_course.specs.VisitCourse.{course_of}
use Rattle.console.specs.LineWriting.{line_end}
use Rattle.visit_text.specs.VisitText.{table_text, subject_text, value_text, result_text, read_text}
use Rattle.visit_lines.specs.VisitLines.{result_lines}
use Rattle.joined.specs.Joined.{Joined}
use Rattle.joined.specs.VisitReads.{visited}
use Rattle.joined.specs.VisitReadsLaws.{visit_joined, visit_reads}
use Rattle.joined.specs.VisitHands.{There, Missing, handed_at}
use Rattle.joined.specs.HandedJoinedLaws.{handed_over_lem, nothing_beyond, visit_hands}
use Rattle.visit_told.specs.VisitTold.{outcome_lines, word_line, said_of}

-- results that are handed over have the lines of their outcomes
results_told : (v : Visit) (notes : List ℕ) (outcomes : List Outcome)
    → ((i : ℕ) → i < length outcomes → handed_over v notes i ≡ Some (get_or outcomes i (Value 0))) → (left j : ℕ) → j + left ≡ length outcomes
    → result_lines left j v notes ≡ outcome_lines v.address j (drop j outcomes)
results_told v notes outcomes handed zero j e =
    let all : j ≡ length outcomes = omega arith in
    rw (all, drop-length outcomes)
results_told v notes outcomes handed (suc left) j e =
    rw (handed j (omega arith), drop-cons outcomes j (Value 0) (omega arith), results_told v notes outcomes handed left (suc j) (omega arith))

line_at : (address j : ℕ) (outcomes : List Outcome) (i : ℕ) → i < length outcomes
    → get_or (outcome_lines address j outcomes) i [] ≡ result_text address (j + i) (get_or outcomes i (Value 0))
line_at address j [] i less = absurd (omega arith)
line_at address j (outcome ∷ more) zero less = let here : j + 0 ≡ j = omega arith in rw here
line_at address j (outcome ∷ more) (suc i) less =
    let on : j + suc i ≡ suc j + i = omega arith in
    rw on (line_at address (suc j) more i (omega arith))

-- the subject of a longword is its own address
word_subject : (address k : ℕ) → address + 4 * k < 2 ^ 32 → subject_text address (registers_asked + k) ≡ table_text (address + 4 * k)
word_subject address k small =
    let number : 27 + k - 27 ≡ k = omega arith in
    rw (le-ltb (27 + k) 16 (omega arith), le-ltb (27 + k) 26 (omega arith), le-ltb (27 + k) 27 (omega arith), number, mod-eq_of_lt small)

nothing_given : {outcome : Outcome} → None ≡ Some outcome → ⊥
nothing_given e = let z : ◌≡◌ {A = ℕ} 0 1 = cc in omega (arith, z)

given_once : {a b : Outcome} → Some a ≡ Some b → a ≡ b
given_once e = cc

module _ (address longwords : ℕ) (before : List ℕ) (s : State) (f : Sound s) (fits : table_in_range address longwords ≡ true)
    (room : registers_asked + longwords ≤ length before) where
  abbrev outcomes : List Outcome
  outcomes = (course_of address longwords s).outcomes

  own_address : (visited address longwords before s).visit.address ≡ address
  own_address = ap (λ (j : Joined). j.visit.address) (visit_joined address longwords before s f fits)

  -- a line for each request in turn, with what it means, and the packets sent
  pub visit_told : said_of address longwords before s
      ≡ outcome_lines address 0 outcomes ++ (read_text (course_of address longwords s).packets ++ line_end) ∷ []
  unfolding next_of
  visit_told =
      let r = visit_reads address longwords before s f fits room in
      let v = (visited address longwords before s).visit in
      let notes = (visited address longwords before s).notes in
      let lines = results_told v notes outcomes (handed_over_lem address longwords before s f fits room) (length outcomes) 0 (zero-add (length outcomes)) in
      rw (r.read, r.ends, r.packets, lines, own_address)

  lines_counted : (j : ℕ) (os : List Outcome) → length (outcome_lines address j os) ≡ length os
  lines_counted j [] = refl
  lines_counted j (o ∷ os) = ap suc (lines_counted (suc j) os)

  -- a result that is handed over has its line
  result_told : (i : ℕ) (outcome : Outcome) → handed_at address longwords before s i ≡ Some outcome
      → get_or (said_of address longwords before s) i [] ≡ result_text address i outcome
  result_told i outcome e = by_test (leb (length outcomes) i) beyond within
    where
      beyond : leb (length outcomes) i ≡ true → get_or (said_of address longwords before s) i [] ≡ result_text address i outcome
      beyond t =
          let nothing = nothing_beyond address longwords before s f fits room i (leb-true (length outcomes) i t) in
          absurd (nothing_given (sym nothing ∙ e))

      within : leb (length outcomes) i ≡ false → get_or (said_of address longwords before s) i [] ≡ result_text address i outcome
      within t =
          let less : i < length outcomes = leb-false (length outcomes) i t in
          let count = lines_counted 0 outcomes in
          let same : get_or outcomes i (Value 0) ≡ outcome = given_once (sym (handed_over_lem address longwords before s f fits room i less) ∙ e) in
          ap (λ (ls : List (List ℕ)). get_or ls i []) visit_told
          ∙ get_or-append (outcome_lines address 0 outcomes) _ [] i (omega (arith, count))
          ∙ line_at address 0 outcomes i less
          ∙ rw (zero-add i, same)

  -- "word k is the longword of memory at address + 4k": it is told with that address
  pub word_told : (k : ℕ) → k < longwords → There address s k
      → get_or (said_of address longwords before s) (registers_asked + k) []
      ≡ word_line (address + 4 * k) (Value (value_at (rest_scene s).memory Long (address + 4 * k)))
  word_told k less there =
      result_told (registers_asked + k) _ ((visit_hands address longwords before s f fits room).word k less there)
      ∙ ap (λ (l : List ℕ). l ++ ascii " " ++ value_text (Value (value_at (rest_scene s).memory Long (address + 4 * k))) ++ ascii "\n")
      (word_subject address k (omega (arith, table_within address longwords fits)))

  -- "bus error at the first that is not"
  pub missing_told : (k : ℕ) → k < longwords → ((i : ℕ) → i < k → There address s i) → Missing address s k
      → get_or (said_of address longwords before s) (registers_asked + k) [] ≡ word_line (address + 4 * k) BusError
  missing_told k less there gone =
      result_told (registers_asked + k) _ ((visit_hands address longwords before s f fits room).missing k less there gone)
      ∙ ap (λ (l : List ℕ). l ++ ascii " " ++ value_text BusError ++ ascii "\n")
      (word_subject address k (omega (arith, table_within address longwords fits)))
