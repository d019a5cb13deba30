-- Laws of what is said to the pod's lines: the words built, and the replies read.
use Rattle.std.specs.Prelude.{ℕ, ◌≤◌, ◌≡◌, refl, Bool, true, false, cond, List, [], ◌∷◌, ◌++◌, leb, length, take, drop, Err, Ok, Result, ⊤, Option}
use Rattle.readings.specs.declared.Outcome.{Outcome}
use Rattle.std.proofs.Common.{ap, sym, ◌∙◌, arith, take_at, leb-true}
use Rattle.grounds.specs.declared.Ground.{Ground}
use Rattle.grounds.specs.declared.Ground.TheVariants.{RequestOutOfRange, BufferTooShort as WordsTooShort}
use Rattle.grounds.specs.Grounds.{check}
use Rattle.grounds.specs.GroundLaws.{number_is_not_zero, same_number_same_ground, accepted_holds}
use Rattle.requests.specs.declared.Request.{Request}
use Rattle.requests.specs.Request.{in_range}
use Rattle.building.specs.RequestWords.{built_words}
use Rattle.building.specs.Building.{building_verdict, BuiltOnPaper, told_built, due_built, buffer_at, BuildingMeets}
use Rattle.readings.specs.Reading.{reading, ReadingMeets}
use Rattle.pod_laws.specs.ReadingUnique.{told_reading_unique}
use Rattle.text.specs.Text.{Puts}
use Rattle.refusal_text.specs.RefusalText.{unclear_text, refused_text}
use Rattle.request_text.specs.RequestText.{words_text, reading_text}
use Rattle.pod_lines.specs.declared.NotTaken.TheVariants.{TooMany, NotAllNumbers}
use Rattle.pod_lines.specs.declared.PodLine.{PodLine}
use Rattle.pod_lines.specs.declared.PodLine.TheVariants.{Nothing, Build, Read, BufferTooShort, Unclear}
use Rattle.pod_lines.specs.Taking.{values, all_numerals, taken, buffer_after}
use Rattle.pod_lines.specs.TakingLaws.{values_length}
use Rattle.pod_lines.specs.PodLines.{Meaning, nothing, builds, reads, unclear, read_answer, pod_meaning, answered, buffer_of, PodMeets}
use Rattle.pod_answers.specs.PodSaid.{built_by, built_text, read_text, pod_text, pod_said}

accepted_room : (request : Request) (room : ℕ) → building_verdict request room ≡ Ok tt → length (built_words request) ≤ room
accepted_room request room accepted =
    let has = leb (length (built_words request)) room in
    let short = (accepted_holds (in_range request) RequestOutOfRange (check has WordsTooShort ∷ []) accepted).1 in
    leb-true (length (built_words request)) room (accepted_holds has WordsTooShort [] short).0

-- where words were built, they are the request's, and they have room
module _ (request : Request) (before after : List ℕ) (count : ℕ) where
  words_by : (v : Result ⊤ Ground) → (v ≡ Ok tt → length (built_words request) ≤ length before) → told_built (Ok count) ≡ due_built v request
      → after ≡ buffer_at v request before → (count ≤ length before) × (words_text (take count after) ≡ built_by v (built_words request))
  words_by (Ok _) room e f =
      let same : count ≡ length (built_words request) = ap (λ (p : BuiltOnPaper). p.count) e in
      let taken : take count after ≡ built_words request = rw f (take_at (built_words request) _ count (sym same)) in
      (omega (arith, room refl), ap words_text taken)
  words_by (Err why) room e f = absurd (number_is_not_zero why (sym (ap (λ (p : BuiltOnPaper). p.refusal.number) e)))

  words_there : length before ≡ 5 → BuildingMeets request before (Ok count) after
      → (count ≤ length before) × (words_text (take count after) ≡ built_text request)
  words_there five meets =
      let both = words_by (building_verdict request (length before)) (accepted_room request (length before)) meets.answer meets.buffer in
      (both.0, rw five at both.1)

pub words_built : {request : Request} {before after : List ℕ} {r : Result ℕ Ground} {count : ℕ} → length before ≡ 5 → BuildingMeets request before r after
    → r ≡ Ok count → (count ≤ length before) × (words_text (take count after) ≡ built_text request)
words_built {request} {before} {after} {r} {count} five meets e = words_there request before after count five (rw e at meets)

refused_by : (request : Request) (why : Ground) (v : Result ⊤ Ground) → told_built (Err why) ≡ due_built v request
    → refused_text why ≡ built_by v (built_words request)
refused_by request why (Ok _) e = absurd (number_is_not_zero why (ap (λ (p : BuiltOnPaper). p.refusal.number) e))
refused_by request why (Err other) e = ap refused_text (same_number_same_ground why other (ap (λ (p : BuiltOnPaper). p.refusal.number) e))

pub refused_built : {request : Request} {before after : List ℕ} {r : Result ℕ Ground} {why : Ground} → length before ≡ 5 → BuildingMeets request before r after
    → r ≡ Err why → refused_text why ≡ built_text request
refused_built {request} {before} {after} {r} {why} five meets e =
    rw five at (refused_by request why (building_verdict request (length before)) (ap told_built (sym e) ∙ meets.answer))

pub reading_answered : {request : Request} {replies : List ℕ} {r : Result (Option Outcome × ℕ) Ground} → ReadingMeets request replies r
    → r ≡ reading request replies
reading_answered {request} {replies} {r} meets = told_reading_unique r (reading request replies) meets.answer

-- what is said to what a line was read as, its replies in the buffer
abbrev pub line_text : PodLine → List ℕ → List ℕ
line_text Nothing after = []
line_text (Build request) after = built_text request
line_text (Read request count) after = reading_text (reading request (take count after))
line_text BufferTooShort after = unclear_text
line_text Unclear after = unclear_text

module _ (before : List ℕ) (full : length before ≡ 2048) where
  replies_said : (request : Request) (replies : List (List ℕ)) (all : Bool)
      → line_text (read_answer request (taken (cond all (Ok (length replies)) (Err NotAllNumbers)) 2048))
      (buffer_after (taken (cond all (Ok (length replies)) (Err NotAllNumbers)) 2048) replies before)
      ≡ read_text request (taken (cond all (Ok (length replies)) (Err NotAllNumbers)) 2048) (values replies)
  replies_said request replies false = refl
  replies_said request replies true = by_room (leb (length replies) 2048)
    where
      by_room : (fits : Bool)
          → line_text (read_answer request (cond fits (Ok (length replies)) (Err TooMany)))
          (buffer_after (cond fits (Ok (length replies)) (Err TooMany)) replies before)
          ≡ read_text request (cond fits (Ok (length replies)) (Err TooMany)) (values replies)
      by_room true =
          let read : take (length replies) (values replies ++ drop (length replies) before) ≡ values replies =
          take_at (values replies) _ (length replies) (values_length replies) in
          ap (λ (l : List ℕ). reading_text (reading request l)) read
      by_room false = refl

  meaning_said : (meaning : Meaning) → line_text (answered meaning 2048) (buffer_of meaning before) ≡ pod_text meaning
  meaning_said nothing = refl
  meaning_said (builds request) = refl
  meaning_said (reads request replies) = rw full (replies_said request replies (all_numerals replies))
  meaning_said unclear = refl

  line_said : {meaning : Meaning} {r : PodLine} {after : List ℕ} → PodMeets meaning before r after → line_text r after ≡ pod_text meaning
  line_said {meaning} {r} {after} meets = rw (meets.answer, meets.buffer, full) (meaning_said meaning)

  pub pod_said_lem : (line : List ℕ) {r : PodLine} {after b a : List ℕ} {end : ℕ} → PodMeets (pod_meaning line) before r after
      → Puts b 0 (line_text r after) a end → Puts b 0 (pod_said line) a end
  unfolding pod_said
  pod_said_lem line {r} {after} meets p = rw (line_said {meaning = pod_meaning line} {r = r} {after = after} meets) at p

-- the replies have room
count_room : (request : Request) (count room : ℕ) (meaning : Meaning) → Read request count ≡ answered meaning room → count ≤ room
count_room request count room nothing e = let z : ◌≡◌ {A = ℕ} 0 1 = cc in absurd (omega arith)
count_room request count room (builds other) e = let z : ◌≡◌ {A = ℕ} 0 1 = cc in absurd (omega arith)
count_room request count room unclear e = let z : ◌≡◌ {A = ℕ} 0 1 = cc in absurd (omega arith)
count_room request count room (reads other replies) e = by_all (all_numerals replies) e
  where
    by_room : (fits : Bool) → leb (length replies) room ≡ fits → Read request count ≡ read_answer other (cond fits (Ok (length replies)) (Err TooMany))
        → count ≤ room
    by_room true h e = let same : count ≡ length replies = cc in omega (arith, leb-true (length replies) room h)
    by_room false h e = let z : ◌≡◌ {A = ℕ} 0 1 = cc in absurd (omega arith)

    by_all : (all : Bool) → Read request count ≡ read_answer other (taken (cond all (Ok (length replies)) (Err NotAllNumbers)) room) → count ≤ room
    by_all true e = by_room (leb (length replies) room) refl e
    by_all false e = let z : ◌≡◌ {A = ℕ} 0 1 = cc in absurd (omega arith)

pub line_room : {meaning : Meaning} {before : List ℕ} {r : PodLine} {after : List ℕ} {request : Request} {count : ℕ}
    → PodMeets meaning before r after → r ≡ Read request count → count ≤ length before
line_room {meaning} {before} {r} {after} {request} {count} meets e = count_room request count (length before) meaning (sym e ∙ meets.answer)
