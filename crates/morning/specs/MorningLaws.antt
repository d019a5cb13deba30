-- Laws of the morning's check: check after check, and the whole page.
use Rattle.std.specs.Prelude.{ℕ, suc, ◌+◌, ◌≤◌, ◌<◌, ◌≡◌, refl, List, [], ◌∷◌, ◌++◌, map, length, take}
use Rattle.std.proofs.Common.{ap, sym, ◌∙◌, append_assoc, arith, add-zero, length-append, length-take}
use Rattle.std.proofs.lemmas.List.{map-append}
use Rattle.text.specs.Text.{Puts, ascii}
use Rattle.text.specs.TextLaws.{◌then◌, nothing, told_whole}
use Rattle.answers.specs.declared.Bench.{Bench}
use Rattle.answers.specs.Bench.{Left, left}
use Rattle.morning_page.specs.declared.Judged.{Judged}
use Rattle.morning_page.specs.MorningPage.{Check, check_of, check_text, checks_text, bad_after, bad_from, bad_of, verdict_text, page_text, AllAsDue, JudgedSo}
use Rattle.morning_page.proofs.MorningPageLaws.{ending, good_said_all_due, all_due_good_said}
use Rattle.morning_page.specs.MorningRoomLaws.{size_of, sizes_of, checks_length, verdict_length}
use Rattle.listed.specs.Listed.{listed_text}
use Rattle.scripts.specs.declared.Checked.{Checked}
use Rattle.scripts.specs.Script.{lines, leaves, came_whole, room, came, CheckedSo}
use Rattle.scripts.specs.ScriptLaws.{whole_as_due, as_due_cut}
use Rattle.morning.specs.Morning.{Planned, whole_of, cut, checks_of, boards, p9_trace, p9_whole, p9, first, nine_whole, nine, unjudged, PagedSo}

-- a check, and those after it
pub paged_on : (p : Planned) (more : List Planned) (l : Left) {number : ℕ} {before r r' : Checked} {page page₁ page₂ m : List ℕ}
    → CheckedSo number (check_of p.title p.due (came p.script l)) (leaves (lines p.script) l) before page r page₁ m
    → PagedSo (number + 1) (checks_of more (left r.bench m)) r page₁ r' page₂ → PagedSo number (checks_of (p ∷ more) l) before page r' page₂
unfolding whole_of checks_of
paged_on p more l one rest =
    let after = rw one.stands at rest in
    record {
      lines = one.puts then after.lines;
      count = after.count ∙ ap (λ (bad : ℕ). bad_from bad (checks_of more (leaves (lines p.script) l))) one.count;
    }

pub paged_none : (l : Left) {number : ℕ} {before : Checked} {page : List ℕ} → PagedSo number (checks_of [] l) before page before page
unfolding whole_of checks_of
paged_none l = record { lines = nothing _ _; count = refl }

-- from the bench as it starts
pub paged_first : (ps : List Planned) (m : List ℕ) {bench started : Bench} {page page₁ : List ℕ} {r : Checked} → bench ≡ started
    → PagedSo 1 (checks_of ps (left bench m)) (unjudged bench) page r page₁ → PagedSo 1 (checks_of ps (left started m)) (unjudged started) page r page₁
paged_first ps m e paged = rw e at paged

-- a last check, and the verdict
checks_more : (number : ℕ) (checks : List Check) (check : Check)
    → checks_text number (checks ++ (check ∷ [])) ≡ checks_text number checks ++ (check_text (number + length checks) check ++ [])
checks_more number [] check = rw (add-zero number)
checks_more number (one ∷ checks) check =
    let e : number + 1 + length checks ≡ number + suc (length checks) = omega arith in
    let last = check_text (number + 1 + length checks) check ++ [] in
    ap (λ (tail : List ℕ). check_text number one ++ tail) (checks_more (number + 1) checks check)
    ∙ sym (append_assoc (check_text number one) (checks_text (number + 1) checks) last)
    ∙ ap (λ (n : ℕ). checks_text number (one ∷ checks) ++ (check_text n check ++ [])) e

bad_more : (bad : ℕ) (checks : List Check) (check : Check) → bad_from bad (checks ++ (check ∷ [])) ≡ bad_after (bad_from bad checks) check
bad_more bad [] check = refl
bad_more bad (one ∷ checks) check = bad_more (bad_after bad one) checks check

pub page_whole : (checks : List Check) (check : Check) {bench : Bench} {r : Checked} {j : Judged} {page page₁ page₂ page₃ : List ℕ} {end : ℕ}
    → length checks ≡ 8 → PagedSo 1 checks (unjudged bench) page r page₁ → JudgedSo 9 check r.bad page₁ r.end j page₂
    → Puts page₂ j.end (verdict_text j.bad) page₃ end → Puts page 0 (page_text (checks ++ (check ∷ []))) page₃ end
page_whole checks check {j = j} {page} {page₂ = page₂} eight paged judged verdict =
    let last : Puts page 0 (checks_text 1 checks ++ (check_text (1 + length checks) check ++ [])) page₂ j.end =
    rw eight (paged.lines then (judged.lines then (nothing _ _)))
    in
    let bad : j.bad ≡ bad_from 9 (checks ++ (check ∷ [])) =
    judged.count ∙ ap (λ (b : ℕ). bad_after b check) paged.count ∙ sym (bad_more 9 checks check)
    in
    (rw (← checks_more 1 checks check) at last) then (rw bad at verdict)

-- P1 to P8 are eight, and with P9 they are nine
pub eight_boards : (l : Left) → length (checks_of boards l) ≡ 8
unfolding whole_of checks_of
eight_boards l = refl

nine_checks : (m : List ℕ) → length (nine m) ≡ 9
nine_checks m = length-append (checks_of boards (left first m)) (p9 ∷ []) ∙ ap (λ (n : ℕ). n + 1) (eight_boards (left first m))

-- the page says GOOD exactly if each of the nine came out as it is due
pub morning_good : (m : List ℕ) → ending (page_text (nine m)) ≡ ascii "ALL 9 GOOD\n" → AllAsDue (nine m)
morning_good m said = (good_said_all_due (nine m) (omega (arith, nine_checks m)) said).1

pub good_morning : (m : List ℕ) → AllAsDue (nine m) → ending (page_text (nine m)) ≡ ascii "ALL 9 GOOD\n"
good_morning m due = all_due_good_said (nine m) (nine_checks m) due

-- the program's buffer has room for the whole page, whatever came out
abbrev planned_sizes : List Planned → ℕ
planned_sizes [] = 0
planned_sizes (p ∷ more) = 60 + length p.title + length p.due + room + planned_sizes more

came_within : (script : List ℕ) (l : Left) → length (came script l) ≤ room
came_within script l = omega (arith, length-take room (came_whole script l))

planned_within : (ps : List Planned) (l : Left) → sizes_of (checks_of ps l) ≤ planned_sizes ps
unfolding whole_of checks_of
planned_within [] l = omega arith
planned_within (p ∷ more) l = omega (arith, came_within p.script l, planned_within more (leaves (lines p.script) l))

sizes_more : (checks : List Check) (check : Check) → sizes_of (checks ++ (check ∷ [])) ≡ sizes_of checks + size_of check
sizes_more [] check = omega arith
sizes_more (one ∷ checks) check = omega (arith, sizes_more checks check)

p9_within : size_of p9 ≤ 60 + 100 + room
p9_within = omega (arith, length-take room (listed_text p9_trace 36))

pub page_fits : (m : List ℕ) → length (page_text (nine m)) ≤ 65536
page_fits m =
    omega (
      arith,
      length-append (checks_text 1 (nine m)) (verdict_text (bad_of (nine m))),
      checks_length 1 (nine m),
      verdict_length (bad_of (nine m)),
      sizes_more (checks_of boards (left first m)) p9,
      planned_within boards (left first m),
      p9_within,
    )

-- so what stands up to its end is the page
pub page_read : (m : List ℕ) {page page' : List ℕ} {end : ℕ} → 65536 ≤ length page → Puts page 0 (page_text (nine m)) page' end
    → take end page' ≡ page_text (nine m)
page_read m {page} long puts = told_whole puts (omega (arith, page_fits m))

-- what is due is shorter than the room for what came out
abbrev AllShort : List Check → Type 0
AllShort [] = Unit {0}
AllShort (check ∷ checks) = (length check.due < room) × AllShort checks

short_more : (checks : List Check) (check : Check) → AllShort checks → length check.due < room → AllShort (checks ++ (check ∷ []))
short_more [] check short h = (h, tt)
short_more (one ∷ checks) check short h = (short.0, short_more checks check short.1 h)

nine_short : (m : List ℕ) → AllShort (nine_whole m)
unfolding whole_of
nine_short m =
    short_more (whole_of boards (left first m)) p9_whole
    (omega arith, (omega arith, (omega arith, (omega arith, (omega arith, (omega arith, (omega arith, (omega arith, tt)))))))) (omega arith)

-- so nothing was cut off where each came out as due
all_whole : (checks : List Check) → AllShort checks → AllAsDue (map cut checks) → AllAsDue checks
all_whole [] short due = tt
all_whole (check ∷ checks) short due = (whole_as_due check.due check.came short.0 due.0, all_whole checks short.1 due.1)

all_cut : (checks : List Check) → AllShort checks → AllAsDue checks → AllAsDue (map cut checks)
all_cut [] short due = tt
all_cut (check ∷ checks) short due = (as_due_cut check.due check.came short.0 due.0, all_cut checks short.1 due.1)

nine_cut : (m : List ℕ) → map cut (nine_whole m) ≡ nine m
unfolding checks_of
nine_cut m = map-append cut (whole_of boards (left first m)) (p9_whole ∷ [])

-- THE LAW: the page that stands in the program's buffer ends with ALL 9 GOOD exactly if each of the nine, with all that came out, came out as it is due
pub good_iff_whole_as_due : (m : List ℕ) {page page' : List ℕ} {end : ℕ} → 65536 ≤ length page → Puts page 0 (page_text (nine m)) page' end
    → (ending (take end page') ≡ ascii "ALL 9 GOOD\n" → AllAsDue (nine_whole m)) × (AllAsDue (nine_whole m) → ending (take end page') ≡ ascii "ALL 9 GOOD\n")
good_iff_whole_as_due m long puts =
    let read = ap ending (page_read m long puts) in (
      λ said. all_whole (nine_whole m) (nine_short m) (rw (nine_cut m) (morning_good m (sym read ∙ said))),
      λ due. read ∙ good_morning m (rw (← nine_cut m) (all_cut (nine_whole m) (nine_short m) due)),
    )
