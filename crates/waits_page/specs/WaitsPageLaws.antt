-- Laws of the page of `waits`: one W after another, and what its code puts together.
use Prim.Native.Nat.{ℕ, suc, ◌+◌, ◌-◌, ◌≤◌, ◌<◌}
use native.Mathlib.Omega.{arith}
use Rattle.std.proofs.Common.{add-one, ap, ap₂, ◌∙◌, subst, le-leb}
use Rattle.std.specs.Prelude.{◌≡◌, refl, Bool, true, false, ◌&&◌, List, ◌++◌, length, take}
use Rattle.std.proofs.lemmas.Bool.{lt-leb}
use Rattle.text.specs.Text.{Puts, written, ascii}
use Rattle.text.specs.TextLaws.{◌then◌, nothing, told_cut}
use Rattle.waits_run.specs.declared.Ran.{Ran}
use Rattle.waits_run.specs.WaitsRun.{told_at, memory_at, packets_at, taken_at, stray_at, RunSo}
use Rattle.waits_setting.specs.declared.Judged.{Judged}
use Rattle.waits_setting.specs.WaitsSetting.{Came, came_of, is_same, setting_text, JudgedSo}
use Rattle.waits_page.specs.WaitsPage.{came_at, settings, all_same, verdict_text, Room, room_of, compared_text, unclear_text, page_text}
use Rattle.waits_page.specs.WaitsPage.{worked_in, due_left, came_left}

-- what a run leaves is what comes out at that W
pub ran_came : {w : ℕ} {input m text m' text' front : List ℕ} {r : Ran} → RunSo w input m text r m' text' → front ≡ take r.end text'
    → came_of front m' ≡ came_at (length text) (length m) w input
unfolding came_at
ran_came run e = ap₂ came_of (e ∙ told_cut run.told) run.memory

pub setting_judged : (due : Came) {w : ℕ} {input m : List ℕ} {front page page' m' text text' : List ℕ} {r : Ran} {at : ℕ} {j : Judged}
    → RunSo w input m text r m' text' → front ≡ take r.end text'
    → JudgedSo (setting_text w r.packets due (came_of front m')) (is_same due (came_of front m')) page at j page'
    → JudgedSo (setting_text w (packets_at (length m) w input) due (came_at (length text) (length m) w input))
    (is_same due (came_at (length text) (length m) w input)) page at j page'
setting_judged due {w} {input} {m} {front = front} {page} {page'} {m' = m'} {at = at} {j = j} run e judged =
    let number = packets_at (length m) w input in
    let counted : JudgedSo (setting_text w number due (came_of front m')) (is_same due (came_of front m')) page at j page' = rw run.packets at judged in
    subst (λ (came : Came). JudgedSo (setting_text w number due came) (is_same due came) page at j page') (ran_came run e) counted

and_more : (x y z : Bool) → (x && y) && z ≡ x && (y && z)
and_more true y z = refl
and_more false y z = refl

and_all : (x : Bool) → x ≡ x && true
and_all true = refl
and_all false = refl

module _ (due : Came) (room size : ℕ) (input page₀ : List ℕ) (at : ℕ) where
  -- whatever the settings from here on come to, all of them come to
  abbrev pub Onward : ℕ → Bool → List ℕ → ℕ → Type 0
  Onward w so page end =
      (r : Judged) (page' : List ℕ)
      → JudgedSo (settings (16 - w) w due room size input) (so && all_same (16 - w) w due room size input) page end r page'
      → JudgedSo (settings 16 0 due room size input) (all_same 16 0 due room size input) page₀ at r page'

  pub onward_next : (w : ℕ) (so : Bool) {page page₁ : List ℕ} {end : ℕ} {j : Judged} → w < 16 → Onward w so page end
      → JudgedSo (setting_text w (packets_at size w input) due (came_at room size w input)) (is_same due (came_at room size w input)) page end j page₁
      → Onward (w + 1) (so && j.same) page₁ j.end
  unfolding settings all_same
  onward_next w so {j = j} less all judged r page' more =
      let k = 16 - suc w in
      let one_more : 16 - w ≡ suc k = omega arith in
      let rest = rw (add-one w) at more in
      all r page'
      (rw one_more
      (record {
        puts = judged.puts then rest.puts;
        verdict = rest.verdict ∙ and_more so j.same _ ∙ rw judged.verdict;
      }))

  pub onward_ends : (w : ℕ) (so : Bool) {page : List ℕ} {end : ℕ} → 16 ≤ w → Onward w so page end
      → JudgedSo (settings 16 0 due room size input) (all_same 16 0 due room size input) page₀ at (record { end = end; same = so }) page
  unfolding settings all_same
  onward_ends w so {page} {end} over all =
      let none : 16 - w ≡ 0 = omega arith in
      all _ page (rw none (record { puts = nothing page end; verdict = and_all so }))

-- ---- the page, by what is found of the file
pub page_long : (room : Room) (input : List ℕ) → 16384 < length input → page_text room input ≡ ascii "too long\n"
unfolding page_text
page_long room input long = rw (lt-leb (length input) 16384 long)

pub page_stray : (room : Room) (input : List ℕ) → length input ≤ 16384 → taken_at room.due_memory 0 input ≡ false
    → page_text room input ≡ unclear_text (take (stray_at room.due_memory 0 input) input)
unfolding page_text
page_stray room input short t = rw (le-leb (length input) 16384 short, t)

pub page_compared : (room : Room) (input : List ℕ) → length input ≤ 16384 → taken_at room.due_memory 0 input ≡ true
    → page_text room input ≡ compared_text room input
unfolding page_text
page_compared room input short t = rw (le-leb (length input) 16384 short, t)

-- what is due, every W held against it, and the verdict
pub all_put : {input m due front m' due' page page₁ page₂ page₃ : List ℕ} {r : Ran} {j : Judged} {at end : ℕ} (lines memory : ℕ)
    → RunSo 0 input m due r m' due' → front ≡ take r.end due' → Puts page 0 front page₁ at
    → JudgedSo (settings 16 0 (came_of front m') lines memory input) (all_same 16 0 (came_of front m') lines memory input) page₁ at j page₂
    → Puts page₂ j.end (verdict_text j.same) page₃ end
    → Puts page 0 (compared_text (room_of (length due) (length m) lines memory) input) page₃ end
all_put {input} {page = page} {page₃ = page₃} {end = end} lines memory run e put judged verdict =
    subst
    (λ (due : Came). Puts page 0 (due.lines ++ (settings 16 0 due lines memory input ++ verdict_text (all_same 16 0 due lines memory input))) page₃ end)
    (ran_came run e)
    (put then (judged.puts then (rw judged.verdict at verdict)))

-- ---- the buffers that are worked in
run_works : {w : ℕ} {input m text m' text' : List ℕ} {r : Ran} → RunSo w input m text r m' text'
    → came_of text' m' ≡ came_of (written text 0 (told_at (length m) w input)) (memory_at (length m) w input)
run_works run = ap₂ came_of run.told.bytes run.memory

pub due_worked : {input m text m' text' : List ℕ} {r : Ran} → RunSo 0 input m text r m' text' → came_of text' m' ≡ worked_in 1 0 input (came_of text m)
unfolding worked_in
due_worked run = run_works run

pub worked_next : (w : ℕ) {input m text m' text' : List ℕ} {r : Ran} {all : Came} → w < 16 → RunSo w input m text r m' text'
    → worked_in (16 - w) w input (came_of text m) ≡ all → worked_in (16 - (w + 1)) (w + 1) input (came_of text' m') ≡ all
unfolding worked_in
worked_next w {input} less run whole =
    let one_more : 16 - w ≡ suc (16 - suc w) = omega arith in
    rw (add-one w) (ap (worked_in (16 - suc w) (suc w) input) (run_works run) ∙ (rw one_more at whole))

pub worked_ends : (w : ℕ) (input : List ℕ) {buffers all : Came} → 16 ≤ w → worked_in (16 - w) w input buffers ≡ all → buffers ≡ all
unfolding worked_in
worked_ends w input over whole = let none : 16 - w ≡ 0 = omega arith in rw none at whole

-- ---- what is left of them, by what is found of the file
pub left_long : (input : List ℕ) (due came : Came) → 16384 < length input → (due ≡ due_left input due) × (came ≡ came_left input due came)
left_long input due came long = rw (lt-leb (length input) 16384 long) (refl, refl)

pub left_stray : (input : List ℕ) (due came : Came) → length input ≤ 16384 → taken_at (length due.memory) 0 input ≡ false
    → (worked_in 1 0 input due ≡ due_left input due) × (came ≡ came_left input due came)
left_stray input due came short t = rw (le-leb (length input) 16384 short, t) (refl, refl)

pub left_compared : (input : List ℕ) (due came : Came) → length input ≤ 16384 → taken_at (length due.memory) 0 input ≡ true
    → (worked_in 1 0 input due ≡ due_left input due) × (worked_in 16 0 input came ≡ came_left input due came)
left_compared input due came short t = rw (le-leb (length input) 16384 short, t) (refl, refl)
