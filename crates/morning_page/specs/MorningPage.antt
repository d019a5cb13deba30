-- The morning's page (docs/morning.md): each check with what came out, and last the verdict.
use Rattle.std.specs.Prelude.{ℕ, ◌+◌, ◌-◌, ◌≡◌, Bool, true, false, cond, List, [], ◌∷◌, ◌++◌, eqb}
use Rattle.same.specs.SameList.{same}
use Rattle.text.specs.Text.{Puts, ascii}
use Rattle.text.specs.NumberText.{decimal_text}
use Rattle.morning_page.specs.declared.Judged.{Judged}

-- a check: its title, what is due, and what came out
pub record Check : Type 0 where
  pub title : List ℕ
  pub due : List ℕ
  pub came : List ℕ

abbrev pub check_of : List ℕ → List ℕ → List ℕ → Check
check_of title due came = record { title = title; due = due; came = came }

-- good is what came out as it is due, to the byte
unfoldable pub is_good : Check → Bool
is_good check = same check.came check.due

-- "`P1 good: TITLE`, and under it, four spaces in, what came out"
abbrev pub under_text : List ℕ → List ℕ → List ℕ → List ℕ
under_text verdict title came = verdict ++ title ++ ascii "\n    " ++ came ++ ascii "\n"

-- "Where that is not what is due, the first line is `P1 BAD: TITLE`, and a third one says `    due: ` and what is due."
abbrev pub judged_text : Bool → Check → List ℕ
judged_text true check = under_text (ascii " good: ") check.title check.came
judged_text false check = under_text (ascii " BAD: ") check.title check.came ++ ascii "    due: " ++ check.due ++ ascii "\n"

abbrev pub check_text : ℕ → Check → List ℕ
check_text number check = ascii "P" ++ decimal_text number ++ judged_text (is_good check) check

-- the checks, from so many on
abbrev pub checks_text : ℕ → List Check → List ℕ
checks_text number [] = []
checks_text number (check ∷ checks) = check_text number check ++ checks_text (number + 1) checks

-- so many are bad, and a check that is good takes one away
abbrev pub bad_after : ℕ → Check → ℕ
bad_after bad check = cond (is_good check) (bad - 1) bad

abbrev pub bad_from : ℕ → List Check → ℕ
bad_from bad [] = bad
bad_from bad (check ∷ checks) = bad_from (bad_after bad check) checks

-- "GOOD takes nine": all nine are bad until they are judged
abbrev pub bad_of : List Check → ℕ
bad_of checks = bad_from 9 checks

-- "five rows of big letters"
abbrev pub good_letters : List ℕ
good_letters =
    ascii "\n ####   ###    ###   ####\n"
    ++ ascii "#      #   #  #   #  #   #\n"
    ++ ascii "#  ##  #   #  #   #  #   #\n"
    ++ ascii "#   #  #   #  #   #  #   #\n"
    ++ ascii " ####   ###    ###   ####\n\n"

abbrev pub bad_letters : List ℕ
bad_letters =
    ascii "\n####    ###   ####\n"
    ++ ascii "#   #  #   #  #   #\n"
    ++ ascii "####   #####  #   #\n"
    ++ ascii "#   #  #   #  #   #\n"
    ++ ascii "####   #   #  ####\n\n"

-- "a last line: `ALL 9 GOOD`, or `N BAD OF 9: HAND OUT NO POD`"
abbrev pub verdict_text : ℕ → List ℕ
verdict_text bad = cond (eqb bad 0) (good_letters ++ ascii "ALL 9 GOOD\n") (bad_letters ++ decimal_text bad ++ ascii " BAD OF 9: HAND OUT NO POD\n")

-- the whole page
abbrev pub page_text : List Check → List ℕ
page_text checks = checks_text 1 checks ++ verdict_text (bad_of checks)

-- each came out as it is due
abbrev pub AllAsDue : List Check → Type 0
AllAsDue [] = Unit {0}
AllAsDue (check ∷ checks) = (check.came ≡ check.due) × AllAsDue checks

-- a check put on the page where so many were bad before it
pub record JudgedSo (number : ℕ) (check : Check) (bad : ℕ) (before : List ℕ) (at : ℕ) (r : Judged) (after : List ℕ) : Type 0 where
  pub lines : Puts before at (check_text number check) after r.end
  pub count : r.bad ≡ bad_after bad check
