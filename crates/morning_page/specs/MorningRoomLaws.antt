-- How long the morning's page is at most: as long as its titles, what is due and what came out, and a little for each check.
use Rattle.std.specs.Prelude.{ℕ, ◌+◌, ◌≤◌, ◌≡◌, Bool, true, false, cond, List, [], ◌∷◌, ◌++◌, eqb, length}
use Rattle.std.proofs.Common.{arith, length-append}
use Rattle.text.specs.Text.{ascii}
use Rattle.text.specs.NumberText.{decimal_text}
use Rattle.text.proofs.NumberTextLaws.{decimal_length}
use Rattle.morning_page.specs.MorningPage.{Check, is_good, under_text, judged_text, check_text, checks_text, good_letters, bad_letters, verdict_text}

-- what a check takes on the page at most
abbrev pub size_of : Check → ℕ
size_of check = 60 + length check.title + length check.due + length check.came

under_length : (verdict title came : List ℕ) → length (under_text verdict title came) ≡ length verdict + length title + 5 + length came + 1
under_length verdict title came = simp length-append

judged_length : (good : Bool) (check : Check) → length (judged_text good check) ≤ 30 + length check.title + length check.due + length check.came
judged_length true check = omega (arith, under_length (ascii " good: ") check.title check.came)
judged_length false check =
    let front = under_text (ascii " BAD: ") check.title check.came in
    omega (
      arith,
      under_length (ascii " BAD: ") check.title check.came,
      length-append front (ascii "    due: "),
      length-append (front ++ ascii "    due: ") check.due,
      length-append (front ++ ascii "    due: " ++ check.due) (ascii "\n"),
    )

check_length : (number : ℕ) (check : Check) → length (check_text number check) ≤ size_of check
check_length number check =
    omega (
      arith,
      length-append (ascii "P" ++ decimal_text number) (judged_text (is_good check) check),
      length-append (ascii "P") (decimal_text number),
      decimal_length number,
      judged_length (is_good check) check,
    )

abbrev pub sizes_of : List Check → ℕ
sizes_of [] = 0
sizes_of (check ∷ checks) = size_of check + sizes_of checks

pub checks_length : (number : ℕ) (checks : List Check) → length (checks_text number checks) ≤ sizes_of checks
checks_length number [] = omega arith
checks_length number (check ∷ checks) =
    omega (arith, length-append (check_text number check) (checks_text (number + 1) checks), check_length number check, checks_length (number + 1) checks)

pub verdict_length : (bad : ℕ) → length (verdict_text bad) ≤ 200
verdict_length bad = by_test (eqb bad 0)
  where
    by_test : (t : Bool) → length (cond t (good_letters ++ ascii "ALL 9 GOOD\n")
        (bad_letters ++ decimal_text bad ++ ascii " BAD OF 9: HAND OUT NO POD\n")) ≤ 200
    by_test true = omega arith
    by_test false =
        omega (
          arith,
          length-append (bad_letters ++ decimal_text bad) (ascii " BAD OF 9: HAND OUT NO POD\n"),
          length-append bad_letters (decimal_text bad),
          decimal_length bad,
        )
