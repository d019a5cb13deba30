-- Laws of the morning's page: GOOD is said exactly if nine checks came out as they are due, and no other page ends as GOOD's does.
use Rattle.std.specs.Prelude.{ℕ, ◌-◌, ◌≤◌, ◌≡◌, refl, Bool, true, false, cond, List, [], ◌∷◌, ◌++◌, eqb, length, drop, get_or}
use Rattle.std.proofs.Common.{ap, sym, ◌∙◌, append_assoc, arith, length-append, drop_at, ne_eqb, eqb-true}
use Rattle.std.proofs.lemmas.Bool.{eqb-false}
use Rattle.same.specs.SameListLaws.{same_equal, equal_same}
use Rattle.text.specs.Text.{ascii}
use Rattle.text.specs.NumberText.{decimal_text}
use Rattle.morning_page.specs.MorningPage.{Check, is_good, checks_text, bad_from, bad_of, good_letters, bad_letters, page_text, AllAsDue}

pub good_as_due : (check : Check) → is_good check ≡ true → check.came ≡ check.due
unfolding is_good
good_as_due check e = same_equal check.came check.due e

pub as_due_good : (check : Check) → check.came ≡ check.due → is_good check ≡ true
unfolding is_good
as_due_good check e = rw e (equal_same check.due)

-- of so many that are bad at first, each judged at most once, none is left: all were judged, and each came out as due
none_bad : (bad : ℕ) (checks : List Check) → length checks ≤ bad → bad_from bad checks ≡ 0 → (length checks ≡ bad) × AllAsDue checks
none_bad bad [] within e = (sym e, tt)
none_bad bad (check ∷ checks) within e = by_test (is_good check) refl e (none_bad (bad - 1) checks (omega arith)) (none_bad bad checks (omega arith))
  where
    by_test : (t : Bool) → is_good check ≡ t → bad_from (cond t (bad - 1) bad) checks ≡ 0
        → (bad_from (bad - 1) checks ≡ 0 → (length checks ≡ bad - 1) × AllAsDue checks)
        → (bad_from bad checks ≡ 0 → (length checks ≡ bad) × AllAsDue checks)
        → (length (check ∷ checks) ≡ bad) × AllAsDue (check ∷ checks)
    by_test true good f fewer same-many = (omega (arith, (fewer f).0), (good_as_due check good, (fewer f).1))
    by_test false wrong f fewer same-many = absurd (omega (arith, (same-many f).0))

all_judged : (bad : ℕ) (checks : List Check) → length checks ≡ bad → AllAsDue checks → bad_from bad checks ≡ 0
all_judged bad [] e due = sym e
all_judged bad (check ∷ checks) e due = rw (as_due_good check due.0) (all_judged (bad - 1) checks (omega arith) due.1)

-- none is bad exactly if nine were judged and each came out as it is due
pub none_bad_all_due : (checks : List Check) → length checks ≤ 9 → bad_of checks ≡ 0 → (length checks ≡ 9) × AllAsDue checks
none_bad_all_due checks within e = none_bad 9 checks within e

pub all_due_none_bad : (checks : List Check) → length checks ≡ 9 → AllAsDue checks → bad_of checks ≡ 0
all_due_none_bad checks nine due = all_judged 9 checks nine due

-- the last eleven bytes of a page: as many as `ALL 9 GOOD` has with its line end
abbrev pub ending : List ℕ → List ℕ
ending page = drop (length page - 11) page

ends_so : (a b : List ℕ) → length b ≡ 11 → ending (a ++ b) ≡ b
ends_so a b e = drop_at a b (length (a ++ b) - 11) (omega (arith, length-append a b))

good_ends : (checks : List Check) → bad_of checks ≡ 0 → ending (page_text checks) ≡ ascii "ALL 9 GOOD\n"
good_ends checks e =
    rw (e, ← append_assoc (checks_text 1 checks) good_letters (ascii "ALL 9 GOOD\n"))
    (ends_so (checks_text 1 checks ++ good_letters) (ascii "ALL 9 GOOD\n") refl)

bad_ends : (checks : List Check) → (bad_of checks ≡ 0 → ⊥) → ending (page_text checks) ≡ ascii "OUT NO POD\n"
bad_ends checks h =
    let front = bad_letters ++ decimal_text (bad_of checks) in
    rw (ne_eqb (bad_of checks) 0 h)
    (ap ending (ap (λ (tail : List ℕ). checks_text 1 checks ++ tail) (sym (append_assoc front (ascii " BAD OF 9: HAND ") (ascii "OUT NO POD\n")))
    ∙ sym (append_assoc (checks_text 1 checks) (front ++ ascii " BAD OF 9: HAND ") (ascii "OUT NO POD\n")))
    ∙ ends_so (checks_text 1 checks ++ (front ++ ascii " BAD OF 9: HAND ")) (ascii "OUT NO POD\n") refl)

-- a page that ends with `ALL 9 GOOD` is one of nine checks, each of which came out as it is due; and each such page ends so
pub good_said_all_due : (checks : List Check) → length checks ≤ 9 → ending (page_text checks) ≡ ascii "ALL 9 GOOD\n" → (length checks ≡ 9) × AllAsDue checks
good_said_all_due checks within said = none_bad_all_due checks within (by_test (eqb (bad_of checks) 0) refl)
  where
    by_test : (t : Bool) → eqb (bad_of checks) 0 ≡ t → bad_of checks ≡ 0
    by_test true e = eqb-true (bad_of checks) 0 e
    by_test false e =
        let alike : ascii "OUT NO POD\n" ≡ ascii "ALL 9 GOOD\n" = sym (bad_ends checks (eqb-false (bad_of checks) 0 e)) ∙ said in
        let first : ◌≡◌ {A = ℕ} 79 65 = ap (λ (text : List ℕ). get_or text 0 0) alike in
        absurd (omega arith)

pub all_due_good_said : (checks : List Check) → length checks ≡ 9 → AllAsDue checks → ending (page_text checks) ≡ ascii "ALL 9 GOOD\n"
all_due_good_said checks nine due = good_ends checks (all_due_none_bad checks nine due)
