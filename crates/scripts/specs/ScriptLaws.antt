-- Laws of a script: line by line, and what is put behind what was put.
use Rattle.std.specs.Prelude.{ℕ, suc, ◌+◌, ◌-◌, ◌≤◌, ◌<◌, ◌≡◌, refl, Bool, true, false, cond, List, [], ◌∷◌, ◌++◌, eqb, leb, length, get_or, take, drop}
use Rattle.std.proofs.Common.{ap, sym, ◌∙◌, append_assoc, arith, suc-add, length-take, length-drop, drop_of_length-le, drop-drop, take_all, eq-eqb}
use Rattle.std.proofs.Common.{ne_eqb, leb-true, leb-false}
use Rattle.std.proofs.Math.Seq.{take-length}
use Rattle.words.specs.LineWords.{joined}
use Rattle.words.specs.LineWordLaws.{from_here}
use Rattle.text.specs.Text.{Puts}
use Rattle.text.specs.TextLaws.{◌then◌, nothing}
use Rattle.text.specs.TextPartLaws.{puts_in_rest, ends_inside}
use Rattle.answers.specs.declared.Bench.{Bench}
use Rattle.answers.specs.Bench.{Left, left}
use Rattle.scripts.specs.declared.Gone.{Gone}
use Rattle.scripts.specs.Script.{lines, line_length, answer_to, left_by, line_leaves, line_shows, leaves, shows, gap, parted_after, shown_after, room, Went}

-- a line ends at its line end, or where the script does
pub line_stops : (script : List ℕ) (i : ℕ) → i < length script → get_or script i 0 ≡ 10 → line_length (drop i script) ≡ 0
line_stops script i h e = rw (from_here script i h, e)

pub line_goes_on : (script : List ℕ) (i : ℕ) → i < length script → (get_or script i 0 ≡ 10 → ⊥)
    → line_length (drop i script) ≡ suc (line_length (drop (i + 1) script))
line_goes_on script i h e = rw (from_here script i h, ne_eqb _ _ e)

pub line_out : (script : List ℕ) (i : ℕ) → length script ≤ i → line_length (drop i script) ≡ 0
line_out script i h = rw (drop_of_length-le script h)

line_within : (bytes : List ℕ) → line_length bytes ≤ length bytes
line_within [] = omega arith
line_within (byte ∷ bytes) = by_test (line_within bytes) (eqb byte 10)
  where
    by_test : line_length bytes ≤ length bytes → (t : Bool) → cond t 0 (suc (line_length bytes)) ≤ suc (length bytes)
    by_test h true = omega arith
    by_test h false = omega arith

pub line_end_within : (script : List ℕ) (from end : ℕ) → from ≤ length script → end ≡ from + line_length (drop from script) → end ≤ length script
line_end_within script from end h e = omega (arith, line_within (drop from script), length-drop from script)

-- the first line, and the lines after it
lines_cut : (byte : ℕ) (bytes : List ℕ)
    → lines (byte ∷ bytes) ≡ take (line_length (byte ∷ bytes)) (byte ∷ bytes) ∷ lines (drop (line_length (byte ∷ bytes) + 1) (byte ∷ bytes))
lines_cut byte [] = by_test (eqb byte 10)
  where
    by_test : (t : Bool) → cond t ([] ∷ lines []) (joined byte (lines []))
        ≡ take (cond t 0 (suc 0)) (byte ∷ []) ∷ lines (drop (cond t 0 (suc 0) + 1) (byte ∷ []))
    by_test true = refl
    by_test false = refl
lines_cut byte (next ∷ bytes) = by_test (lines_cut next bytes) (eqb byte 10)
  where
    by_test : lines (next ∷ bytes) ≡ take (line_length (next ∷ bytes)) (next ∷ bytes) ∷ lines (drop (line_length (next ∷ bytes) + 1) (next ∷ bytes))
        → (t : Bool)
        → cond t ([] ∷ lines (next ∷ bytes)) (joined byte (lines (next ∷ bytes)))
        ≡ take (cond t 0 (suc (line_length (next ∷ bytes)))) (byte ∷ next ∷ bytes)
        ∷ lines (drop (cond t 0 (suc (line_length (next ∷ bytes))) + 1) (byte ∷ next ∷ bytes))
    by_test h true = refl
    by_test h false = rw (h, suc-add (line_length (next ∷ bytes)) 1)

pub lines_on : (script : List ℕ) (from end : ℕ) → from < length script → end ≡ from + line_length (drop from script)
    → lines (drop from script) ≡ take (end - from) (drop from script) ∷ lines (drop (end + 1) script)
lines_on script from end h e =
    let k : end - from ≡ line_length (drop from script) = omega arith in
    let f : end + 1 ≡ from + (line_length (drop from script) + 1) = omega arith in
    rw (k, f, ← drop-drop (line_length (drop from script) + 1) from script)
    (rw (from_here script from h) (lines_cut (get_or script from 0) (drop (from + 1) script)))

-- texts parted, and more of them
parted_more : (shown : Bool) (a b : List (List ℕ)) → parted_after shown (a ++ b) ≡ parted_after shown a ++ parted_after (shown_after shown a) b
parted_more shown [] b = refl
parted_more shown (text ∷ a) b = rw (parted_more true a b, shown_true a) (sym (append_assoc (gap shown ++ text) (parted_after true a) (parted_after true b)))
  where
    shown_true : (a : List (List ℕ)) → shown_after true a ≡ true
    shown_true [] = refl
    shown_true (text ∷ a) = refl

shown_more : (shown : Bool) (a b : List (List ℕ)) → shown_after (shown_after shown a) b ≡ shown_after shown (a ++ b)
shown_more shown [] b = refl
shown_more shown (text ∷ a) [] = refl
shown_more shown (text ∷ a) (next ∷ b) = refl

-- lines taken, and lines after them
pub went_on : {ts us : List (List ℕ)} {l l' : Left} {g r r' : Gone} {text text' text'' m m' : List ℕ}
    → Went ts l g text r text' m → Went us l' r text' r' text'' m' → Went (ts ++ us) l' g text r' text'' m'
went_on {ts} {us} {g = g} p q =
    record {
      stands = q.stands;
      puts = rw (parted_more g.shown ts us) (p.puts then (rw p.some at q.puts));
      some = q.some ∙ rw p.some (shown_more g.shown ts us);
    }

-- an answer shown behind what was shown
pub went_shown : {gone : Gone} {bench : Bench} {l : Left} {text text₁ a said m : List ℕ} {at end : ℕ} → gone.end ≤ length text
    → left bench m ≡ l → Puts text gone.end (gap gone.shown) text₁ at → Puts (take (length text₁ - at) (drop at text₁)) 0 said a end
    → Went (said ∷ []) l gone text (record { bench = bench; end = at + end; shown = true }) (take at text₁ ++ (a ++ drop (length text₁ - at) (drop at text₁))) m
went_shown h stands p q = record { stands = stands; puts = p then (puts_in_rest (ends_inside h p) q) then (nothing _ _); some = refl }

-- a line's mark, and the rest of the line
abbrev rest : List ℕ → List ℕ
rest line = take (length line - 1) (drop 1 line)

behind_mark : (line : List ℕ) → (length line ≡ 0 → ⊥) → line ≡ get_or line 0 0 ∷ rest line
behind_mark [] h = absurd (h refl)
behind_mark (byte ∷ bytes) h = let k : suc (length bytes) - 1 ≡ length bytes = omega arith in rw (k, take-length bytes)

pub no_mark : (line : List ℕ) (l : Left) → length line ≡ 0 → (line_shows line l ≡ []) × (line_leaves line l ≡ l)
unfolding line_shows line_leaves
no_mark [] l e = (refl, refl)
no_mark (byte ∷ bytes) l e = absurd (omega arith)

pub shown_mark : (line : List ℕ) (l : Left) → (length line ≡ 0 → ⊥) → get_or line 0 0 ≡ 43
    → (line_shows line l ≡ answer_to (rest line) l ∷ []) × (line_leaves line l ≡ left_by (rest line) l)
unfolding line_shows line_leaves
shown_mark line l h e = (
  ap (λ (whole : List ℕ). line_shows whole l) (behind_mark line h) ∙ rw (eq-eqb (get_or line 0 0) 43 e),
  ap (λ (whole : List ℕ). line_leaves whole l) (behind_mark line h),
)

pub other_mark : (line : List ℕ) (l : Left) → (length line ≡ 0 → ⊥) → (get_or line 0 0 ≡ 43 → ⊥)
    → (line_shows line l ≡ []) × (line_leaves line l ≡ left_by (rest line) l)
unfolding line_shows line_leaves
other_mark line l h e = (
  ap (λ (whole : List ℕ). line_shows whole l) (behind_mark line h) ∙ rw (ne_eqb (get_or line 0 0) 43 e),
  ap (λ (whole : List ℕ). line_leaves whole l) (behind_mark line h),
)

pub went_nowhere : (gone : Gone) (text m : List ℕ) → Went [] (left gone.bench m) gone text gone text m
went_nowhere gone text m = record { stands = refl; puts = nothing text gone.end; some = refl }

-- whatever a script comes to from one of its lines on, the whole of it comes to
abbrev pub Rests : List ℕ → Gone → List ℕ → List ℕ → ℕ → Gone → List ℕ → List ℕ → Type 0
Rests script gone₀ text₀ m₀ from gone text m =
    (r : Gone) (text' m' : List ℕ)
    → Went (shows (lines (drop from script)) (left gone.bench m)) (leaves (lines (drop from script)) (left gone.bench m)) gone text r text' m'
    → Went (shows (lines script) (left gone₀.bench m₀)) (leaves (lines script) (left gone₀.bench m₀)) gone₀ text₀ r text' m'

module _ (script : List ℕ) (gone₀ : Gone) (text₀ m₀ : List ℕ) where
  pub rests_on : (from end : ℕ) (gone : Gone) (m : List ℕ) {r : Gone} {text text' m' : List ℕ} → from < length script
      → end ≡ from + line_length (drop from script) → Rests script gone₀ text₀ m₀ from gone text m
      → Went (line_shows (take (end - from) (drop from script)) (left gone.bench m))
      (line_leaves (take (end - from) (drop from script)) (left gone.bench m))
      gone text r text' m'
      → Rests script gone₀ text₀ m₀ (end + 1) r text' m'
  unfolding shows leaves
  rests_on from end gone m h e all went r' text'' m'' more =
      all r' text'' m'' (rw (lines_on script from end h e) (went_on went (rw went.stands at more)))

  pub rests_out : (from : ℕ) (gone : Gone) (text m : List ℕ) → length script ≤ from → Rests script gone₀ text₀ m₀ from gone text m
      → Went (shows (lines script) (left gone₀.bench m₀)) (leaves (lines script) (left gone₀.bench m₀)) gone₀ text₀ gone text m
  unfolding shows leaves
  rests_out from gone text m h all = all gone text m (rw (drop_of_length-le script h) (went_nowhere gone text m))

-- what came out is cut where its room ends; that is what is due, where it has room, exactly if all of it is
pub whole_as_due : (due text : List ℕ) → length due < room → take room text ≡ due → text ≡ due
whole_as_due due text h e = by_room (leb (length text) room) refl
  where
    by_room : (fits : Bool) → leb (length text) room ≡ fits → text ≡ due
    by_room true f = sym (take_all room text (leb-true (length text) room f)) ∙ e
    by_room false f = absurd (omega (arith, ap length e, length-take room text, leb-false (length text) room f))

pub as_due_cut : (due text : List ℕ) → length due < room → text ≡ due → take room text ≡ due
as_due_cut due text h e = rw e (take_all room due (omega arith))
