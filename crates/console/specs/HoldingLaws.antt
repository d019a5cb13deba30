-- Laws of what is held of a line: all of it where it has room, and its kind where it has not.
use Rattle.std.specs.Prelude.{ℕ, suc, ◌+◌, ◌-◌, ◌<◌, ◌≤◌, ◌≡◌, refl, Bool, cond, List, [], ◌∷◌, ◌++◌, leb, length, get_or, set, take, drop}
use Rattle.std.proofs.Common.{arith, add-one, ap, sym, ◌∙◌, append-nil, length-append, take-append-drop, drop_of_length-le, length-take-le}
use Rattle.std.proofs.Common.{take-suc-set, drop-drop}
use Rattle.std.proofs.Math.Bool.{true, false}
use Rattle.std.proofs.Math.ListN.{length-set}
use Rattle.std.proofs.Math.Seq.{append_snoc, take_all, split_at}
use Rattle.std.proofs.lemmas.List.{set_split}
use borrow.Author.Tests.{lt-ltb, le-ltb, lt-leb, leb-true, leb-false}
use Rattle.words.specs.LineWords.{is_gap, is_silent, kind_of}
use Rattle.console.specs.Holding.{held, held_on, held_of}

held_room : (room : ℕ) (before : List ℕ) (byte : ℕ) → length before < room → held room before byte ≡ before ++ byte ∷ []
unfolding held
held_room room before byte h = rw (lt-ltb (length before) room h)

pub held_on_room : (room : ℕ) (before bytes : List ℕ) → length before + length bytes ≤ room → held_on room before bytes ≡ before ++ bytes
held_on_room room before [] h = sym (append-nil before)
held_on_room room before (byte ∷ bytes) h =
    let one = held_room room before byte (omega arith) in
    rw one (held_on_room room (before ++ byte ∷ []) bytes (simp length-append (omega arith)) ∙ append_snoc before byte bytes)

pub held_all : (room : ℕ) (line : List ℕ) → length line ≤ room → held_of room line ≡ line
held_all room line h = held_on_room room [] line (omega arith)

pub held_on_both : (room : ℕ) (before bytes more : List ℕ) → held_on room before (bytes ++ more) ≡ held_on room (held_on room before bytes) more
held_on_both room before [] more = refl
held_on_both room before (byte ∷ bytes) more = held_on_both room (held room before byte) bytes more

-- what lies behind so many bytes is as it was; so is what lies behind more of them
pub further : (had more : ℕ) (buffer before : List ℕ) → had ≤ more → drop had buffer ≡ drop had before → drop more buffer ≡ drop more before
further had more buffer before h e =
    let on : more ≡ had + (more - had) = omega arith in
    rw on (sym (drop-drop (more - had) had buffer) ∙ ap (drop (more - had)) e ∙ drop-drop (more - had) had before)

-- one byte more, in a buffer of which so many bytes are held
pub hold_room : (line : List ℕ) (before byte : ℕ) → before < length line → take (before + 1) (set line before byte) ≡ held (length line) (take before line) byte
hold_room line before byte h =
    let size = length-take-le before line (omega arith) in
    rw (add-one before, held_room (length line) (take before line) byte (omega arith)) (take-suc-set line before byte h)

module _ (line : List ℕ) (before byte : ℕ) (full : before ≡ length line) where
  pub hold_gap : is_gap (get_or line (before - 1) 0) ≡ true → take before (set line (before - 1) byte) ≡ held (length line) (take before line) byte
  unfolding held
  hold_gap e =
      let size = length-set line (before - 1) byte in
      let gap : is_gap (get_or line (length line - 1) 0) ≡ true = rw full at e in
      take_all before (set line (before - 1) byte) (omega arith)
      ∙ rw (take_all before line (omega arith), le-ltb (length line) (length line) (omega arith), gap, full)

  pub hold_none : is_gap (get_or line (before - 1) 0) ≡ false → take before line ≡ held (length line) (take before line) byte
  unfolding held
  hold_none e =
      let other : is_gap (get_or line (length line - 1) 0) ≡ false = rw full at e in
      rw (take_all before line (omega arith), le-ltb (length line) (length line) (omega arith), other)

-- a buffer without room
pub hold_nothing : (line : List ℕ) (before byte : ℕ) → before ≡ length line → before ≡ 0 → take before line ≡ held (length line) (take before line) byte
unfolding is_gap
hold_nothing [] before byte full none = hold_none [] before byte full refl
hold_nothing (first ∷ line) before byte full none = absurd (omega arith)

-- a full buffer stays full
held_full : (room : ℕ) (before : List ℕ) (byte : ℕ) → length before ≡ room → length (held room before byte) ≡ room
unfolding held
held_full room before byte h = rw (le-ltb (length before) room (omega arith)) (by_test (is_gap (get_or before (length before - 1) 0)))
  where
    by_test : (t : Bool) → length (cond t (set before (length before - 1) byte) before) ≡ room
    by_test true = simp length-set h
    by_test false = h

held_on_full : (room : ℕ) (before bytes : List ℕ) → length before ≡ room → length (held_on room before bytes) ≡ room
held_on_full room before [] h = h
held_on_full room before (byte ∷ bytes) h = held_on_full room (held room before byte) bytes (held_full room before byte h)

-- whether a line is silent hangs on its first byte that is no space or tab
silent_gap : (before : List ℕ) (gap : ℕ) (after : List ℕ) → is_gap gap ≡ true → is_silent (before ++ gap ∷ after) ≡ is_silent (before ++ after)
silent_gap [] gap after e = rw e
silent_gap (byte ∷ before) gap after e = rw (silent_gap before gap after e)

silent_other : (before : List ℕ) (other : ℕ) (after after' : List ℕ) → is_gap other ≡ false
    → is_silent (before ++ other ∷ after) ≡ is_silent (before ++ other ∷ after')
silent_other [] other after after' e = rw e
silent_other (byte ∷ before) other after after' e = rw (silent_other before other after after' e)

-- a list by its last byte
last_split : (line : List ℕ) → 0 < length line → line ≡ take (length line - 1) line ++ get_or line (length line - 1) 0 ∷ []
last_split line h =
    let none : drop (suc (length line - 1)) line ≡ [] = drop_of_length-le line {i = suc (length line - 1)} (omega arith) in
    rw none at (split_at line (length line - 1) 0 (omega arith))

last_set : (line : List ℕ) (byte : ℕ) → 0 < length line → set line (length line - 1) byte ≡ take (length line - 1) line ++ byte ∷ []
last_set line byte h =
    let none : drop (suc (length line - 1)) line ≡ [] = drop_of_length-le line {i = suc (length line - 1)} (omega arith) in
    rw none at (set_split line (length line - 1) byte (omega arith))

silent_full : (room : ℕ) (before : List ℕ) (byte : ℕ) (more : List ℕ) → 0 < room → length before ≡ room
    → is_silent (held room before byte ++ more) ≡ is_silent (before ++ byte ∷ more)
unfolding held
silent_full room before byte more some h =
    rw (le-ltb (length before) room (omega arith)) (by_test (is_gap (get_or before (length before - 1) 0)) refl)
  where
    front : List ℕ
    front = take (length before - 1) before

    last : ℕ
    last = get_or before (length before - 1) 0

    whole : before ++ byte ∷ more ≡ front ++ last ∷ byte ∷ more
    whole = ap (λ (l : List ℕ). l ++ byte ∷ more) (last_split before (omega arith)) ∙ append_snoc front last (byte ∷ more)

    by_test : (t : Bool) → is_gap last ≡ t → is_silent (cond t (set before (length before - 1) byte) before ++ more) ≡ is_silent (before ++ byte ∷ more)
    by_test true e =
        ap is_silent (ap (λ (l : List ℕ). l ++ more) (last_set before byte (omega arith)) ∙ append_snoc front byte more)
        ∙ sym (ap is_silent whole ∙ silent_gap front last (byte ∷ more) e)
    by_test false e =
        ap is_silent (ap (λ (l : List ℕ). l ++ more) (last_split before (omega arith)) ∙ append_snoc front last more)
        ∙ silent_other front last more (byte ∷ more) e
        ∙ sym (ap is_silent whole)

silent_on_full : (room : ℕ) (before bytes : List ℕ) → 0 < room → length before ≡ room → is_silent (held_on room before bytes) ≡ is_silent (before ++ bytes)
silent_on_full room before [] some h = ap is_silent (sym (append-nil before))
silent_on_full room before (byte ∷ bytes) some h =
    silent_on_full room (held room before byte) bytes some (held_full room before byte h) ∙ silent_full room before byte bytes some h

-- a buffer of more than 4,096 bytes holds enough of a line to tell its kind
pub kind_held : (room : ℕ) (line : List ℕ) → 4096 < room → kind_of (held_of room line) ≡ kind_of line
unfolding kind_of
kind_held room line some = by_test (leb (length line) room) refl
  where
    by_test : (t : Bool) → leb (length line) room ≡ t → kind_of (held_of room line) ≡ kind_of line
    by_test true e = ap kind_of (held_all room line (leb-true (length line) room e))
    by_test false e =
        let more : room < length line = leb-false (length line) room e in
        let front : length (take room line) ≡ room = length-take-le room line (omega arith) in
        let cut : held_of room line ≡ held_on room (take room line) (drop room line) =
        ap (held_of room) (sym (take-append-drop room line)) ∙ held_on_both room [] (take room line) (drop room line)
        ∙ ap (λ (l : List ℕ). held_on room l (drop room line)) (held_all room (take room line) (omega arith)) in
        let size : length (held_of room line) ≡ room = ap length cut ∙ held_on_full room (take room line) (drop room line) front in
        let silent : is_silent (held_of room line) ≡ is_silent line =
        ap is_silent cut ∙ silent_on_full room (take room line) (drop room line) (omega arith) front ∙ ap is_silent (take-append-drop room line) in
        rw (silent, lt-leb (length (held_of room line)) 4096 (omega (arith, size)), lt-leb (length line) 4096 (omega arith))
