-- Laws of `event` lines: how their reading goes on, and that a line without `halt` reads as it did before [6].
use Rattle.std.specs.Prelude.{ℕ, ◌≡◌, refl, Bool, true, false, cond, List, [], ◌∷◌, None, Option}
use Rattle.words.specs.LineWords.{ascii, same}
use Rattle.numbers.specs.declared.Numbers.{Numbers}
use Rattle.numbers.specs.declared.Numbers.TheVariants.{Zero}
use Rattle.numbers.specs.Numbers.{numeral, more, gathered, numbers}
use Rattle.board_lines.specs.EventLines.{event_form, halt_line, event_from, event_line}

-- one number more
pub event_goes_on : (before after : Numbers) (n : Option ℕ) (word : List ℕ) (words : List (List ℕ)) → same word (ascii "halt") ≡ false → n ≡ numeral word
    → after ≡ more before n → event_from before (word ∷ words) ≡ event_from after words
event_goes_on before after n word words other read added = rw (other, added, read)

pub event_meets_halt : (before : Numbers) (word : List ℕ) (words : List (List ℕ)) → same word (ascii "halt") ≡ true
    → event_from before (word ∷ words) ≡ halt_line before words
event_meets_halt before word words halt = rw halt

-- no word of these is `halt`
abbrev pub no_halt : List (List ℕ) → Bool
no_halt [] = true
no_halt (word ∷ words) = cond (same word (ascii "halt")) false (no_halt words)

-- "a line without a mark is answered as before": its numbers are read as every line's are
pub unmarked_line : (words : List (List ℕ)) → no_halt words ≡ true → event_line words ≡ event_form (numbers words) None
unfolding event_line
unmarked_line words none = from Zero words none
  where
    from : (before : Numbers) (words : List (List ℕ)) → no_halt words ≡ true → event_from before words ≡ event_form (gathered before words) None
    from before [] none = refl
    from before (word ∷ words) none = by_word (same word (ascii "halt")) none (from (more before (numeral word)) words)
      where
        by_word : (halt : Bool) → cond halt false (no_halt words) ≡ true
            → (no_halt words ≡ true → event_from (more before (numeral word)) words ≡ event_form (gathered (more before (numeral word)) words) None)
            → cond halt (halt_line before words) (event_from (more before (numeral word)) words) ≡ event_form (gathered before (word ∷ words)) None
        by_word true none rest = cc
        by_word false none rest = rest none
