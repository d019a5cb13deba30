-- Laws of a comparator that drops out, its lanes not all being carried ([1] of 02).
use Rattle.std.specs.Prelude.{ℕ, ◌≡◌, Bool, true, false, cond, ◌&&◌, eqb}
use Rattle.std.proofs.Common.{sym, ne_eqb}
use Rattle.std.proofs.Math.Bool.{and-false, or-true}
use Rattle.laws.specs.TestLaws.{by_test}
use Rattle.board.specs.declared.Debug.{Debug}
use Rattle.comparators.specs.declared.BusAccess.{BusAccess}
use Rattle.comparators.specs.declared.Level.{Level}
use Rattle.comparators.specs.Lanes.{carries_all}
use Rattle.comparators.specs.Comparators.{Ed, lanes_of, comparator, some_set, data_enabled, data_holds}
use Rattle.comparators.specs.Comparators.Ed.{EDLW, EDWL, EDWU, EDLL, EDLM, EDUM, EDUU}

-- the bit of level 1 in TDR that sets a comparator
abbrev pub bit_of : Ed → ℕ
bit_of EDLW = 12
bit_of EDWL = 11
bit_of EDWU = 10
bit_of EDLL = 9
bit_of EDLM = 8
bit_of EDUM = 7
bit_of EDUU = 6

abbrev pub is_set : Ed → Level → Bool
is_set EDLW level = level.edlw
is_set EDWL level = level.edwl
is_set EDWU level = level.edwu
is_set EDLL level = level.edll
is_set EDLM level = level.edlm
is_set EDUM level = level.edum
is_set EDUU level = level.eduu

-- the level with that ED bit clear
abbrev pub without : Ed → Level → Level
without c level = record {
  t = level.t;
  ebl = level.ebl;
  edlw = kept EDLW level.edlw;
  edwl = kept EDWL level.edwl;
  edwu = kept EDWU level.edwu;
  edll = kept EDLL level.edll;
  edlm = kept EDLM level.edlm;
  edum = kept EDUM level.edum;
  eduu = kept EDUU level.eduu;
  di = level.di;
  eai = level.eai;
  ear = level.ear;
  eal = level.eal;
  epc = level.epc;
  pci = level.pci;
}
  where
    kept : Ed → Bool → Bool
    kept other set = cond (eqb (bit_of c) (bit_of other)) false set

-- it neither agrees nor, with DI, disagrees
pub dropped_never_holds : (lanes : ℕ) (di : Bool) (d : Debug) (access : BusAccess) → carries_all lanes access ≡ false → comparator lanes di d access ≡ false
unfolding comparator
dropped_never_holds lanes di d access dropped = rw dropped

-- a comparator that does not hold might as well not be set
some_set_without : (c : Ed) (level : Level) (holds : Ed → Bool) → holds c ≡ false → some_set (without c level) holds ≡ some_set level holds
unfolding some_set
some_set_without EDLW level holds none = rw (none, and-false level.edlw)
some_set_without EDWL level holds none = rw (none, and-false level.edwl)
some_set_without EDWU level holds none = rw (none, and-false level.edwu)
some_set_without EDLL level holds none = rw (none, and-false level.edll)
some_set_without EDLM level holds none = rw (none, and-false level.edlm)
some_set_without EDUM level holds none = rw (none, and-false level.edum)
some_set_without EDUU level holds none = rw (none, and-false level.eduu)

pub one_enables : (c : Ed) (level : Level) → is_set c level ≡ true → data_enabled level ≡ true
unfolding data_enabled
one_enables EDLW level set = rw set
one_enables EDWL level set = rw (set, or-true)
one_enables EDWU level set = rw (set, or-true)
one_enables EDLL level set = rw (set, or-true)
one_enables EDLM level set = rw (set, or-true)
one_enables EDUM level set = rw (set, or-true)
one_enables EDUU level set = rw (set, or-true)

another_stays : (c other : Ed) (level : Level) → (bit_of c ≡ bit_of other → ⊥) → is_set other level ≡ true → is_set other (without c level) ≡ true
another_stays c EDLW level apart set = rw (ne_eqb _ _ apart, set)
another_stays c EDWL level apart set = rw (ne_eqb _ _ apart, set)
another_stays c EDWU level apart set = rw (ne_eqb _ _ apart, set)
another_stays c EDLL level apart set = rw (ne_eqb _ _ apart, set)
another_stays c EDLM level apart set = rw (ne_eqb _ _ apart, set)
another_stays c EDUM level apart set = rw (ne_eqb _ _ apart, set)
another_stays c EDUU level apart set = rw (ne_eqb _ _ apart, set)

-- as long as another ED bit is set, the data hold exactly as with this one clear
pub dropped_is_clear : (c other : Ed) (level : Level) (d : Debug) (access : BusAccess) → carries_all (lanes_of c) access ≡ false
    → (bit_of c ≡ bit_of other → ⊥) → is_set other level ≡ true → data_holds level d access ≡ data_holds (without c level) d access
dropped_is_clear c other level d access dropped apart set =
    rw (one_enables other level set, one_enables other (without c level) (another_stays c other level apart set))
    (sym (some_set_without c level (λ (e : Ed). comparator (lanes_of e) level.di d access) (dropped_never_holds (lanes_of c) level.di d access dropped)))

-- "If every set comparator drops out, the data condition fails.": one of them is set
pub all_dropped_fails : (one : Ed) (level : Level) (d : Debug) (access : BusAccess) → is_set one level ≡ true
    → ((c : Ed) → is_set c level ≡ true → carries_all (lanes_of c) access ≡ false) → data_holds level d access ≡ false
unfolding some_set
all_dropped_fails one level d access set dropped =
    rw (one_enables one level set, none EDLW, none EDWL, none EDWU, none EDLL, none EDLM, none EDUM, none EDUU)
  where
    none : (c : Ed) → (is_set c level && comparator (lanes_of c) level.di d access) ≡ false
    none c =
        by_test (is_set c level) (λ p. rw (dropped_never_holds (lanes_of c) level.di d access (dropped c p), and-false (is_set c level))) (λ p. rw p)
