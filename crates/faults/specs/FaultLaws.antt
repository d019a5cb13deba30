-- [4] Laws of the number that the board keeps: which word is NOP's, and which work sets it.
use Rattle.std.specs.Prelude.{ℕ, ◌/◌, ◌%◌, ◌≡◌, refl, Bool, true, false, cond, not, ◌&&◌, ◌||◌, List, [], ◌∷◌, eqb, Option, Some}
use Rattle.std.proofs.Common.{sym, ap, true≢false, eqb-true}
use Rattle.laws.specs.TestLaws.{by_test, both_hold}
use Rattle.memory.specs.declared.Size.{Size}
use Rattle.memory.specs.Memory.{present, first_missing, fetched, reach}
use Rattle.command.specs.declared.Command.{Command}
use Rattle.command.specs.declared.Command.TheVariants.{Unknown, Nop, Load, Store, Show, Change}
use Rattle.command.specs.declared.Base.{Base}
use Rattle.command.specs.Command.{Row, rdreg, wdreg, nop, table, looked_up, decoded_word, decoded}
use Rattle.board.specs.declared.Board.{Board}
use Rattle.access.specs.Access.{start_of, access_of}
use Rattle.work.specs.declared.Ending.{Ending}
use Rattle.work.specs.declared.Ending.TheVariants.{Complete, Failed, OneWord, TwoWords}
use Rattle.access.specs.declared.Access.TheVariants.{NoAccess}
use Rattle.work.specs.Work.{ending_of}
use Rattle.faults.specs.Fault.{is_nop, fault_after}

-- ---- NOP by the table: 0x0000 and no other word
abbrev pub is_nop_command : Command → Bool
is_nop_command Unknown = false
is_nop_command Nop = true
is_nop_command (Load size base) = false
is_nop_command (Store size base) = false
is_nop_command (Show source) = false
is_nop_command (Change target) = false

-- of the rows only that of 0x0000 is NOP
abbrev only_zero : List Row → Bool
only_zero [] = true
only_zero (r ∷ rs) = (is_nop r.word || not (is_nop_command r.command)) && only_zero rs

looked_up_nop : (w : ℕ) (rows : List Row) → only_zero rows ≡ true → is_nop_command (looked_up w rows) ≡ true → is_nop w ≡ true
looked_up_nop w [] h e = absurd (true≢false (sym e))
looked_up_nop w (r ∷ rs) h e =
    let both = both_hold (is_nop r.word || not (is_nop_command r.command)) (only_zero rs) h in
    by_test (eqb w r.word)
    (λ t. rw (eqb-true w r.word t) (zero (is_nop r.word) (is_nop_command r.command) both.0 (rw t at e)))
    (λ t. looked_up_nop w rs both.1 (rw t at e))
  where
    zero : (x y : Bool) → (x || not y) ≡ true → y ≡ true → x ≡ true
    zero true y f g = refl
    zero false true f g = f
    zero false false f g = g

pub only_nop : (word : ℕ) → decoded word ≡ nop → is_nop word ≡ true
unfolding decoded decoded_word
only_nop word e = ranges (eqb (word / 16) 0x218) (eqb (word / 16) 0x208) (ap is_nop_command e)
  where
    ranges : (x y : Bool) → is_nop_command (cond x (rdreg (word % 16)) (cond y (wdreg (word % 16)) (looked_up word table))) ≡ true → is_nop word ≡ true
    ranges true y f = absurd (true≢false (sym f))
    ranges false true f = absurd (true≢false (sym f))
    ranges false false f = looked_up_nop word table refl f

pub nop_is_known : (word : ℕ) → is_nop word ≡ true → decoded word ≡ nop
unfolding decoded decoded_word
nop_is_known word e = rw (eqb-true word 0 e)

-- ---- the work
-- a command that makes no access to memory, a control register's among them, keeps none of its own
pub no_access_keeps_none : (e : Ending) (f : Option ℕ) → fault_after e NoAccess f ≡ f
no_access_keeps_none Complete f = refl
no_access_keeps_none Failed f = refl
no_access_keeps_none (OneWord v) f = refl
no_access_keeps_none (TwoWords v) f = refl

-- READ, WRITE, DUMP and FILL keep the lowest address of their access that is not there
module _ (size : Size) (base : Base) (b : Board) (m : List ℕ) (pointer address : ℕ) (f : Option ℕ)
    (short : present m size (start_of base pointer address) ≡ false) where
  -- a bus error, and the number
  abbrev pub KeepsLowest : Command → Type 0
  KeepsLowest c =
      (ending_of c b address (access_of c m pointer address) ≡ Failed)
      × (fault_after (ending_of c b address (access_of c m pointer address)) (access_of c m pointer address) f
      ≡ Some (first_missing m size (start_of base pointer address)))

  pub load_keeps : KeepsLowest (Load size base)
  unfolding fetched
  load_keeps = rw short (refl, refl)

  pub store_keeps : KeepsLowest (Store size base)
  unfolding reach
  store_keeps = rw short (refl, refl)
