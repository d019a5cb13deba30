-- Demand 3, closing replies: the operands that the port holds, against those that a command word was sent.
use Rattle.std.specs.Prelude.{ℕ, ◌≤◌, ◌≡◌, refl, Bool, true, false, ◌||◌, List, [], ◌∷◌, ◌++◌, length}
use Rattle.std.proofs.Common.{arith}
use Rattle.command.specs.declared.Command.{Command}
use Rattle.command.specs.Command.{fill, operand_words}
use Rattle.command.specs.CommandLaws.{four_at_most, only_fill_has_one}
use Rattle.board.specs.declared.Operands.{Operands}
use Rattle.board.specs.declared.Board.{Board}
use Rattle.access.specs.Access.{access_of}
use Rattle.work.specs.Work.{ending_of}
use Rattle.plan.specs.Plan.{carries_c, no_operands, with_operand, address_in}
use Rattle.promises.specs.TakenWords.{any_c, address_sent}

-- the operand words as the port holds them, the last four
abbrev pub held : Operands → List ℕ → Operands
held t [] = t
held t (d ∷ ds) = held (with_operand t d) ds

pub held_end : (t : Operands) (ds : List ℕ) (d : ℕ) → held t (ds ++ (d ∷ [])) ≡ with_operand (held t ds) d
held_end t [] d = refl
held_end t (x ∷ ds) d = held_end (with_operand t x) ds d

-- an operand with C, at the end of some without
or_none : (a : Bool) → (a || false) ≡ a
or_none true = refl
or_none false = refl

or_after : (a b c d : Bool) → (a || b) ≡ false → (b ≡ false → c ≡ d) → (a || c) ≡ d
or_after true b c d h f = let z : true ≡ false = h in cc
or_after false b c d h f = f h

pub any_c_end : (ds : List ℕ) (d : ℕ) → any_c ds ≡ false → any_c (ds ++ (d ∷ [])) ≡ carries_c d
any_c_end [] d h = or_none (carries_c d)
any_c_end (x ∷ ds) d h = or_after (carries_c x) (any_c ds) (any_c (ds ++ (d ∷ []))) (carries_c d) h (any_c_end ds d)

-- the address among two to four words held is the one sent
address_held : (ds : List ℕ) → 2 ≤ length ds → length ds ≤ 4 → address_in (length ds) (held no_operands ds) ≡ address_sent ds
address_held [] l h = absurd (omega arith)
address_held (a ∷ []) l h = absurd (omega arith)
address_held (a ∷ b ∷ []) l h = refl
address_held (a ∷ b ∷ c ∷ []) l h = refl
address_held (a ∷ b ∷ c ∷ d ∷ []) l h = refl
address_held (a ∷ b ∷ c ∷ d ∷ e ∷ ds) l h = absurd (omega arith)

-- FILL's work looks at no address
alone : (c : Command) (b : Board) (m : List ℕ) (pointer x y : ℕ) → operand_words c ≡ 1
    → ending_of c b x (access_of c m pointer x) ≡ ending_of c b y (access_of c m pointer y)
alone c b m pointer x y h = let is-fill : c ≡ fill (only_fill_has_one c h).0 = (only_fill_has_one c h).1 in rw is-fill

-- what the work ends in is the same of the address that the port holds and of the one sent
pub ending_sent : (c : Command) (b : Board) (m : List ℕ) (pointer : ℕ) (ds : List ℕ) → length ds ≡ operand_words c
    → ending_of c b (address_in (operand_words c) (held no_operands ds)) (access_of c m pointer (address_in (operand_words c) (held no_operands ds)))
    ≡ ending_of c b (address_sent ds) (access_of c m pointer (address_sent ds))
ending_sent c b m pointer [] h = rw (← h)
ending_sent c b m pointer (d ∷ []) h = alone c b m pointer (address_in (operand_words c) (held no_operands (d ∷ []))) 0 (omega arith)
ending_sent c b m pointer (d ∷ e ∷ ds) h = rw (← h, address_held (d ∷ e ∷ ds) (omega arith) (omega (arith, four_at_most c)))
