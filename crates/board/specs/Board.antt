-- The board and its parts (01): making a board.
use Rattle.std.specs.Prelude.{ℕ, Bool, true, false, cond, [], ◌∷◌, leb, replicate, ◌≡◌, None, Result, ⊤}
use Rattle.grounds.specs.declared.Ground.{Ground}
use Rattle.grounds.specs.declared.Ground.TheVariants.{WaitTooLarge}
use Rattle.grounds.specs.Grounds.{check, judge, told}
use Rattle.command.specs.Reply.{complete}
use Rattle.board.specs.declared.Board.{Board}
use Rattle.board.specs.declared.Place.{Place}
use Rattle.board.specs.declared.Made.{Made}
use Rattle.board.specs.declared.Phase.{Phase}
use Rattle.board.specs.declared.Phase.TheVariants.{Rest, Due, Waiting, Upper}
use Rattle.board.specs.declared.Chain.TheVariants.{Off}

-- "A fresh board is halted with CSR[BKPT] set, at rest, next reply 0x0FFFF, AATR 0x0005, BAAR 0x05, all else zero"
unfoldable pub fresh_board : ℕ → Board
fresh_board w = record {
  w = w;
  status = record { halted = true; fof = false; trg = false; halt = false; bkpt = true; bstat = 0; sync = false };
  registers = record { general = replicate 16 0; control = replicate 10 0 };
  debug = record { csr = 0; baar = 0x05; aatr = 0x0005; tdr = 0; pbr = 0; pbmr = 0; abhr = 0; ablr = 0; dbr = 0; dbmr = 0 };
  fault = None;
}

unfoldable pub fresh_place : Place
fresh_place = record { phase = Rest; chain = Off; pointer = 0; next = complete }

-- "at rest"
abbrev pub at_rest : Phase → Bool
at_rest Rest = true
at_rest (Due c left taken) = false
at_rest (Waiting c left address value) = false
at_rest (Upper low) = false

-- "A board is made with a wait setting W from 0 to 15." "Order: making 2"
abbrev pub making_verdict : ℕ → Result ⊤ Ground
making_verdict w = judge (check (leb w 15) WaitTooLarge ∷ [])

-- what stands in where making is refused is the board of W = 0
abbrev pub setting_made : ℕ → ℕ
setting_made w = cond (leb w 15) w 0

-- the promise of making
pub record MakingMeets (w : ℕ) (r : Made) : Type 0 where
  pub answer : told r.verdict ≡ told (making_verdict w)
  pub board : r.board ≡ fresh_board (setting_made w)
  pub place : r.place ≡ fresh_place
