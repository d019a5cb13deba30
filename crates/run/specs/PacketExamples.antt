-- What the desk checks by eye (01): the words sent and the replies due of P1, P2, P3, P6, P7 and P8, computed from the definitions. The numbers are
-- 01's own, and by no name, so that the names are tried too.
use Rattle.std.specs.Prelude.{ℕ, ◌≡◌, refl, List, [], ◌∷◌}
use Rattle.memory.specs.Memory.{fetched, stored, reach}
use Rattle.command.specs.Command.{decoded, decoded_word}
use Rattle.board.specs.Board.{fresh_board, fresh_place}
use Rattle.board.specs.State.{State, state_of}
use Rattle.csr.specs.Csr.{csr_value, bstat_read}
use Rattle.plan.specs.Plan.{work_after, collected, begun, continued}
use Rattle.step.specs.Step.{plan_for, reply_now, stepped}
use Rattle.run.specs.Run.{ran, replies}

-- a fresh board over some memory
abbrev fresh : ℕ → List ℕ → State
fresh w m = state_of (fresh_board w) fresh_place m

-- "memory 00 to 0F"
abbrev pub sixteen : List ℕ
sixteen = 0 ∷ 1 ∷ 2 ∷ 3 ∷ 4 ∷ 5 ∷ 6 ∷ 7 ∷ 8 ∷ 9 ∷ 10 ∷ 11 ∷ 12 ∷ 13 ∷ 14 ∷ 15 ∷ []

-- "P1: W=1, memory 00 to 0F, fresh. Inputs .. reply .."
abbrev pub p1_words : List ℕ
p1_words = 0x1980 ∷ 0 ∷ 4 ∷ 0 ∷ 0 ∷ 0 ∷ []

abbrev pub p1_replies : List ℕ
p1_replies = 0x0FFFF ∷ 0x10000 ∷ 0x10000 ∷ 0x10000 ∷ 0x00405 ∷ 0x00607 ∷ []

-- "P2: then .. reply .."
abbrev pub p2_words : List ℕ
p2_words = 0x1D00 ∷ 0 ∷ 0 ∷ []

abbrev pub p2_replies : List ℕ
p2_replies = 0x0FFFF ∷ 0x10000 ∷ 0x00008 ∷ []

-- "P3: fresh, RDMREG CSR gives 0x01100000, again 0x00100000."
abbrev pub p3_words : List ℕ
p3_words = 0x2D80 ∷ 0 ∷ 0 ∷ 0x2D80 ∷ 0 ∷ 0 ∷ []

abbrev pub p3_replies : List ℕ
p3_replies = 0x0FFFF ∷ 0x00110 ∷ 0x00000 ∷ 0x0FFFF ∷ 0x00010 ∷ 0x00000 ∷ []

-- "P6: empty memory: byte READ at 0 closes with 0x10001."
abbrev pub p6_words : List ℕ
p6_words = 0x1900 ∷ 0 ∷ 0 ∷ 0 ∷ []

abbrev pub p6_replies : List ℕ
p6_replies = 0x0FFFF ∷ 0x10000 ∷ 0x10000 ∷ 0x10001 ∷ []

-- "P7: FILL after READ is illegal."
abbrev pub p7_words : List ℕ
p7_words = 0x1900 ∷ 0 ∷ 4 ∷ 0x1C00 ∷ 0 ∷ []

abbrev pub p7_replies : List ℕ
p7_replies = 0x0FFFF ∷ 0x10000 ∷ 0x10000 ∷ 0x00004 ∷ 0x1FFFF ∷ []

-- "P8: 0x19C0 is illegal."
abbrev pub p8_words : List ℕ
p8_words = 0x19C0 ∷ 0 ∷ []

abbrev pub p8_replies : List ℕ
p8_replies = 0x0FFFF ∷ 0x1FFFF ∷ []

pub p1 : replies p1_words (fresh 1 sixteen) ≡ p1_replies
unfolding replies stepped fresh_board fresh_place reply_now plan_for begun continued collected work_after decoded decoded_word fetched stored reach
p1 = refl

pub p2 : replies p2_words (ran p1_words (fresh 1 sixteen)) ≡ p2_replies
unfolding ran replies stepped fresh_board fresh_place reply_now plan_for begun continued collected work_after decoded decoded_word fetched stored reach
p2 = refl

-- at any W and over any memory
pub p3 : (w : ℕ) (m : List ℕ) → replies p3_words (fresh w m) ≡ p3_replies
unfolding replies stepped fresh_board fresh_place reply_now plan_for begun continued collected work_after decoded decoded_word csr_value bstat_read
p3 w m = refl

pub p6 : replies p6_words (fresh 0 []) ≡ p6_replies
unfolding replies stepped fresh_board fresh_place reply_now plan_for begun continued collected work_after decoded decoded_word fetched
p6 = refl

pub p7 : replies p7_words (fresh 0 sixteen) ≡ p7_replies
unfolding replies stepped fresh_board fresh_place reply_now plan_for begun continued collected work_after decoded decoded_word fetched
p7 = refl

-- at any W and over any memory
pub p8 : (w : ℕ) (m : List ℕ) → replies p8_words (fresh w m) ≡ p8_replies
unfolding replies stepped fresh_board fresh_place reply_now plan_for begun continued collected work_after decoded decoded_word
p8 w m = refl

-- a WRITE, then two FILLs with a NOP between, as memory holds them
pub fills_store : (ran (0x1840 ∷ 0 ∷ 2 ∷ 0xAABB ∷ 0x1C00 ∷ 0x12 ∷ 0 ∷ 0x1C00 ∷ 0x34 ∷ []) (fresh 0 (0 ∷ 0 ∷ 0 ∷ 0 ∷ 0 ∷ 0 ∷ 0 ∷ []))).memory
    ≡ 0 ∷ 0 ∷ 0xAA ∷ 0xBB ∷ 0x12 ∷ 0x34 ∷ 0 ∷ []
unfolding ran stepped fresh_board fresh_place reply_now plan_for begun continued collected work_after decoded decoded_word fetched stored reach
fills_store = refl
