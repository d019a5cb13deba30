-- The round trip (01, Packets, and by eye): a request's words and then NOPs sent to a place at rest, what they come to, and the promise.
use Rattle.std.specs.Prelude.{ℕ, ◌+◌, ◌-◌, ◌≤◌, ◌<◌, ◌≡◌, Bool, true, cond, List, [], ◌++◌, length, get_or, replicate, take, drop, Option, None, Ok, Some}
use Rattle.memory.specs.declared.Size.{Size}
use Rattle.command.specs.Reply.{complete, illegal}
use Rattle.board.specs.Board.{fresh_place, at_rest}
use Rattle.board.specs.Setters.{place_with}
use Rattle.board.specs.declared.Phase.TheVariants.{Rest}
use Rattle.board.specs.declared.Chain.TheVariants.{Off}
use Rattle.board.specs.declared.Standing.{Standing}
use Rattle.board.specs.State.{State, state_of}
use Rattle.plan.specs.Plan.{legal_word, waits_of}
use Rattle.step.specs.Step.{stepped}
use Rattle.run.specs.Run.{ran, replies}
use Rattle.sound.specs.Sound.{Sound}
use Rattle.requests.specs.declared.Request.{Request}
use Rattle.readings.specs.declared.Outcome.{Outcome}
use Rattle.readings.specs.declared.Outcome.TheVariants.{Value, Complete, BusError, Illegal}
use Rattle.requests.specs.Request.{kind_of, kind_words}
use Rattle.building.specs.RequestWords.{command_word, operands, built_words}
use Rattle.readings.specs.Reading.{reading}
use Rattle.pod_laws.specs.MeantCommand.{command_of}
use Rattle.round_trip.specs.Meaning.{Scene, cleared, meaning}

-- a NOP is the word 0
abbrev pub nops : ℕ → List ℕ
nops n = replicate n 0

-- a place at rest, with what stands there and the reply it holds
abbrev pub resting : Scene → ℕ → State
resting s next = state_of s.board (place_with fresh_place Rest s.chain s.pointer next) s.memory

abbrev pub scene_of : State → Scene
scene_of s = record { board = s.board; chain = s.place.chain; pointer = s.place.pointer; memory = s.memory }

-- ---- the outcome
abbrev pub standing_in : Scene → Standing
standing_in s = record { halted = s.board.status.halted; chain = s.chain }

-- the command word is legal there
abbrev pub legal_there : Request → Scene → Bool
legal_there request s = legal_word (command_word request) (standing_in s)

abbrev pub outcome_there : Request → Scene → Outcome
outcome_there request s = cond (legal_there request s) (meaning request s).outcome Illegal

-- ---- what is left
-- legal: what is meant, at rest, the closing reply gone with a NOP
abbrev pub legal_leaves : Request → Scene → State
legal_leaves request s = resting (meaning request s).leaves complete

-- the word after the command word: an operand word, or a NOP
abbrev pub second_word : Request → ℕ
second_word request = get_or (operands request) 0 0

-- "illegal command word .. ends the chain", and is no NOP
abbrev pub unchained : Scene → Scene
unchained s = record { board = cleared s.board; chain = Off; pointer = s.pointer; memory = s.memory }

-- illegal: "the next reply is 0x1FFFF and the port is at rest"
abbrev pub after_illegal : Scene → State
after_illegal s = resting (unchained s) illegal

-- .. and that reply leaves with the second word, itself "a command word taken"
abbrev pub illegal_leaves : Request → Scene → State
illegal_leaves request s = stepped (after_illegal s) (second_word request)

unfoldable pub state_there : Request → Scene → State
state_there request s = cond (legal_there request s) (legal_leaves request s) (illegal_leaves request s)

-- ---- the packets
-- the replies that close a request: the words of its value, or one
abbrev pub closing_replies : Option Size → Outcome → ℕ
closing_replies kind (Value value) = kind_words kind
closing_replies kind Complete = 1
closing_replies kind BusError = 1
closing_replies kind Illegal = 1

-- the NOPs after the built words: W for a command that waits, and one for each closing reply
abbrev pub nops_there : Request → Scene → ℕ
nops_there request s = waits_of s.board.w (command_of request) + closing_replies (kind_of request) (meaning request s).outcome

abbrev pub words_there : Request → Scene → List ℕ
words_there request s = built_words request ++ nops (nops_there request s)

unfoldable pub packets_there : Request → Scene → ℕ
packets_there request s = cond (legal_there request s) (length (built_words request) + nops_there request s) 2

-- ---- the promise
-- "Reading starts with the reply to the packet after the command word"
abbrev pub later_replies : List ℕ → State → List ℕ
later_replies words s = drop 1 (replies words s)

pub record Trip (request : Request) (words : List ℕ) (s : State) (outcome : Outcome) (final : State) : Type 0 where
  -- the replies are read as the outcome, and all of them are used
  pub answer : reading request (later_replies words s) ≡ Ok (Some outcome, length words - 1)
  -- until the last of them is in, it is "not yet"
  pub not_yet : (n : ℕ) → n < length words - 1 → reading request (take n (later_replies words s)) ≡ Ok (None, n)
  -- what the words leave: the board, the place and memory
  pub state : ran words s ≡ final

-- ---- the promise where the word is illegal and the pod sends all that it built
-- all built words, and then n NOPs
abbrev pub all_words : Request → ℕ → List ℕ
all_words request n = built_words request ++ nops n

-- those after the command word; the first of them finds the port at rest, and "Every packet accepted at rest is a command word taken"
abbrev pub words_after : Request → ℕ → List ℕ
words_after request n = operands request ++ nops n

pub record IllegalTrip (request : Request) (n : ℕ) (s : Scene) (next : ℕ) : Type 0 where
  -- with no reply in, it is "not yet"
  pub not_yet : reading request [] ≡ Ok (None, 0)
  -- the first reply is read as illegal, and "words after the result are unread"
  pub answer : reading request (later_replies (all_words request n) (resting s next)) ≡ Ok (Some Illegal, 1)
  -- the replies are those of the words after the command word, sent to the port as the illegal word leaves it
  pub told : later_replies (all_words request n) (resting s next) ≡ replies (words_after request n) (after_illegal s)
  -- and so is what is left: the board, the place and memory
  pub state : ran (all_words request n) (resting s next) ≡ ran (words_after request n) (after_illegal s)
  -- what is left is within every range where what was found is
  pub sound : Sound (resting s next) → Sound (ran (all_words request n) (resting s next))
  -- with 4 + W NOPs it is at rest
  pub rests : Sound (resting s next) → 4 + s.board.w ≤ n → at_rest (ran (all_words request n) (resting s next)).place.phase ≡ true
