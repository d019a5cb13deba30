-- Demand 3 of one place in any environment: each of its packets finds whatever board and memory. With one place the environment is the
-- events and breakpoint inputs between its packets and the memory lent with each; with several, the others' packets too.
use Rattle.std.specs.Prelude.{ℕ, suc, ◌+◌, ◌≤◌, cond, List, [], ◌∷◌, ◌++◌}
use Rattle.board.specs.declared.Board.{Board}
use Rattle.board.specs.declared.Place.{Place}
use Rattle.board.specs.Board.{fresh_place, at_rest}
use Rattle.board.specs.State.{State, state_of, standing_of}
use Rattle.sound.specs.Sound.{SoundBoard, SoundMemory}
use Rattle.promises.specs.Machine.{Machine}
use Rattle.promises.specs.TakenWords.{Word, Stage, stage}
use Rattle.promises.specs.TakenWords.Stage.{operand_due, wait_due, upper_due, closed}

-- an accepted packet: the board that it finds, the memory lent with it, and its word
pub record Found : Type 0 where
  pub board : Board
  pub memory : List ℕ
  pub word : ℕ

-- what the packet finds at a place
abbrev pub found_at : Found → Place → State
found_at f p = state_of f.board p f.memory

-- a place with its command words and their closing replies so far, the last first in both
pub record Trail : Type 0 where
  pub place : Place
  pub words : List Word
  pub given : List ℕ

-- a packet taken as a command word
abbrev pub begins : Found → Place → Word
begins f p = record {
  packet = f.word;
  standing = standing_of f.board p;
  operands = [];
  waited = 0;
  shown = 0;
  board = f.board;
  pointer = p.pointer;
  memory = f.memory;
}

-- a packet that the word takes as an operand, or waits
abbrev pub goes_on : List ℕ → ℕ → Found → Place → Word → Word
goes_on operands waited f p o = record {
  packet = o.packet;
  standing = o.standing;
  operands = operands;
  waited = waited;
  shown = o.shown;
  board = f.board;
  pointer = p.pointer;
  memory = f.memory;
}

-- "the packet that carries it out has its input ignored"
abbrev pub shows_upper : Word → Word
shows_upper o = record {
  packet = o.packet;
  standing = o.standing;
  operands = o.operands;
  waited = o.waited;
  shown = suc o.shown;
  board = o.board;
  pointer = o.pointer;
  memory = o.memory;
}

-- what a packet is for the word before it; after its closing reply comes a command word
abbrev pub heard_at : Stage → Found → Place → Word → List Word → List Word
heard_at operand_due f p o os = goes_on (o.operands ++ (f.word ∷ [])) o.waited f p o ∷ os
heard_at wait_due f p o os = goes_on o.operands (suc o.waited) f p o ∷ os
heard_at (upper_due upper) f p o os = shows_upper o ∷ os
heard_at (closed last) f p o os = begins f p ∷ o ∷ os

abbrev pub heard : Found → Place → List Word → List Word
heard f p [] = begins f p ∷ []
heard f p (o ∷ os) = heard_at (stage o) f p o os

-- the reply that a command word carries out is for the word before it
abbrev pub given_at : Stage → ℕ → List ℕ → List ℕ
given_at operand_due r gs = gs
given_at wait_due r gs = gs
given_at (upper_due upper) r gs = gs
given_at (closed last) r gs = r ∷ gs

abbrev pub given_by : List Word → ℕ → List ℕ → List ℕ
given_by [] r gs = gs
given_by (o ∷ os) r gs = given_at (stage o) r gs

abbrev pub noted : Machine → Trail → Found → Trail
noted k t f = record {
  place = (k.step (found_at f t.place) f.word).place;
  words = heard f t.place t.words;
  given = given_by t.words (k.reply t.place) t.given;
}

unfoldable pub trail : Machine → Trail → List Found → Trail
trail k t [] = t
trail k t (f ∷ fs) = trail k (noted k t f) fs

-- a fresh place has taken no word
abbrev pub begun : Trail
begun = record { place = fresh_place; words = []; given = [] }

-- what the packets hand back: the reply of each and the memory that it leaves
pub record Handed : Type 0 where
  pub reply : ℕ
  pub memory : List ℕ

unfoldable pub handed : Machine → Place → List Found → List Handed
handed k p [] = []
handed k p (f ∷ fs) =
    record { reply = k.reply p; memory = (k.step (found_at f p) f.word).memory } ∷ handed k (k.step (found_at f p) f.word).place fs

-- how many of the packets find the port not at rest
unfoldable pub under_way : Machine → Place → List Found → ℕ
under_way k p [] = 0
under_way k p (f ∷ fs) = cond (at_rest p.phase) 0 1 + under_way k (k.step (found_at f p) f.word).place fs

-- what a packet may find at a place on a board made with W: what every call keeps sound, and a word of 17 bits
pub record FoundFits (w : ℕ) (f : Found) : Type 0 where
  pub board : SoundBoard w f.board
  pub memory : SoundMemory f.memory
  pub word : f.word ≤ 0x1FFFF

pub data AllFit (w : ℕ) : List Found → Type 0 where
  none : AllFit w []
  more : {f : Found} {fs : List Found} → FoundFits w f → AllFit w fs → AllFit w (f ∷ fs)

-- packets that are all NOPs, with whatever each may find
pub data AllNops (w : ℕ) : List Found → Type 0 where
  done : AllNops w []
  nop : {fs : List Found} (b : Board) (m : List ℕ) → SoundBoard w b → SoundMemory m → AllNops w fs → AllNops w (record { board = b; memory = m; word = 0 } ∷ fs)
