-- The pod's half (01, by eye): ground 14, "a reply that the request can't have", as 01 lists such replies.
use Rattle.std.specs.Prelude.{ℕ, ◌≤◌, ◌<◌, ◌≡◌, ◌≢◌, cond, List, [], ◌∷◌, ◌++◌, leb, length, None, Option, Some, Ok}
use Rattle.memory.specs.declared.Size.{Size}
use Rattle.memory.specs.declared.Size.TheVariants.{Byte}
use Rattle.requests.specs.declared.Request.{Request}
use Rattle.requests.specs.Request.{kind_of}
use Rattle.readings.specs.Reading.{reading}

-- the result word that is still to come
pub data WordDue : Type 0 where
  first : WordDue
  second : WordDue

-- "0x10000 not ready; 0x10001 bus error; 0x1FFFF illegal": of the list, what has S=1
abbrev pub NotInTheList : ℕ → Type 0
NotInTheList reply = (reply ≢ 0x10000) × (reply ≢ 0x10001) × (reply ≢ 0x1FFFF)

-- S is bit 16 of a reply
pub data Impossible : Option Size → WordDue → ℕ → Type 0 where
  -- "S=1 in the second result word"
  second_with_s : {kind : Option Size} {reply : ℕ} → 0x10000 ≤ reply → Impossible kind second reply
  -- "S=1 data not in the list"
  not_listed : {kind : Option Size} {due : WordDue} {reply : ℕ} → 0x10000 ≤ reply → NotInTheList reply → Impossible kind due reply
  -- "a byte result above 0xFF"
  byte_above : {reply : ℕ} → reply ≤ 0xFFFF → 0xFF < reply → Impossible (Some Byte) first reply
  -- "S=0 other than 0xFFFF for a command without result"
  not_complete : {reply : ℕ} → reply ≤ 0xFFFF → reply ≢ 0xFFFF → Impossible None first reply

-- while it is not yet, data that is in is the upper of two words
abbrev pub due_after : List ℕ → WordDue
due_after [] = first
due_after (reply ∷ replies) = cond (leb reply 0xFFFF) second (due_after replies)

-- such a reply among those of a request: those before it are read as not yet, and it is no reply of ground 1
pub record ImpossibleAmong (request : Request) (replies : List ℕ) : Type 0 where
  pub before : List ℕ
  pub reply : ℕ
  pub unread : List ℕ
  pub place : replies ≡ before ++ reply ∷ unread
  pub not_yet : reading request before ≡ Ok (None, length before)
  pub within : reply ≤ 0x1FFFF
  pub impossible : Impossible (kind_of request) (due_after before) reply
