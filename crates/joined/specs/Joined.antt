-- A gateway's visit (docs/gateway.md) joined with the stand-in: each packet goes to the port, and its reply to the visit, with no event between.
use Rattle.std.specs.Prelude.{ℕ, zero, suc, cond, List}
use Rattle.board.specs.State.{State}
use Rattle.step.specs.Step.{reply_now, stepped}
use Rattle.visit.specs.declared.Visit.{Visit}
use Rattle.visit.specs.declared.Next.{Next}
use Rattle.visit.specs.declared.Next.TheVariants.{Send, EndsAsRead, EndsNotRead}
use Rattle.visit.specs.Visit.{next_of, is_over, heard, noted}

pub record Joined : Type 0 where
  pub visit : Visit
  pub notes : List ℕ
  pub port : State

abbrev pub word_of : Next → ℕ
word_of (Send word) = word
word_of EndsAsRead = 0
word_of (EndsNotRead packet reason) = 0

-- the packet that the visit sends now
abbrev pub packet_now : Visit → ℕ
packet_now v = word_of (next_of v)

-- a packet goes out, and so much comes in; a visit that is over sends none
unfoldable pub exchanged_for : Joined → ℕ → Joined
exchanged_for j reply =
    cond (is_over j.visit.stage) j
    (record { visit = heard j.visit reply; notes = noted j.visit reply j.notes; port = stepped j.port (packet_now j.visit) })

-- the reply is the port's own to that very packet
abbrev pub onward : Joined → Joined
onward j = exchanged_for j (reply_now j.port.place)

unfoldable pub joined : ℕ → Joined → Joined
joined zero j = j
joined (suc k) j = joined k (onward j)
