-- The words sent and the replies read, as the code's loop goes.
use Rattle.std.specs.Prelude.{ℕ, zero, suc, cond, get_or}
use Rattle.board.specs.State.{State}
use Rattle.step.specs.Step.{reply_now, stepped}
use Rattle.requests.specs.declared.Request.{Request}
use Rattle.readings.specs.declared.Reader.{Reader}
use Rattle.readings.specs.declared.Reader.TheVariants.{First}
use Rattle.requests.specs.Request.{kind_of}
use Rattle.building.specs.RequestWords.{command_word, built_words}
use Rattle.readings.specs.Reader.{after_reply, done}

pub record Talk : Type 0 where
  pub reader : Reader
  pub state : State
  pub packets : ℕ

abbrev pub talk : Reader → State → ℕ → Talk
talk reader s packets = record { reader = reader; state = s; packets = packets }

-- the built words and then NOPs, each reply read, until the reader is done; within a budget
unfoldable pub talked : ℕ → Request → ℕ → Reader → State → Talk
talked zero request sent reader s = talk reader s sent
talked (suc k) request sent reader s =
    cond (done reader) (talk reader s sent)
    (talked k request (suc sent) (after_reply (kind_of request) reader (reply_now s.place)) (stepped s (get_or (built_words request) sent 0)))

-- four operand words, fifteen waits and two result words
abbrev pub talk_budget : ℕ
talk_budget = 21

-- from the packet after the command word on
abbrev pub from_command : Request → State → Talk
from_command request s = talked talk_budget request 1 First s

-- the reply to the command word "belongs to what came before" and is not read
unfoldable pub exchanged : Request → State → Talk
exchanged request s = from_command request (stepped s (command_word request))
