-- What is said of what a line does (the desk's language, `stand_in`), and the promise of a line answered.
use Rattle.std.specs.Prelude.{ℕ, ◌≡◌, Bool, cond, List, ◌++◌, Err, Ok, Result, ⊤}
use Rattle.grounds.specs.declared.Ground.{Ground}
use Rattle.step.specs.Step.{reply_now}
use Rattle.port.specs.Packet.{packet_verdict, answered}
use Rattle.text.specs.Text.{ascii, Puts}
use Rattle.text.specs.NumberText.{number_text}
use Rattle.refusal_text.specs.RefusalText.{unclear_text, refused_text}
use Rattle.replies.specs.ReplyText.{peek_text}
use Rattle.answers.specs.declared.Bench.{Bench}
use Rattle.answers.specs.declared.Answered.{Answered}
use Rattle.answers.specs.Bench.{Left, port_state}

-- "`made`, .. or `refused 2 at 0`"
abbrev pub made_text : Result ⊤ Ground → List ℕ
made_text (Ok _) = ascii "made"
made_text (Err why) = refused_text why

-- "`memory N`"
abbrev pub memory_text : ℕ → List ℕ
memory_text n = ascii "memory " ++ number_text n

-- "`bytes N` .. `unclear` where they don't fit"
abbrev pub bytes_put_text : Bool → ℕ → List ℕ
bytes_put_text fitting n = cond fitting (ascii "bytes " ++ number_text n) unclear_text

-- "`peek HEX` .. `unclear` where they aren't there"
abbrev pub peeked_text : Bool → List ℕ → ℕ → ℕ → List ℕ
peeked_text fitting m address n = cond fitting (peek_text m address n) unclear_text

-- what a packet is answered by the port over what it is lent: the reply fixed by the state before, or the refusal
abbrev pub packet_outcome : ℕ → Bench → List ℕ → Result ℕ Ground
packet_outcome word bench m = answered (packet_verdict (port_state bench m) word) (reply_now bench.place)

-- a line answered: what it leaves, and what is said, put at the front of the text
pub record Answers (left : Left) (said buffer : List ℕ) (r : Answered) (after told : List ℕ) : Type 0 where
  pub bench : r.bench ≡ left.bench
  pub memory : after ≡ left.memory
  pub text : Puts buffer 0 said told r.end
