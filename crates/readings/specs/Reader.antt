-- The pod's half (01, by eye): what each reply does to the reader.
use Rattle.std.specs.Prelude.{ℕ, ◌+◌, ◌*◌, Bool, true, false, cond, List, [], ◌∷◌, eqb, leb, None, Option, Some}
use Rattle.memory.specs.declared.Size.{Size}
use Rattle.memory.specs.declared.Size.TheVariants.{Byte, Word, Long}
use Rattle.command.specs.Reply.{complete, not_ready, bus_error, illegal}
use Rattle.grounds.specs.declared.Ground.TheVariants.{WordTooLarge, ImpossibleReply}
use Rattle.readings.specs.declared.Outcome.TheVariants.{Value, Complete, BusError, Illegal}
use Rattle.readings.specs.declared.Reader.{Reader}
use Rattle.readings.specs.declared.Reader.TheVariants.{First, Second, Closed, Bad}

-- "a byte result above 0xFF .. is 14"; of a longword "the upper comes first"
abbrev pub result_word : Size → ℕ → Reader
result_word Byte reply = cond (leb reply 0xFF) (Closed (Value reply)) (Bad ImpossibleReply)
result_word Word reply = Closed (Value reply)
result_word Long reply = Second reply

-- "S=0 other than 0xFFFF for a command without result is 14"
abbrev pub data_reply : Option Size → ℕ → Reader
data_reply None reply = cond (eqb reply complete) (Closed Complete) (Bad ImpossibleReply)
data_reply (Some size) reply = result_word size reply

-- "skips 0x10000 before the first result word"; "0x10001 bus error; 0x1FFFF illegal"; "S=1 data not in the list .. is 14"
abbrev pub status_reply : ℕ → Reader
status_reply reply =
    cond (eqb reply not_ready) First (cond (eqb reply bus_error) (Closed BusError) (cond (eqb reply illegal) (Closed Illegal) (Bad ImpossibleReply)))

-- S is bit 16
abbrev pub first_reply : Option Size → ℕ → Reader
first_reply kind reply = cond (leb reply 0xFFFF) (data_reply kind reply) (status_reply reply)

-- "S=1 in the second result word .. is 14"
abbrev pub second_reply : ℕ → ℕ → Reader
second_reply upper reply = cond (leb reply 0xFFFF) (Closed (Value (upper * 65536 + reply))) (Bad ImpossibleReply)

-- one reply more: "1 before 14", and "words after the result are unread"
abbrev pub after_reply : Option Size → Reader → ℕ → Reader
after_reply kind First reply = cond (leb reply 0x1FFFF) (first_reply kind reply) (Bad WordTooLarge)
after_reply kind (Second upper) reply = cond (leb reply 0x1FFFF) (second_reply upper reply) (Bad WordTooLarge)
after_reply kind (Closed outcome) reply = Closed outcome
after_reply kind (Bad why) reply = Bad why

-- the reader after all replies of a list
abbrev pub after_replies : Option Size → Reader → List ℕ → Reader
after_replies kind reader [] = reader
after_replies kind reader (reply ∷ replies) = after_replies kind (after_reply kind reader reply) replies

-- the closing reply or a bad word is in
abbrev pub done : Reader → Bool
done First = false
done (Second upper) = false
done (Closed outcome) = true
done (Bad why) = true

-- "the words used": those that a reader takes until it is done
abbrev pub used : Option Size → Reader → List ℕ → ℕ
used kind reader [] = 0
used kind reader (reply ∷ replies) = cond (done reader) 0 (1 + used kind (after_reply kind reader reply) replies)
