-- Examples of [10]: a list of requests at two settings, and a list that shows where W does play a part: a pod that does not bring the port to rest.
use Rattle.std.specs.Prelude.{ℕ, ◌≡◌, refl, List, [], ◌∷◌, Ok, Result as StdResult}
use Rattle.memory.specs.declared.Size.TheVariants.{Byte, Word, Long}
use Rattle.memory.specs.Memory.{fetched}
use Rattle.command.specs.Command.{decoded, decoded_word}
use Rattle.board.specs.Board.{fresh_board, fresh_place}
use Rattle.board.specs.State.{State}
use Rattle.ranges.specs.Ranges.{in_range, bstat_in_range}
use Rattle.plan.specs.Plan.{work_after, collected, begun, continued}
use Rattle.step.specs.Step.{reply_now, plan_for, stepped}
use Rattle.requests.specs.declared.Request.{Request}
use Rattle.requests.specs.declared.Request.TheVariants.{Rdreg, Read, Write, Dump, Fill}
use Rattle.readings.specs.declared.Outcome.TheVariants.{Value, BusError, Illegal}
use Rattle.readings.specs.declared.Reader.{Reader}
use Rattle.readings.specs.declared.Reader.TheVariants.{Closed}
use Rattle.round_trip.specs.RoundTrip.{state_there, packets_there}
use Rattle.round_trip.specs.BroughtToRest.{rested, rest_nops}
use Rattle.round_trip.specs.TalkMirror.{talked, exchanged}
use Rattle.exchange_verdict.specs.ExchangeVerdict.{exchange_verdict}
use Rattle.every_wait.specs.EveryWait.{fresh_at, answers, Result, results}

-- a READ and two DUMPs behind it: the value behind a DUMP is the next one, however long it waits
abbrev dumps : List Request
dumps = Read Byte 0 ∷ Dump Byte ∷ Dump Byte ∷ []

abbrev three : List ℕ
three = 7 ∷ 8 ∷ 9 ∷ []

pub dumps_at_0 : answers dumps (fresh_at 0 three) ≡ Ok (Value 7, 4) ∷ Ok (Value 8, 2) ∷ Ok (Value 9, 2) ∷ []
unfolding answers exchange_verdict in_range bstat_in_range rested rest_nops state_there packets_there fresh_board fresh_place decoded decoded_word
dumps_at_0 = refl

pub dumps_at_3 : answers dumps (fresh_at 3 three) ≡ Ok (Value 7, 7) ∷ Ok (Value 8, 5) ∷ Ok (Value 9, 5) ∷ []
unfolding answers exchange_verdict in_range bstat_in_range rested rest_nops state_there packets_there fresh_board fresh_place decoded decoded_word
dumps_at_3 = refl

-- ---- "legal at W = 0" is needed of a pod that does not bring the port to rest
-- a request's words and NOPs until its replies close it, and straight on with the next
abbrev straight_on : List Request → State → List Reader
straight_on [] s = []
straight_on (request ∷ requests) s = (exchanged request s).reader ∷ straight_on requests (exchanged request s).state

-- FILL is illegal, and its operand word 0x1900 is taken as READ, which takes two words of the WRITE for its address. At W = 0 that READ is over when 0x0C00
-- comes, which is taken as GO; at W = 1 it is waited away
abbrev swallowed : List Request
swallowed = Fill Long 0x19000000 ∷ Write Word 0x0C00 0 ∷ Rdreg 0 ∷ []

pub straight_at_0 : straight_on swallowed (fresh_at 0 []) ≡ Closed Illegal ∷ Closed BusError ∷ Closed Illegal ∷ []
unfolding exchanged talked stepped fresh_board fresh_place reply_now plan_for begun continued collected work_after decoded decoded_word fetched
straight_at_0 = refl

pub straight_at_1 : straight_on swallowed (fresh_at 1 []) ≡ Closed Illegal ∷ Closed BusError ∷ Closed (Value 0) ∷ []
unfolding exchanged talked stepped fresh_board fresh_place reply_now plan_for begun continued collected work_after decoded decoded_word fetched
straight_at_1 = refl

-- exchanged, the same requests come to the same: the READ is brought to its end first
pub rested_at_1 : results swallowed (fresh_at 1 []) ≡ Result.came Illegal ∷ Result.came BusError ∷ Result.came (Value 0) ∷ []
unfolding answers exchange_verdict in_range bstat_in_range rested rest_nops state_there packets_there stepped fresh_board fresh_place plan_for begun
    continued collected
    work_after decoded decoded_word fetched
rested_at_1 = refl
