-- Demand 3: the bound of 4 + W is tight. WCREG has four operand words and then waits W packets.
use Rattle.std.specs.Prelude.{ℕ, ◌+◌, ◌≡◌, refl, Bool, true, false, [], ◌∷◌, replicate}
use Rattle.command.specs.Command.{decoded, decoded_word}
use Rattle.board.specs.Board.{fresh_board, fresh_place, at_rest}
use Rattle.ranges.specs.Ranges.{in_range, bstat_in_range}
use Rattle.board.specs.State.{State}
use Rattle.control.specs.Control.{control_index, control_fetched, control_written}
use Rattle.plan.specs.Plan.{work_after, collected, begun, continued}
use Rattle.step.specs.Step.{plan_for, stepped}
use Rattle.port.specs.Packet.{packet_verdict}
use Rattle.promises.specs.Machine.{stand_in}
use Rattle.promises.specs.Environment.{under_way}
use Rattle.promises.specs.History.{after, finds, made, nops}
use Rattle.promises.specs.LendingLaws.{no_memory, sends}

-- the history of one packet, WCREG's command word
abbrev pub asked : ℕ → State
asked w = after stand_in (made w) (sends no_memory (0x2880 ∷ []))

abbrev pub rests_after : ℕ → ℕ → Bool
rests_after w n = at_rest (after stand_in (asked w) (nops (replicate n no_memory))).place.phase

pub record Tight (w : ℕ) : Type 0 where
  -- One NOP fewer than 4 + W does not bring the port to rest,
  pub fewer : rests_after w (3 + w) ≡ false
  -- 4 + W do,
  pub enough : rests_after w (4 + w) ≡ true
  -- and each of them finds it not at rest.
  pub number : under_way stand_in (asked w).place (finds stand_in (asked w) (nops (replicate (5 + w) no_memory))) ≡ 4 + w

pub tight_at_0 : Tight 0
unfolding fresh_board fresh_place in_range bstat_in_range decoded decoded_word control_index control_fetched control_written work_after collected begun
    continued plan_for
    stepped packet_verdict under_way after finds
tight_at_0 = record { fewer = refl; enough = refl; number = refl }

pub tight_at_15 : Tight 15
unfolding fresh_board fresh_place in_range bstat_in_range decoded decoded_word control_index control_fetched control_written work_after collected begun
    continued plan_for
    stepped packet_verdict under_way after finds
tight_at_15 = record { fewer = refl; enough = refl; number = refl }
