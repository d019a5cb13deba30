-- Laws: a debug register written by three packets, and the registers of P5 so set.
use Prim.Native.Nat.{ℕ, ◌/◌, ◌%◌, ◌^◌, ◌≤◌, ◌<◌}
use Rattle.std.specs.Prelude.{◌≡◌, true, None}
use Rattle.std.proofs.Math.Path.{refl}
use Rattle.std.proofs.Common.{ap, ◌∙◌, arith, div-add-mod'}
use mathlib.Core.List.{List, [], ◌∷◌}
use borrow.Author.Tests.{le-leb, lt-leb}
use Rattle.command.specs.declared.DebugRegister.{DebugRegister}
use Rattle.command.specs.declared.DebugRegister.TheVariants.{Aatr, Tdr, Pbr, Ablr}
use Rattle.command.specs.Command.{decoded, decoded_word, wdmreg, go}
use Rattle.command.specs.Reply.{not_ready}
use Rattle.board.specs.declared.Board.{Board}
use Rattle.board.specs.declared.Place.{Place}
use Rattle.board.specs.declared.Operands.{Operands}
use Rattle.board.specs.declared.Phase.TheVariants.{Due}
use Rattle.board.specs.declared.Chain.TheVariants.{Off}
use Rattle.board.specs.Board.{fresh_board, fresh_place}
use Rattle.ranges.specs.Ranges.{in_range, bstat_in_range, board_in_range}
use Rattle.board.specs.Setters.{place_with}
use Rattle.board.specs.State.{State, state_of}
use Rattle.registers.specs.Registers.{board_after, debug_loaded, debug_written}
use Rattle.plan.specs.Plan.{long, no_operands, with_operand, work_after, collected, begun, continued}
use Rattle.step.specs.Step.{plan_for, stepped}
use Rattle.step.specs.StepFaultLaws.{step_of_none}
use Rattle.port.specs.Packet.{packet_verdict}
use Rattle.port.specs.PacketLaws.{no_other}
use Rattle.bus.specs.EventExamples.{p5_board}
use Rattle.promises.specs.Machine.{stand_in}
use Rattle.promises.specs.History.{Call, after, made}
use Rattle.promises.specs.History.Call.{packet}
use Rattle.promises.specs.LendingLaws.{no_memory, sends}
use Rattle.promises.specs.ByEyeExamples.{p5_words}

-- at rest, with the reply of a fresh board, and no memory lent
abbrev standing : Board → State
standing b = state_of b fresh_place []

-- a packet within its limits takes its step
packet_steps : (b : Board) (p : Place) (word : ℕ) (calls : List Call) → in_range b p ≡ true → word ≤ 0xFFFF
    → after stand_in (state_of b p []) (packet no_memory word ∷ calls) ≡ after stand_in (stepped (state_of b p []) word) calls
unfolding after
packet_steps b p word calls ranged short = rw (no_other (state_of b p []) word ranged (omega arith) (omega arith))

-- WDMREG of a register on a halted board within its ranges: its word, then the value, upper half first
module _ (b : Board) (r : DebugRegister) (word : ℕ) (ranged : board_in_range b ≡ true) (halted : b.status.halted ≡ true) (none : b.fault ≡ None)
    (is : decoded word ≡ wdmreg r) (short : word ≤ 0xFFFF) where
  due : ℕ → Operands → Place
  due left taken = place_with fresh_place (Due (wdmreg r) left taken) Off 0 not_ready

  command_taken : stepped (standing b) word ≡ state_of b (due 2 no_operands) []
  unfolding due fresh_place begun collected plan_for
  command_taken = rw (step_of_none (standing b) word none, lt-leb 0x10000 word (omega arith), is, halted)

  upper_taken : (upper : ℕ) → upper ≤ 0xFFFF → stepped (state_of b (due 2 no_operands) []) upper ≡ state_of b (due 1 (with_operand no_operands upper)) []
  unfolding due fresh_place continued collected plan_for stepped
  upper_taken upper h = rw (lt-leb 0x10000 upper (omega arith))

  lower_taken : (upper low : ℕ) → low ≤ 0xFFFF
      → stepped (state_of b (due 1 (with_operand no_operands upper)) []) low ≡ standing (board_after (wdmreg r) b 0 (long upper low))
  unfolding due fresh_place continued collected work_after plan_for stepped debug_written
  lower_taken upper low h = rw (lt-leb 0x10000 low (omega arith))

  fresh_ranged : in_range b fresh_place ≡ true
  unfolding in_range fresh_place
  fresh_ranged = rw ranged

  due_ranged : (taken : Operands) → (in_range b (due 1 taken) ≡ true) × (in_range b (due 2 taken) ≡ true)
  unfolding in_range due fresh_place
  due_ranged taken = (rw ranged, rw ranged)

  wdmreg_sent : (v : ℕ) (words : List ℕ) → v < 2 ^ 32
      → after stand_in (standing b) (sends no_memory (word ∷ v / 65536 ∷ v % 65536 ∷ words))
      ≡ after stand_in (standing (board_after (wdmreg r) b 0 v)) (sends no_memory words)
  wdmreg_sent v words narrow =
      let on : State → List ℕ → State = λ s words. after stand_in s (sends no_memory words) in
      let upper = v / 65536 in
      let low = v % 65536 in
      packet_steps b fresh_place word (sends no_memory (upper ∷ low ∷ words)) fresh_ranged short
      ∙ ap (λ s. on s (upper ∷ low ∷ words)) command_taken
      ∙ packet_steps b (due 2 no_operands) upper (sends no_memory (low ∷ words)) (due_ranged no_operands).1 (omega arith)
      ∙ ap (λ s. on s (low ∷ words)) (upper_taken upper (omega arith))
      ∙ packet_steps b (due 1 (with_operand no_operands upper)) low (sends no_memory words) (due_ranged (with_operand no_operands upper)).0 (omega arith)
      ∙ ap (λ s. on s words) (lower_taken upper low (omega arith))
      ∙ ap (λ (x : ℕ). on (standing (board_after (wdmreg r) b 0 x)) words) (div-add-mod' v 65536)

-- GO, of such a board
go_sent : (b : Board) → board_in_range b ≡ true → b.status.halted ≡ true → b.fault ≡ None → after stand_in (standing b) (sends no_memory (0x0C00 ∷ []))
    ≡ standing (board_after go b 0 0)
unfolding fresh_place in_range begun collected work_after plan_for stepped packet_verdict decoded decoded_word after
go_sent b ranged halted none = rw (ranged, halted, none)

module _ (w pbr ablr : ℕ) (small : w ≤ 15) (narrow-pbr : pbr < 2 ^ 32) (narrow-ablr : ablr < 2 ^ 32) where
  pub p5_set_by_packets : after stand_in (made w) (sends no_memory (p5_words pbr ablr)) ≡ standing (p5_board w pbr ablr)
  unfolding fresh_board bstat_in_range decoded decoded_word debug_loaded debug_written
  p5_set_by_packets =
      let fresh = fresh_board w in
      let with-pbr = board_after (wdmreg Pbr) fresh 0 pbr in
      let with-ablr = board_after (wdmreg Ablr) with-pbr 0 ablr in
      let with-aatr = board_after (wdmreg Aatr) with-ablr 0 5 in
      let with-tdr = board_after (wdmreg Tdr) with-aatr 0 0x20042002 in
      let allowed = le-leb w 15 small in
      let from-tdr : List ℕ = 0x2C87 ∷ 0x2004 ∷ 0x2002 ∷ 0x0C00 ∷ [] in
      let from-aatr : List ℕ = 0x2C86 ∷ 0 ∷ 0x0005 ∷ from-tdr in
      let from-ablr : List ℕ = 0x2C8D ∷ ablr / 65536 ∷ ablr % 65536 ∷ from-aatr in
      wdmreg_sent fresh Pbr 0x2C88 (rw allowed) refl refl refl (omega arith) pbr from-ablr narrow-pbr
      ∙ wdmreg_sent with-pbr Ablr 0x2C8D (rw allowed) refl refl refl (omega arith) ablr from-aatr narrow-ablr
      ∙ wdmreg_sent with-ablr Aatr 0x2C86 (rw allowed) refl refl refl (omega arith) 5 from-tdr (omega arith)
      ∙ wdmreg_sent with-aatr Tdr 0x2C87 (rw allowed) refl refl refl (omega arith) 0x20042002 (0x0C00 ∷ []) (omega arith)
      ∙ go_sent with-tdr (rw allowed) refl refl
