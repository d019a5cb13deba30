-- Demand 3 cannot be met trivially: said of a machine that breaks a rule it is false.
use Rattle.std.specs.Prelude.{ℕ, zero, suc, ◌-◌, ◌≤◌, ◌≡◌, Bool, false, cond, ◌&&◌, eqb, replicate, Err, Ok, Result, ⊤}
use Rattle.grounds.specs.declared.Ground.{Ground}
use Rattle.std.proofs.Common.{sym, ap, ◌∙◌}
use Rattle.std.proofs.Math.Bool.{true, true≢false}
use mathlib.Core.List.{List, [], ◌∷◌}
use Rattle.std.proofs.Math.ListN.{length}
use native.Mathlib.Omega.{arith}
use Rattle.grounds.specs.declared.Ground.TheVariants.{WordTooLarge}
use Rattle.grounds.specs.Grounds.{told}
use Rattle.command.specs.Command.{decoded, decoded_word}
use Rattle.command.specs.Reply.{illegal}
use Rattle.board.specs.declared.Place.{Place}
use Rattle.board.specs.declared.Phase.{Phase}
use Rattle.board.specs.declared.Phase.TheVariants.{Rest, Due, Waiting, Upper}
use Rattle.board.specs.Board.{fresh_board, fresh_place, at_rest}
use Rattle.ranges.specs.Ranges.{in_range, bstat_in_range}
use Rattle.board.specs.Setters.{place_with}
use Rattle.board.specs.State.{State, state_of}
use Rattle.memory.specs.Memory.{fetched}
use Rattle.trigger.specs.declared.Event.{Event}
use Rattle.plan.specs.Plan.{carries_c, work_after, collected, begun, continued}
use Rattle.step.specs.Step.{plan_for, reply_now, stepped}
use Rattle.port.specs.Packet.{packet_verdict}
use Rattle.promises.specs.Machine.{Machine, stand_in}
use Rattle.promises.specs.TakenWords.{stage, closing}
use Rattle.promises.specs.TakenWords.Closing.{reply}
use Rattle.promises.specs.Environment.{Found, trail, AllFit, AllNops}
use Rattle.promises.specs.History.{Call, lending, after, finds, made, Idle}
use Rattle.promises.specs.History.Call.{packet, event}
use Rattle.sound.specs.Sound.{SoundMemory}
use Rattle.promises.specs.Demand3.{Demand3, PlaceDemand3}
use Rattle.promises.proofs.HistoryLaws.{fresh_fits}
use Rattle.promises.specs.LendingLaws.{no_memory, sends}

-- a packet on a fresh board of W = 2, with no memory
abbrev on_fresh : ℕ → Found
on_fresh word = record { board = fresh_board 2; memory = []; word = word }

no_memory_fits : SoundMemory []
no_memory_fits = record { bytes = λ i. omega arith; limit = omega arith }

one_fits : (word : ℕ) → word ≤ 0x1FFFF → AllFit 2 (on_fresh word ∷ [])
one_fits word h = AllFit.more (record { board = (fresh_fits 2 (omega arith)).board; memory = no_memory_fits; word = h }) AllFit.none

nops_fit : (n : ℕ) → AllNops 2 (replicate n (on_fresh 0))
nops_fit zero = AllNops.done
nops_fit (suc n) = AllNops.nop (fresh_board 2) [] (fresh_fits 2 (omega arith)).board no_memory_fits (nops_fit n)

-- A port that is always at rest: whatever else it does, it rests after READ's command word, whose operands are missing.
module _ (k : Machine) (rests : (s : State) (word : ℕ) → (k.step s word).place.phase ≡ Rest) where
  rests_too_soon : at_rest (k.step (state_of (fresh_board 2) fresh_place []) 0x1980).place.phase ≡ false → ⊥
  rests_too_soon e = true≢false (sym (ap at_rest (rests (state_of (fresh_board 2) fresh_place []) 0x1980)) ∙ e)

  pub always_at_rest : Demand3 k → ⊥
  unfolding fresh_board fresh_place trail finds after stage decoded decoded_word
  always_at_rest d =
      let taken : k.verdict (lending (made 2) no_memory) 0x1980 ≡ Ok tt =
      (d.rest 2 (omega arith) []).accepted no_memory 0x1980 (omega arith) (omega arith) in
      rests_too_soon (rw taken at (d.closing 2 (omega arith) (packet no_memory 0x1980 ∷ [])).closes.rests)

  -- and of a place
  pub place_always_at_rest : PlaceDemand3 k → ⊥
  unfolding fresh_board fresh_place trail stage decoded decoded_word
  place_always_at_rest d = rests_too_soon (d.closing 2 (on_fresh 0x1980 ∷ []) (one_fits 0x1980 (omega arith))).rests

-- A port that is never at rest again: it replies 0x10000 for ever, or anything else.
module _ (k : Machine) (moves : (s : State) (word : ℕ) → at_rest (k.step s word).place.phase ≡ false) where
  pub never_at_rest : Demand3 k → ⊥
  unfolding after
  never_at_rest d =
      let five : List Call = sends no_memory (replicate 5 0) in
      let taken : k.verdict (lending (after k (made 2) five) no_memory) 0 ≡ Ok tt =
      (d.rest 2 (omega arith) five).accepted no_memory 0 (omega arith) (omega arith) in
      let brought : at_rest (after k (after k (made 2) five) (packet no_memory 0 ∷ [])).place.phase ≡ true =
      ((d.rest 2 (omega arith) []).nops (replicate 6 no_memory) (sends no_memory (replicate 6 0)) six_nops).enough (omega arith) in
      true≢false (sym (rw taken at brought) ∙ moves (lending (after k (made 2) five) no_memory) 0)
    where
      limit : length no_memory.bytes ≤ 65536
      limit = omega arith

      six_nops : Idle (replicate 6 no_memory) (sends no_memory (replicate 6 0))
      six_nops =
          Idle.nop no_memory limit (Idle.nop no_memory limit (Idle.nop no_memory limit
          (Idle.nop no_memory limit (Idle.nop no_memory limit (Idle.nop no_memory limit Idle.none)))))

  -- and of a place
  pub place_never_at_rest : PlaceDemand3 k → ⊥
  unfolding trail
  place_never_at_rest d =
      true≢false (sym ((d.rest 2 [] (replicate 6 (on_fresh 0)) AllFit.none (nops_fit 6)).enough (omega arith)) ∙ moves (state_of (fresh_board 2) _ []) 0)

-- A port that takes NOPs and nothing else: all else that it promises may hold, since nothing is ever under way.
abbrev pub only_nops : Machine
only_nops = record {
  verdict = λ s word. cond (eqb word 0) (packet_verdict s word) (Err WordTooLarge);
  reply = stand_in.reply;
  step = stand_in.step;
  event = stand_in.event;
  input = stand_in.input;
}

pub refuses_all_but_nops : Demand3 only_nops → ⊥
refuses_all_but_nops d =
    let taken : Err WordTooLarge ≡ Ok tt = (d.rest 2 (omega arith) []).accepted no_memory 1 (omega arith) (omega arith) in
    let z : ◌≡◌ {A = ℕ} (number_told (Err WordTooLarge)) (number_told (Ok tt)) = ap number_told taken in
    omega arith
  where
    number_told : Result ⊤ Ground → ℕ
    number_told v = (told v).number

-- An event that moves the phase, or anything else of the place that a history leads to.
pub event_moves_the_place : (k : Machine) (w : ℕ) → w ≤ 15 → (history : List Call) (e : Event)
    → ((k.event (after k (made w) history) e).place ≡ (after k (made w) history).place → ⊥) → Demand3 k → ⊥
unfolding after
event_moves_the_place k w small history e moved d = moved ((d.rest w small history).nops [] (event e ∷ []) (Idle.with_event e Idle.none)).unmoved.place

-- the proved machine with another step
abbrev pub with_step : (State → ℕ → State) → Machine
with_step step = record { verdict = stand_in.verdict; reply = stand_in.reply; step = step; event = stand_in.event; input = stand_in.input }

abbrev at_place : State → Place → State
at_place s p = state_of s.board p s.memory

abbrev in_phase : State → Phase → State
in_phase s phase = at_place s (place_with s.place phase s.place.chain s.place.pointer s.place.next)

-- work done one packet early: with an operand still missing,
abbrev hasty_operand : Phase → Phase
hasty_operand Rest = Rest
hasty_operand (Due c left t) = Due c (left - 1) t
hasty_operand (Waiting c left address value) = Waiting c left address value
hasty_operand (Upper low) = Upper low

-- or with a packet still to wait
abbrev hasty_wait : Phase → Phase
hasty_wait Rest = Rest
hasty_wait (Due c left t) = Due c left t
hasty_wait (Waiting c left address value) = Waiting c (left - 1) address value
hasty_wait (Upper low) = Upper low

abbrev pub early : (Phase → Phase) → Machine
early hasty = with_step (λ s word. stepped (in_phase s (hasty s.place.phase)) word)

abbrev history : List ℕ → List Call
history words = sends no_memory words

-- WDMREG CSR with one operand of two
pub operand_early : Demand3 (early hasty_operand) → ⊥
unfolding fresh_board fresh_place in_range bstat_in_range decoded decoded_word work_after collected begun continued plan_for stepped packet_verdict trail
    stage finds
operand_early d = true≢false (d.closing 2 (omega arith) (history (0x2C80 ∷ 0 ∷ []))).closes.rests

-- a byte READ with one packet of two waited
pub wait_early : Demand3 (early hasty_wait) → ⊥
unfolding fresh_board fresh_place in_range bstat_in_range fetched decoded decoded_word work_after collected begun continued plan_for stepped packet_verdict
    trail stage
    finds
wait_early d = true≢false (d.closing 2 (omega arith) (history (0x1900 ∷ 0 ∷ 0 ∷ 0 ∷ []))).closes.rests

-- a closing reply that is whatever is held: the next reply never changes
abbrev pub holding : Machine
holding = with_step (λ s word.
    let next = stepped s word in at_place next (place_with next.place next.place.phase next.place.chain next.place.pointer s.place.next))

-- 0x19C0 is illegal
pub whatever_is_held : Demand3 holding → ⊥
unfolding fresh_board fresh_place in_range bstat_in_range decoded decoded_word begun plan_for reply_now stepped packet_verdict trail stage finds
whatever_is_held d = let z : ◌≡◌ {A = ℕ} 0x0FFFF 0x1FFFF = (d.closing 2 (omega arith) (history (0x19C0 ∷ []))).closes.next in omega arith

-- a dropped command with two closing replies: 0x1FFFF leaves as an upper word does, and once more at rest
abbrev is_due : Phase → Bool
is_due Rest = false
is_due (Due c left t) = true
is_due (Waiting c left address value) = false
is_due (Upper low) = false

abbrev pub twice : Machine
twice = with_step (λ s word. cond (is_due s.place.phase && carries_c word) (in_phase (stepped s word) (Upper illegal)) (stepped s word))

-- WDMREG CSR, dropped at its first operand
pub two_closing_replies : Demand3 twice → ⊥
unfolding fresh_board fresh_place in_range bstat_in_range decoded decoded_word collected begun continued plan_for stepped packet_verdict trail stage finds
two_closing_replies d = true≢false (sym (d.closing 2 (omega arith) (history (0x2C80 ∷ 0x10000 ∷ []))).closes.rests)

-- an event that brings the port to rest, so that the command under way is lost
abbrev pub resting : Machine
resting = record {
  verdict = stand_in.verdict;
  reply = stand_in.reply;
  step = stand_in.step;
  event = λ s e. in_phase s Rest;
  input = stand_in.input;
}

pub event_moves_the_phase : (e : Event) → Demand3 resting → ⊥
unfolding fresh_board fresh_place in_range bstat_in_range decoded decoded_word work_after collected begun continued plan_for stepped packet_verdict after
event_moves_the_phase e =
    event_moves_the_place resting 2 (omega arith) (history (0x2C80 ∷ [])) e (λ same. true≢false (ap (λ (p : Place). at_rest p.phase) same))
