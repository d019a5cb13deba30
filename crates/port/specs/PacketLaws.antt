-- Laws of a packet: a refusal changes nothing, and each ground comes in its order.
use Rattle.std.specs.Prelude.{ℕ, ◌≤◌, ◌<◌, ◌≡◌, true, false, List, length, Err, Ok}
use Rattle.std.proofs.Common.{ap, ◌∙◌}
use borrow.Author.Tests.{le-leb, lt-leb}
use Rattle.grounds.specs.declared.Ground.{Ground}
use Rattle.grounds.specs.declared.Ground.TheVariants.{WordTooLarge, MemoryTooLong, StateOutOfRange}
use Rattle.ranges.specs.Ranges.{in_range}
use Rattle.board.specs.State.{State}
use Rattle.port.specs.declared.Answer.{Answer}
use Rattle.port.specs.Packet.{packet_verdict, PacketTold, PacketMeets, Unaltered, Stepped}

pub refusal_changes_nothing : {s : State} {word : ℕ} {r : Answer} {after : List ℕ} (g : Ground)
    → PacketMeets s word r after → packet_verdict s word ≡ Err g → Unaltered s g r after
refusal_changes_nothing g f e = record { numbered = ap (λ (t : PacketTold). t.refusal.number) f.answer ∙ rw e; state = f.state ∙ rw e }

pub accepted_takes_its_step : {s : State} {word : ℕ} {r : Answer} {after : List ℕ}
    → PacketMeets s word r after → packet_verdict s word ≡ Ok tt → Stepped s word r after
accepted_takes_its_step f e = record {
  unrefused = ap (λ (t : PacketTold). t.refusal.number) f.answer ∙ rw e;
  reply = ap (λ (t : PacketTold). t.reply) f.answer ∙ rw e;
  state = f.state ∙ rw e;
}

-- "packets 12, 3, 1"
module _ (s : State) (word : ℕ) where
  pub twelve_first : in_range s.board s.place ≡ false → packet_verdict s word ≡ Err StateOutOfRange
  unfolding packet_verdict
  twelve_first e = rw e

  pub then_three : in_range s.board s.place ≡ true → 65536 < length s.memory → packet_verdict s word ≡ Err MemoryTooLong
  unfolding packet_verdict
  then_three e h = rw (e, lt-leb _ _ h)

  pub then_one : in_range s.board s.place ≡ true → length s.memory ≤ 65536 → 0x1FFFF < word → packet_verdict s word ≡ Err WordTooLarge
  unfolding packet_verdict
  then_one e h k = rw (e, le-leb _ _ h, lt-leb _ _ k)

  pub no_other : in_range s.board s.place ≡ true → length s.memory ≤ 65536 → word ≤ 0x1FFFF → packet_verdict s word ≡ Ok tt
  unfolding packet_verdict
  no_other e h k = rw (e, le-leb _ _ h, le-leb _ _ k)
