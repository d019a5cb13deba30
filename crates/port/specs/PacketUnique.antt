-- A packet: no second answer fits.
use Rattle.std.specs.Prelude.{ℕ, ◌≡◌, List, Err, Ok, Result}
use Rattle.grounds.specs.declared.Ground.{Ground}
use Rattle.std.proofs.Common.{sym, ap, ◌∙◌}
use Rattle.grounds.specs.GroundLaws.{same_number_same_ground, number_is_not_zero}
use Rattle.board.specs.State.{State}
use Rattle.port.specs.declared.Answer.{Answer}
use Rattle.port.specs.Packet.{PacketTold, told_packet, PacketMeets}

-- an answer is known by what it says on paper
told_packet_unique : (x y : Result ℕ Ground) → told_packet x ≡ told_packet y → x ≡ y
told_packet_unique (Ok r) (Ok s) e = ap (λ (t : PacketTold). Ok t.reply) e
told_packet_unique (Ok r) (Err g) e = absurd (number_is_not_zero g (sym (ap (λ (t : PacketTold). t.refusal.number) e)))
told_packet_unique (Err g) (Ok r) e = absurd (number_is_not_zero g (ap (λ (t : PacketTold). t.refusal.number) e))
told_packet_unique (Err g) (Err h) e = ap Err (same_number_same_ground g h (ap (λ (t : PacketTold). t.refusal.number) e))

pub packet_unique : {s : State} {word : ℕ} {q r : Answer} {x y : List ℕ} → PacketMeets s word q x → PacketMeets s word r y → (q ≡ r) × (x ≡ y)
packet_unique {q = q} {r = r} f g =
    let same = f.state ∙ sym g.state in (
      ap (λ o. record { outcome = o; board = q.board; place = q.place }) (told_packet_unique q.outcome r.outcome (f.answer ∙ sym g.answer))
          ∙ ap (λ (s : State). record { outcome = r.outcome; board = s.board; place = s.place }) same,
      ap (λ (s : State). s.memory) same,
    )
