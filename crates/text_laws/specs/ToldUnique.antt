-- Different answers never have the same text: each is read back from it.
use Rattle.std.specs.Prelude.{ℕ, ◌+◌, ◌^◌, ◌<◌, ◌≡◌, List, drop, Result, Option}
use Rattle.firing.specs.declared.Pressed.{Pressed}
use Rattle.firing.specs.declared.Seen.{Seen}
use Rattle.std.proofs.Common.{ap, sym, ◌∙◌}
use Rattle.grounds.specs.declared.Ground.{Ground}
use Rattle.readings.specs.declared.Outcome.{Outcome}
use Rattle.refusal_text.specs.RefusalText.{refused_at}
use Rattle.request_text.specs.RequestText.{reading_text, exchange_text}
use Rattle.replies.specs.ReplyText.{packet_text, event_text, breakpoint_text}
use Rattle.text_laws.specs.ReadBackLaws.{decimal_value}
use Rattle.text_laws.specs.ToldBackLaws.{refusal_of, refusal_back, cycle_of, cycle_back, packet_of, PacketHeld, packet_back}
use Rattle.text_laws.specs.ToldBackLaws.{outcome_of, number_at, OutcomeHeld, exchange_back, reading_of, ReadingHeld, reading_back}
use Rattle.text_laws.specs.ToldBackLaws.{event_of, EventHeld, event_back, breakpoint_of, breakpoint_back}

-- a refusal, of a trace at its cycle: `refused N at C`
pub refusal_unique : (g h : Ground) (c d : ℕ) → refused_at g c ≡ refused_at h d → (g ≡ h) × (c < 10 ^ 20 → d < 10 ^ 20 → c ≡ d)
refusal_unique g h c d e = (
  sym (refusal_back g c) ∙ ap refusal_of e ∙ refusal_back h d,
  λ small below. sym (cycle_back g c small) ∙ ap cycle_of e ∙ cycle_back h d below,
)

-- the answers to a packet: `reply X` or `refused N at 0`
pub packet_text_unique : (o q : Result ℕ Ground) → PacketHeld o → PacketHeld q → packet_text o ≡ packet_text q → o ≡ q
packet_text_unique o q h k e = sym (packet_back o h) ∙ ap packet_of e ∙ packet_back q k

pub event_text_unique : (o q : Result Seen Ground) → EventHeld o → EventHeld q → event_text o ≡ event_text q → o ≡ q
event_text_unique o q h k e = sym (event_back o h) ∙ ap event_of e ∙ event_back q k

pub breakpoint_text_unique : (o q : Result Pressed Ground) → breakpoint_text o ≡ breakpoint_text q → o ≡ q
breakpoint_text_unique o q e = sym (breakpoint_back o) ∙ ap breakpoint_of e ∙ breakpoint_back q

-- what the pod read: `value V used N`, .., `refused N at 0`
pub reading_text_unique : (r s : Result (Option Outcome × ℕ) Ground) → ReadingHeld r → ReadingHeld s → reading_text r ≡ reading_text s → r ≡ s
reading_text_unique r s h k e = sym (reading_back r h) ∙ ap reading_of e ∙ reading_back s k

-- what talk says of a request: `value V packets N`, ..
pub exchange_text_unique : (o q : Outcome) (m n : ℕ) → OutcomeHeld o → OutcomeHeld q → m < 10 ^ 20 → n < 10 ^ 20 → exchange_text o m ≡ exchange_text q n
    → (o ≡ q) × (m ≡ n)
exchange_text_unique o q m n h k small below e =
    let left = exchange_back o m h small in
    let right = exchange_back q n k below in (
      sym left.0 ∙ ap outcome_of e ∙ right.0,
      sym left.1 ∙ ap (λ (t : List ℕ). decimal_value (drop (number_at t + 9) t)) e ∙ right.1,
    )
