-- Laws of the promise of an exchange, at rest: no NOP goes first, a legal request ends as meant, and a WRITE is read back.
use Rattle.std.specs.Prelude.{ℕ, ◌≡◌, refl, true, List, Ok}
use Rattle.std.proofs.Common.{zero-add, ap, ◌∙◌, subst, le-leb}
use Rattle.laws.specs.TestLaws.{by_test, both_hold}
use Rattle.memory.specs.declared.Size.{Size}
use Rattle.memory.specs.declared.Size.TheVariants.{Byte, Word, Long}
use Rattle.memory.specs.Memory.{present}
use Rattle.command.specs.Command.{decoded, decoded_word}
use Rattle.command.specs.Reply.{complete}
use Rattle.board.specs.State.{State, state_of}
use Rattle.sound.specs.Sound.{Sound}
use Rattle.sound.specs.SoundLaws.{sound_is_in_range}
use Rattle.requests.specs.declared.Request.{Request}
use Rattle.requests.specs.declared.Request.TheVariants.{Read, Write}
use Rattle.readings.specs.declared.Outcome.TheVariants.{Value}
use Rattle.requests.specs.Request.{data_in_range, in_range}
use Rattle.round_trip.specs.Meaning.{Scene, meaning}
use Rattle.round_trip.specs.RoundTrip.{resting, scene_of, legal_there, state_there, packets_there}
use Rattle.round_trip.specs.BroughtToRest.{rest_budget, rest_scene, rest_packets}
use Rattle.round_trip.proofs.UnderwayLaws.{rest_stays}
use Rattle.round_trip.proofs.WriteReadLaws.{write_then_read}
use Rattle.round_trip.proofs.NextRequestLaws.{left_sound}
use Rattle.exchange.specs.declared.Returned.{Returned}
use Rattle.exchange_verdict.specs.ExchangeVerdict.{exchange_verdict}
use Rattle.exchange.specs.Exchange.{ExchangeMeets}
use Rattle.exchange.specs.ExchangeUnique.{told_exchange_unique}

pub record FromRest (request : Request) (s : Scene) (next : ℕ) : Type 0 where
  -- it is not refused
  pub verdict : exchange_verdict request (resting s next) ≡ Ok tt
  -- no NOP goes first
  pub scene : rest_scene (resting s next) ≡ s
  pub none : rest_packets (resting s next) ≡ 0

pub from_rest : (request : Request) (s : Scene) (next : ℕ) → in_range request ≡ true → Sound (resting s next) → FromRest request s next
unfolding exchange_verdict
from_rest request s next h f =
    let stays = rest_stays rest_budget (resting s next) refl in
    record {
      verdict = rw (h, sound_is_in_range s.board.w _ _ f.board f.place, le-leb _ _ f.memory.limit);
      scene = ap scene_of stays.0;
      none = stays.1;
    }

-- a legal request exchanged from rest: its meaning
pub record EndsAsMeant (request : Request) (s : Scene) (r : Returned) (after : List ℕ) : Type 0 where
  pub answer : r.answer ≡ Ok ((meaning request s).outcome, packets_there request s)
  pub state : state_of r.board r.place after ≡ resting (meaning request s).leaves complete

pub ends_as_meant : {request : Request} {s : Scene} {next : ℕ} {r : Returned} {after : List ℕ}
    → in_range request ≡ true → Sound (resting s next) → legal_there request s ≡ true → ExchangeMeets request (resting s next) r after
    → EndsAsMeant request s r after
unfolding state_there
ends_as_meant {request} {s} {next} {r} h f legal met =
    let from = from_rest request s next h f in
    record {
      answer =
          told_exchange_unique r.answer (Ok ((meaning request s).outcome, packets_there request s))
          (met.answer ∙ rw (from.verdict, from.scene, from.none, zero-add (packets_there request s), legal));
      state = met.state ∙ rw (from.verdict, from.scene, legal);
    }

-- ---- a WRITE and then a READ of the same place
write_legal : (size : Size) (a v : ℕ) (s : Scene) → legal_there (Write size a v) s ≡ true
unfolding decoded decoded_word
write_legal Byte a v s = by_test s.board.status.halted (λ h. rw h) (λ h. rw h)
write_legal Word a v s = by_test s.board.status.halted (λ h. rw h) (λ h. rw h)
write_legal Long a v s = by_test s.board.status.halted (λ h. rw h) (λ h. rw h)

read_legal : (size : Size) (a : ℕ) (s : Scene) → legal_there (Read size a) s ≡ true
unfolding decoded decoded_word
read_legal Byte a s = by_test s.board.status.halted (λ h. rw h) (λ h. rw h)
read_legal Word a s = by_test s.board.status.halted (λ h. rw h) (λ h. rw h)
read_legal Long a s = by_test s.board.status.halted (λ h. rw h) (λ h. rw h)

-- the READ that follows the WRITE ends in the value written
pub write_is_read_back : {size : Size} {address value : ℕ} {s : Scene} {next : ℕ} {r q : Returned} {after last : List ℕ}
    → in_range (Write size address value) ≡ true → Sound (resting s next) → present s.memory size address ≡ true
    → ExchangeMeets (Write size address value) (resting s next) r after
    → ExchangeMeets (Read size address) (state_of r.board r.place after) q last
    → q.answer ≡ Ok (Value value, packets_there (Read size address) (meaning (Write size address value) s).leaves)
write_is_read_back {size} {address} {value} {s} {next} {q = q} {last = last} h f there wrote read =
    let w : Request = Write size address value in
    let left : Scene = (meaning w s).leaves in
    let legal = write_legal size address value s in
    let asked : in_range (Read size address) ≡ true = (both_hold (data_in_range Long address) (data_in_range size value) h).0 in
    let again =
    ends_as_meant asked (left_sound w s next h legal f) (read_legal size address left)
    (subst (λ (x : State). ExchangeMeets (Read size address) x q last) (ends_as_meant h f legal wrote).state read) in
    again.answer ∙ ap (λ o. Ok (o, packets_there (Read size address) left)) (write_then_read size address value s h there).reads
