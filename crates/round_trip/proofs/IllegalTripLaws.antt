-- The round trip of an illegal word: a pod that sends all the words it built, and NOPs after them, reads illegal, and what that leaves.
use Rattle.std.specs.Prelude.{ℕ, ◌+◌, ◌≤◌, ◌≡◌, refl, true, false, List, [], ◌∷◌, ◌++◌, length, Option, Ok, Some}
use Rattle.memory.specs.declared.Size.{Size}
use Rattle.std.proofs.Common.{arith, ◌∙◌}
use Rattle.command.specs.Reply.{illegal}
use Rattle.board.specs.Board.{at_rest}
use Rattle.board.specs.State.{State}
use Rattle.step.specs.Step.{reply_now, stepped}
use Rattle.run.specs.Run.{ran, replies}
use Rattle.sound.specs.Sound.{Sound}
use Rattle.sound.specs.SoundLaws.{packet_keeps_w}
use Rattle.rest.specs.ToGoLaws.{to_go_at_most}
use Rattle.requests.specs.declared.Request.{Request}
use Rattle.requests.specs.Request.{in_range, kind_of}
use Rattle.building.specs.RequestWords.{command_word, operands, built_words}
use Rattle.readings.specs.declared.Outcome.TheVariants.{Illegal}
use Rattle.readings.specs.declared.Reader.TheVariants.{Closed}
use Rattle.readings.specs.Reading.{reading_of}
use Rattle.readings.specs.ReaderLaws.{done_stays, done_uses_none}
use Rattle.round_trip.specs.Meaning.{Scene}
use Rattle.round_trip.specs.RoundTrip.{nops, resting, unchained, legal_there, all_words, IllegalTrip}
use Rattle.round_trip.specs.PacketTakenLaws.{illegal_taken}
use Rattle.round_trip.proofs.BroughtToRestLaws.{nops_rest}
use Rattle.round_trip.proofs.TalkLaws.{words_length}
use Rattle.round_trip.proofs.NextRequestLaws.{ran_append, run_keeps_sound}

-- a place at rest that holds 0x1FFFF: whatever is sent, the first reply closes
illegal_read : (kind : Option Size) (words : List ℕ) (s : Scene) → 1 ≤ length words → reading_of kind (replies words (resting s illegal)) ≡ Ok (Some Illegal, 1)
unfolding replies reply_now
illegal_read kind [] s some = absurd (omega arith)
illegal_read kind (word ∷ words) s some =
    let later = replies words (stepped (resting s illegal) word) in
    rw (done_stays kind (Closed Illegal) later refl, done_uses_none kind (Closed Illegal) later refl)

run_keeps_w : (words : List ℕ) (s : State) → (ran words s).board.w ≡ s.board.w
unfolding ran
run_keeps_w [] s = refl
run_keeps_w (word ∷ words) s = run_keeps_w words (stepped s word) ∙ packet_keeps_w s word

-- after any words, 4 + W NOPs bring the port to rest
nops_bring_to_rest : (words : List ℕ) (n : ℕ) (s : State) → Sound s → 4 + s.board.w ≤ n → at_rest (ran (words ++ nops n) s).place.phase ≡ true
nops_bring_to_rest words n s f enough =
    let s' = ran words s in
    let f' = run_keeps_sound words s f in
    rw (ran_append words (nops n) s)
    (nops_rest n s' f' (omega (arith, to_go_at_most s'.board.w s'.place.phase f'.place.phase, run_keeps_w words s)))

-- for every W: the place may hold any chain, pointer and next reply, and at least one packet goes out after the command word
pub illegal_trip_whole : (request : Request) (n : ℕ) (s : Scene) (next : ℕ) → in_range request ≡ true → legal_there request s ≡ false
    → 1 ≤ length (operands request) + n
    → IllegalTrip request n s next
unfolding replies ran
illegal_trip_whole request n s next h l some =
    let taken = illegal_taken (command_word request) next s l in
    let words = operands request ++ nops n in
    let more : 1 ≤ length words = omega (arith, words_length (operands request) n) in
    record {
      not_yet = rw h;
      answer = rw (h, taken) (illegal_read (kind_of request) words (unchained s) more);
      told = rw taken;
      state = rw (ran, taken);
      sound = run_keeps_sound (all_words request n) (resting s next);
      rests = nops_bring_to_rest (built_words request) n (resting s next);
    }
