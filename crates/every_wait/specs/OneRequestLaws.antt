-- Laws: one request at another wait setting. It is refused or legal alike, its result is the same, and it leaves the same but for W.
use Rattle.std.specs.Prelude.{ℕ, zero, suc, ◌≤◌, ◌≡◌, refl, true, false, ◌||◌, not, [], ◌∷◌, ◌++◌, length, Err, Ok, Result as StdResult, ⊤}
use Rattle.grounds.specs.declared.Ground.{Ground}
use Rattle.std.proofs.Common.{arith, ap, sym, ◌∙◌, subst}
use Rattle.laws.specs.TestLaws.{by_test, both_hold}
use Rattle.memory.specs.declared.Size.TheVariants.{Byte, Word, Long}
use Rattle.memory.specs.Memory.{AllBelow}
use Rattle.command.specs.declared.Command.{Command}
use Rattle.command.specs.declared.Command.TheVariants.{Unknown, Nop, Load, Store, Show, Change}
use Rattle.command.specs.declared.Base.TheVariants.{Address, Pointer}
use Rattle.command.specs.declared.Source.TheVariants as source
use Rattle.command.specs.declared.Target.TheVariants as target
use Rattle.command.specs.Command.{decoded, operand_words, halted_only, waits}
use Rattle.command.specs.Reply.{complete, illegal}
use Rattle.board.specs.declared.Chain.TheVariants.{Off}
use Rattle.board.specs.declared.Phase.{Phase}
use Rattle.board.specs.declared.Phase.TheVariants.{Rest, Due, Waiting, Upper}
use Rattle.board.specs.declared.Standing.{Standing}
use Rattle.board.specs.Setters.{with_w}
use Rattle.board.specs.State.{State}
use Rattle.work.specs.declared.Ending.{Ending}
use Rattle.work.specs.declared.Ending.TheVariants.{Complete, Failed, OneWord, TwoWords}
use Rattle.access.specs.Access.{access_of}
use Rattle.work.specs.Work.{ending_of, phase_after}
use Rattle.legality.specs.Legality.{follows, legal_command}
use Rattle.plan.specs.Plan.{no_operands, address_in, value_in, carries_c, legal_word, collected}
use Rattle.step.specs.Step.{left, stepped}
use Rattle.sound.specs.Sound.{SoundBoard, SoundPlace, PhaseWithin, Sound}
use Rattle.sound.specs.SoundLaws.{sound_is_in_range}
use Rattle.requests.specs.declared.Request.{Request}
use Rattle.requests.specs.Request.{in_range}
use Rattle.round_trip.specs.Meaning.{Scene}
use Rattle.round_trip.specs.RoundTrip.{nops, resting, unchained, standing_in, legal_there, outcome_there, second_word, state_there, words_there}
use Rattle.round_trip.specs.BroughtToRest.{rest_scene, rest_packets}
use Rattle.round_trip.specs.PacketTakenLaws.{waits_none, due_none, due_more, scene_taken, command_taken, illegal_taken}
use Rattle.round_trip.proofs.NextRequestLaws.{run_keeps_sound}
use Rattle.round_trip.proofs.WholeRunLaws.{legal_run, illegal_run}
use Rattle.round_trip.proofs.EveryWLaws.{at_w, same_at_every_w}
use Rattle.exchange_verdict.specs.ExchangeVerdict.{exchange_verdict}
use Rattle.exchange.specs.Exchange.{exchange_leaves}
use Rattle.exchange.specs.ExchangeLaws.{accepted_is_within}
use Rattle.building.specs.RequestWords.{command_word}
use Rattle.every_wait.specs.EveryWait.{Result, is_legal, answer_to, result_of}
use Rattle.every_wait.specs.SettledLaws.{at_setting, work_at, rest_at}

-- ---- between requests nothing waits
abbrev pub Free : Phase → Type 0
Free Rest = Unit {0}
Free (Due c left t) = Unit {0}
Free (Waiting c left address value) = ⊥
Free (Upper low) = Unit {0}

-- what an exchange finds and leaves
pub record Ready (s : State) : Type 0 where
  pub board : SoundBoard s.board.w s.board
  pub place : SoundPlace s.board.w s.place
  pub free : Free s.place.phase
  pub bytes : AllBelow 256 s.memory

free_within : (v w : ℕ) (phase : Phase) → Free phase → PhaseWithin v phase → PhaseWithin w phase
free_within v w Rest f h = tt
free_within v w (Due c left t) f h = h
free_within v w (Waiting c left a d) f h = absurd f
free_within v w (Upper low) f h = h

pub ready_at : {s : State} (w : ℕ) → w ≤ 15 → Ready s → Ready (at_setting w s)
ready_at {s} w small r =
    let b = r.board in
    record {
      board = record { setting = refl; small = small; bstat = b.bstat; general = b.general; control = b.control; debug = b.debug };
      place =
          record {
            phase = free_within s.board.w w s.place.phase r.free r.place.phase;
            next = r.place.next;
            pointer = r.place.pointer;
          };
      free = r.free;
      bytes = r.bytes;
    }

pub ready_sound : {s : State} → Ready s → length s.memory ≤ 65536 → Sound s
ready_sound r limit = record { board = r.board; place = r.place; memory = record { limit = limit; bytes = r.bytes } }

-- ---- the word behind an illegal command word, taken at rest with no chain
-- a command without operand words that is legal there acts at once: DUMP, which waits, needs a chain
at_once : (c : Command) → follows c Off ≡ true → operand_words c ≡ 0 → waits c ≡ false
at_once Unknown h e = cc
at_once Nop h e = refl
at_once (Load size Address) h e = absurd (omega arith)
at_once (Load size Pointer) h e = cc
at_once (Store Byte Address) h e = absurd (omega arith)
at_once (Store Word Address) h e = absurd (omega arith)
at_once (Store Long Address) h e = absurd (omega arith)
at_once (Store size Pointer) h e = cc
at_once (Show (source.General n)) h e = refl
at_once (Show source.Control) h e = absurd (omega arith)
at_once (Show source.Csr) h e = refl
at_once (Change (target.General n)) h e = absurd (omega arith)
at_once (Change target.Control) h e = absurd (omega arith)
at_once (Change (target.Debug r)) h e = absurd (omega arith)
at_once (Change target.Run) h e = refl
at_once (Change target.Sync) h e = refl

legal_follows : (word : ℕ) (s : Standing) → legal_word word s ≡ true → follows (decoded word) s.chain ≡ true
legal_follows word s l =
    let c = decoded word in
    let legal = (both_hold (not (carries_c word)) (legal_command c s) l).1 in
    (both_hold (s.halted || not (halted_only c)) (follows c s.chain) legal).1

free_after : (e : Ending) → Free (phase_after e)
free_after Complete = tt
free_after Failed = tt
free_after (OneWord v) = tt
free_after (TwoWords v) = tt

pub record SecondTaken (w : ℕ) (s : Scene) (word : ℕ) : Type 0 where
  pub same : stepped (resting (unchained (at_w w s)) illegal) word ≡ at_setting w (stepped (resting (unchained s) illegal) word)
  pub free : Free (stepped (resting (unchained s) illegal) word).place.phase

module _ (w : ℕ) (s : Scene) (word : ℕ) where
  abbrev behind : State
  behind = resting (scene_taken word (unchained s)) illegal

  taken_on : (n : ℕ) → operand_words (decoded word) ≡ n → follows (decoded word) Off ≡ true
      → (left (collected w n (decoded word) no_operands) (at_setting w behind) ≡ at_setting w (left (collected s.board.w n (decoded word) no_operands) behind))
      × Free (left (collected s.board.w n (decoded word) no_operands) behind).place.phase
  taken_on zero e h =
      let c = decoded word in
      let a = address_in (operand_words c) no_operands in
      let v = value_in (operand_words c) no_operands in
      rw (due_none w c no_operands, due_none s.board.w c no_operands, at_once c h e, waits_none c a v)
      (work_at w c a v behind, free_after (ending_of c behind.board a (access_of c behind.memory behind.place.pointer a)))
  taken_on (suc n) e h = rw (due_more w n (decoded word) no_operands, due_more s.board.w n (decoded word) no_operands) (refl, tt)

  pub second_taken : SecondTaken w s word
  second_taken =
      by_test (legal_word word (standing_in (unchained s)))
      (λ l.
      let c = decoded word in
      let here = command_taken c word illegal (unchained s) refl l in
      let there = command_taken c word illegal (unchained (at_w w s)) refl l in
      let on = taken_on (operand_words c) refl (legal_follows word (standing_in (unchained s)) l) in
      record { same = there ∙ on.0 ∙ ap (at_setting w) (sym here); free = rw here on.1 })
      (λ l.
      let here = illegal_taken word illegal (unchained s) l in
      record { same = illegal_taken word illegal (unchained (at_w w s)) l ∙ ap (at_setting w) (sym here); free = rw here tt })

-- ---- a request from rest
module _ (w : ℕ) (request : Request) (s : Scene) where
  outcome_at : outcome_there request (at_w w s) ≡ outcome_there request s
  outcome_at = rw (same_at_every_w w s request).meant

  state_at : state_there request (at_w w s) ≡ at_setting w (state_there request s)
  unfolding state_there
  state_at =
      by_test (legal_there request s)
      (λ l. rw l (ap (λ m. resting m.leaves complete) (same_at_every_w w s request).meant))
      (λ l. rw l (second_taken w s (second_word request)).same)

  free_there : Free (state_there request s).place.phase
  unfolding state_there
  free_there = by_test (legal_there request s) (λ l. rw l tt) (λ l. rw l (second_taken w s (second_word request)).free)

-- ---- a request
sound_there : (request : Request) {s : State} → in_range request ≡ true → Sound s → Sound (state_there request (rest_scene s))
sound_there request {s} h f =
    by_test (legal_there request (rest_scene s))
    (λ l.
    let words = nops (rest_packets s) ++ words_there request (rest_scene s) in
    subst Sound (legal_run request s h f l).state (run_keeps_sound words s f))
    (λ l.
    let words = nops (rest_packets s) ++ (command_word request ∷ second_word request ∷ []) in
    subst Sound (illegal_run request s h f l).state (run_keeps_sound words s f))

pub verdict_at : (w : ℕ) (request : Request) {s : State} → w ≤ 15 → Ready s → exchange_verdict request (at_setting w s) ≡ exchange_verdict request s
unfolding exchange_verdict
verdict_at w request {s} small r =
    let q = ready_at w small r in
    rw (sound_is_in_range s.board.w s.board s.place r.board r.place, sound_is_in_range w (with_w s.board w) s.place q.board q.place)

pub record SameRequest (w : ℕ) (request : Request) (s : State) : Type 0 where
  pub legal : is_legal request (at_setting w s) ≡ is_legal request s
  pub result : result_of (answer_to request (at_setting w s)) ≡ result_of (answer_to request s)
  pub leaves : exchange_leaves request (at_setting w s) ≡ at_setting w (exchange_leaves request s)
  pub ready : Ready (exchange_leaves request s)

pub same_request : (w : ℕ) (request : Request) {s : State} → w ≤ 15 → Ready s → SameRequest w request s
same_request w request {s} small r = by_verdict (exchange_verdict request s) refl
  where
    by_verdict : (v : StdResult ⊤ Ground) → exchange_verdict request s ≡ v → SameRequest w request s
    by_verdict (Err why) e =
        let e' = verdict_at w request small r ∙ e in record { legal = rw (e, e'); result = rw (e, e'); leaves = rw (e, e'); ready = rw e r }
    by_verdict (Ok _) e =
        let e' = verdict_at w request small r ∙ e in
        let within = accepted_is_within request s e in
        let f = ready_sound r within.memory in
        let rests = rest_at w s f (ready_sound (ready_at w small r) within.memory) in
        let there = rest_scene s in
        let g = sound_there request within.asked f in
        record {
          legal = rw (e, e', rests);
          result = rw (e, e', rests) (ap Result.came (outcome_at w request there));
          leaves = rw (e, e', rests) (state_at w request there);
          ready = rw e (record { board = g.board; place = g.place; free = free_there w request there; bytes = g.memory.bytes });
        }
