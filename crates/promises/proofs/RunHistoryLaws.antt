-- The promises are about the code: an accepted run of packets (`take_packets`) is a history of its packets, each lent the memory that the
-- one before it left, and their closing replies are the run's. A refused run changes nothing, so that it is no call at all.
use Prim.Native.Nat.{ℕ, zero, suc, ◌%◌, ◌≤◌, ◌<◌}
use Rattle.std.specs.Prelude.{◌≡◌, true, leb, get_or, take, drop, Ok}
use Rattle.std.proofs.Math.Path.{refl, ap}
use Rattle.std.proofs.Common.{sym, ap₂, ◌∙◌, arith, leb-true}
use mathlib.Core.List.{List, [], ◌∷◌, ◌++◌, map}
use Rattle.std.proofs.Math.ListN.{length}
use Rattle.laws.specs.TestLaws.{both_hold}
use Rattle.grounds.specs.declared.Ground.TheVariants.{WordTooLarge, MemoryTooLong, BufferTooShort, StateOutOfRange}
use Rattle.grounds.specs.Grounds.{check, if_accepted}
use Rattle.grounds.specs.GroundLaws.{accepted_holds}
use Rattle.memory.specs.Memory.{AllBelow}
use Rattle.ranges.specs.Ranges.{in_range}
use Rattle.board.specs.State.{State, state_of}
use Rattle.step.specs.Step.{reply_now, stepped}
use Rattle.port.specs.Packet.{packet_verdict}
use Rattle.run.specs.declared.Ran.{Ran}
use Rattle.run.specs.Run as run
use Rattle.sound.specs.Sound.{SoundMemory}
use Rattle.sound.specs.SoundLaws.{packet_keeps_memory}
use Rattle.promises.specs.Machine.{Machine, stand_in}
use Rattle.promises.specs.Environment.{Found, Handed, handed}
use Rattle.promises.specs.History.{Lent, Call, lending, after, finds, made}
use Rattle.promises.specs.History.Call.{packet}
use Rattle.promises.proofs.HistoryLaws.{Fits, within_is_accepted, packet_fits, fresh_fits, history_fits, after_both}
use Rattle.promises.specs.Demand3.{next_reply, trail_of}
use Rattle.promises.proofs.Demand3Laws.{closing_replies}
use Rattle.promises.specs.RunHistory.{as_bytes, lent_as, packets_of, replies_to, RunIsItsPackets, RunCloses}

-- bytes are lent as they are
pub bytes_as_they_are : (xs : List ℕ) → AllBelow 256 xs → as_bytes xs ≡ xs
bytes_as_they_are [] h = refl
bytes_as_they_are (x ∷ xs) h =
    let byte : x < 256 = h 0 in
    let same : x % 256 ≡ x = omega arith in
    ap₂ (λ (y : ℕ) (ys : List ℕ). y ∷ ys) same (bytes_as_they_are xs (λ i. h (suc i)))

-- so lent again, they are the state's own
lent_again : (s : State) → AllBelow 256 s.memory → lending s (lent_as s.memory) ≡ s
lent_again s h = ap (λ (m : List ℕ). state_of s.board s.place m) (bytes_as_they_are s.memory h)

-- an accepted packet that is lent the state's own memory: what calls leave and find from there on
module _ (s : State) (m : Lent) (word : ℕ) (calls : List Call) (own : lending s m ≡ s) (accepted : packet_verdict s word ≡ Ok tt) where
  own_after : after stand_in s (packet m word ∷ calls) ≡ after stand_in (stepped s word) calls
  unfolding after
  own_after = ap (λ (x : State). after stand_in (if_accepted (packet_verdict x word) (stepped x word) x) calls) own ∙ rw accepted

  own_finds : finds stand_in s (packet m word ∷ calls) ≡ record { board = s.board; memory = s.memory; word = word } ∷ finds stand_in (stepped s word) calls
  unfolding finds
  own_finds = ap found own ∙ rw accepted
    where
      found : State → List Found
      found x =
          let rest = finds stand_in (if_accepted (packet_verdict x word) (stepped x word) x) calls in
          if_accepted (packet_verdict x word) (record { board = x.board; memory = x.memory; word = word } ∷ rest) rest

-- a run as its packets: what they leave, what they carry out, how many are accepted
pub record IsRun (s : State) (words : List ℕ) : Type 0 where
  pub ends : after stand_in s (packets_of s words) ≡ run.ran words s
  pub replies : replies_to s (packets_of s words) ≡ run.replies words s
  pub accepted : length (finds stand_in s (packets_of s words)) ≡ length words

module _ (w : ℕ) where
  pub run_is : (words : List ℕ) (s : State) → Fits w s → SoundMemory s.memory → run.all_within words ≡ true → IsRun s words
  unfolding run.ran run.replies run.all_within after finds handed packets_of
  run_is [] s h l e = record { ends = refl; replies = refl; accepted = refl }
  run_is (word ∷ words) s h l e =
      let both = both_hold (leb word 0x1FFFF) (run.all_within words) e in
      let lent : Lent = record { bytes = s.memory; narrow = l.bytes } in
      let taken : packet_verdict s word ≡ Ok tt = within_is_accepted w s h lent word l.limit (leb-true word 0x1FFFF both.0) in
      let next : IsRun (stepped s word) words =
      run_is words (stepped s word) (packet_fits w s h lent word l) (packet_keeps_memory w s h.board h.place l word) both.1 in
      let calls = packets_of (stepped s word) words in
      let found = own_finds s (lent_as s.memory) word calls (lent_again s l.bytes) taken in
      record {
        ends = own_after s (lent_as s.memory) word calls (lent_again s l.bytes) taken ∙ next.ends;
        replies = ap (λ (fs : List Found). map (λ (h : Handed). h.reply) (handed stand_in s.place fs)) found
            ∙ ap (λ (rs : List ℕ). reply_now s.place ∷ rs) next.replies;
        accepted = ap length found ∙ ap suc next.accepted;
      }

-- an accepted run has passed grounds 3 and 1
accepted_run : (s : State) (words : List ℕ) (room : ℕ) → run.run_verdict s words room ≡ Ok tt → (length s.memory ≤ 65536) × (run.all_within words ≡ true)
unfolding run.run_verdict
accepted_run s words room e =
    let fits = check (leb (length words) room) BufferTooShort ∷ [] in
    let small = check (run.all_within words) WordTooLarge ∷ fits in
    let short = check (leb (length s.memory) 65536) MemoryTooLong ∷ small in
    let past-12 = (accepted_holds (in_range s.board s.place) StateOutOfRange short e).1 in
    let past-3 = accepted_holds (leb (length s.memory) 65536) MemoryTooLong small past-12 in
    (leb-true _ _ past-3.0, (accepted_holds (run.all_within words) WordTooLarge fits past-3.1).0)

-- ---- a part of the run
within_taken : (words : List ℕ) (i : ℕ) → run.all_within words ≡ true → run.all_within (take i words) ≡ true
unfolding run.all_within
within_taken [] zero h = refl
within_taken [] (suc i) h = refl
within_taken (word ∷ words) zero h = refl
within_taken (word ∷ words) (suc i) h =
    let both = both_hold (leb word 0x1FFFF) (run.all_within words) h in rw both.0 (within_taken words i both.1)

reply_at_lem : (words : List ℕ) (s : State) (i : ℕ) (beyond : List ℕ) → i < length words
    → get_or (run.replies words s ++ beyond) i 0 ≡ reply_now (run.ran (take i words) s).place
unfolding run.ran run.replies
reply_at_lem [] s i beyond h = absurd (omega arith)
reply_at_lem (word ∷ words) s zero beyond h = refl
reply_at_lem (word ∷ words) s (suc i) beyond h = reply_at_lem words (stepped s word) i beyond (omega arith)

-- ---- a history and the run after it
-- a packet's memory is lent with it, so it does not matter what stood there
pub after_lending : (s : State) (m next : Lent) (words : List ℕ)
    → lending (after stand_in s (packets_of (lending s m) words)) next ≡ lending (after stand_in (lending s m) (packets_of (lending s m) words)) next
unfolding after packets_of
after_lending s m next [] = refl
after_lending s m next (word ∷ words) = refl

module _ (w : ℕ) (small : w ≤ 15) (history : List Call) (m : Lent) (words before : List ℕ) (r : Ran) (memory out : List ℕ)
    (meets : run.RunMeets (lending (after stand_in (made w) history) m) words before r memory out)
    (accepted : run.run_verdict (lending (after stand_in (made w) history) m) words (length before) ≡ Ok tt) where
  abbrev found : State
  found = lending (after stand_in (made w) history) m

  fits : Fits w found
  fits = let reached = history_fits w (made w) history (fresh_fits w small) in record { board = reached.board; place = reached.place }

  passed : (length m.bytes ≤ 65536) × (run.all_within words ≡ true)
  passed = accepted_run found words (length before) accepted

  part : (i : ℕ) → IsRun found (take i words)
  part i = run_is w (take i words) found fits (record { limit = passed.0; bytes = m.narrow }) (within_taken words i passed.1)

  whole : IsRun found words
  whole = run_is w words found fits (record { limit = passed.0; bytes = m.narrow }) passed.1

  state : state_of r.board r.place memory ≡ run.ran words found
  state = meets.state ∙ rw accepted

  -- From any state that a history leads to, with some memory lent, an accepted run is its packets.
  pub run_is_its_packets : RunIsItsPackets w history m words before r memory out
  run_is_its_packets = record {
    accepted = whole.accepted;
    state = state ∙ sym whole.ends;
    replies = meets.answers ∙ rw accepted (ap (λ (rs : List ℕ). rs ++ drop (length words) before) (sym whole.replies));
  }

  -- where the history leads to that goes on with a part of the run
  place_there : (some : List ℕ) → IsRun found some → (after stand_in (made w) (history ++ packets_of found some)).place ≡ (run.ran some found).place
  place_there some is =
      ap (λ (s : State). s.place) (after_both (made w) history (packets_of found some))
      ∙ ap (λ (s : State). s.place) (after_lending (after stand_in (made w) history) m m some)
      ∙ ap (λ (s : State). s.place) is.ends

  carried : (i : ℕ) → i < length words → get_or out i 0 ≡ next_reply (trail_of stand_in w (history ++ packets_of found (take i words))).words
  carried i h =
      let closes = closing_replies w small (history ++ packets_of found (take i words)) in
      let replies : out ≡ run.replies words found ++ drop (length words) before = meets.answers ∙ rw accepted in
      ap (λ (rs : List ℕ). get_or rs i 0) replies
      ∙ reply_at_lem words found i (drop (length words) before) h
      ∙ ap reply_now (sym (place_there (take i words) (part i)) ∙ closes.place)
      ∙ closes.closes.next

  -- The closing replies of demand 3 hold of an accepted run.
  pub run_closes : RunCloses w history m words before r memory out
  run_closes = record {
    closing = closing_replies w small (history ++ packets_of found words);
    place = ap (λ (s : State). s.place) state ∙ sym (place_there words whole);
    carries = carried;
  }
