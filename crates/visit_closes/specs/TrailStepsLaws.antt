-- Demand 3's command words, packet by packet: what a packet is for the last word, by the port's phase, and the words of a history that goes on.
use Rattle.std.specs.Prelude.{ℕ, suc, ◌≤◌, ◌≡◌, refl, true, false, List, [], ◌∷◌, ◌++◌, Err, Ok, Result, ⊤}
use Rattle.grounds.specs.declared.Ground.{Ground}
use Rattle.std.proofs.Common.{ap, ◌∙◌}
use Rattle.grounds.specs.Grounds.{if_accepted}
use Rattle.board.specs.declared.Phase.{Phase}
use Rattle.board.specs.declared.Phase.TheVariants.{Rest, Due, Waiting, Upper}
use Rattle.board.specs.declared.Place.{Place}
use Rattle.board.specs.State.{State, state_of}
use Rattle.plan.specs.Plan.{no_operands}
use Rattle.step.specs.Step.{stepped}
use Rattle.port.specs.Packet.{packet_verdict}
use Rattle.sound.specs.Sound.{Sound}
use Rattle.promises.specs.Machine.{stand_in}
use Rattle.promises.specs.TakenWords.{Word, Stage, stage, is_closed}
use Rattle.promises.specs.TakenWords.Stage.{operand_due, wait_due, upper_due, closed}
use Rattle.promises.specs.Environment.{Found, Trail, begins, goes_on, shows_upper, heard_at, heard, noted, trail}
use Rattle.promises.specs.History.{Lent, Call, lending, finding, after_call, after, finds}
use Rattle.promises.specs.History.Call.{packet, event, breakpoint}
use Rattle.promises.specs.Demand3.{last_closed}
use Rattle.promises.specs.RunHistory.{packets_of}
use Rattle.promises.specs.OperandLaws.{held}
use Rattle.promises.specs.StageLaws.{stage_due, stage_waiting}
use Rattle.promises.proofs.PlaceTellsLaws.{Tells}
use Rattle.promises.proofs.HistoryLaws.{Fits, within_is_accepted}
use Rattle.promises.proofs.RunHistoryLaws.{bytes_as_they_are}
use Rattle.visit_closes.specs.RequestPhasesLaws.{TakesOperand, Ignores}

-- ---- the last word, once a packet more is heard
-- it is the same word, with so many operands
pub record HeardAs (o : Word) (taken : List ℕ) (os words : List Word) : Type 0 where
  pub word : Word
  pub last : words ≡ word ∷ os
  pub packet : word.packet ≡ o.packet
  pub standing : word.standing ≡ o.standing
  pub operands : word.operands ≡ taken

module _ (w : ℕ) (f : Found) (p : Place) (o : Word) (os : List Word) where
  pub heard_operand : (phase : Phase) (next : ℕ) → TakesOperand phase → Tells w phase next (o ∷ os)
      → HeardAs o (o.operands ++ (f.word ∷ [])) os (heard f p (o ∷ os))
  heard_operand Rest next t h = absurd t
  heard_operand (Due c left ops) next t h =
      record {
        word = goes_on (o.operands ++ (f.word ∷ [])) o.waited f p o;
        last = ap (λ (x : Stage). heard_at x f p o os) (stage_due w c o left ops h.0 h.1);
        packet = refl;
        standing = refl;
        operands = refl;
      }
  heard_operand (Waiting c left address value) next t h = absurd t
  heard_operand (Upper low) next t h = absurd t

  pub heard_ignored : (phase : Phase) (next : ℕ) → Ignores phase → Tells w phase next (o ∷ os) → HeardAs o o.operands os (heard f p (o ∷ os))
  heard_ignored Rest next t h = absurd t
  heard_ignored (Due c left ops) next t h = absurd t
  heard_ignored (Waiting c left address value) next t h =
      record {
        word = goes_on o.operands (suc o.waited) f p o;
        last = ap (λ (x : Stage). heard_at x f p o os) (stage_waiting w c o (held no_operands o.operands) h.asked left h.count h.some);
        packet = refl;
        standing = refl;
        operands = refl;
      }
  heard_ignored (Upper low) next t h =
      record {
        word = shows_upper o;
        last = ap (λ (x : Stage). heard_at x f p o os) h.0;
        packet = refl;
        standing = refl;
        operands = refl;
      }

-- at rest it is a command word
begins_at : (f : Found) (p : Place) (o : Word) (os : List Word) (x : Stage) → is_closed x ≡ true → heard_at x f p o os ≡ begins f p ∷ o ∷ os
begins_at f p o os operand_due h = let z : false ≡ true = h in cc
begins_at f p o os wait_due h = let z : false ≡ true = h in cc
begins_at f p o os (upper_due upper) h = let z : false ≡ true = h in cc
begins_at f p o os (closed last) h = refl

pub heard_begins : (f : Found) (p : Place) (words : List Word) → last_closed words ≡ true → heard f p words ≡ begins f p ∷ words
heard_begins f p [] h = refl
heard_begins f p (o ∷ os) h = begins_at f p o os (stage o) h

-- ---- a history that goes on
-- the words of two histories, one after the other
abbrev pub Both : State → Trail → List Call → List Call → Type 0
Both s t xs ys = trail stand_in t (finds stand_in s (xs ++ ys))
    ≡ trail stand_in (trail stand_in t (finds stand_in s xs)) (finds stand_in (after stand_in s xs) ys)

goes_on_by : (v : Result ⊤ Ground) (s taken : State) (t : Trail) (f : Found) (xs ys : List Call) → Both taken (noted stand_in t f) xs ys → Both s t xs ys
    → trail stand_in t (if_accepted v (f ∷ finds stand_in (if_accepted v taken s) (xs ++ ys)) (finds stand_in (if_accepted v taken s) (xs ++ ys)))
    ≡ trail stand_in (trail stand_in t (if_accepted v (f ∷ finds stand_in (if_accepted v taken s) xs) (finds stand_in (if_accepted v taken s) xs)))
    (finds stand_in (after stand_in (if_accepted v taken s) xs) ys)
unfolding trail
goes_on_by (Ok _) s taken t f xs ys accepted refused = accepted
goes_on_by (Err g) s taken t f xs ys accepted refused = refused

pub trail_goes_on : (s : State) (t : Trail) (xs ys : List Call) → Both s t xs ys
unfolding trail finds after
trail_goes_on s t [] ys = refl
trail_goes_on s t (packet m word ∷ xs) ys =
    goes_on_by (packet_verdict (lending s m) word) (lending s m) (stepped (lending s m) word) t (finding s m word) xs ys
    (trail_goes_on (stepped (lending s m) word) (noted stand_in t (finding s m word)) xs ys) (trail_goes_on (lending s m) t xs ys)
trail_goes_on s t (event e ∷ xs) ys = trail_goes_on (after_call stand_in s (event e)) t xs ys
trail_goes_on s t (breakpoint ∷ xs) ys = trail_goes_on (after_call stand_in s breakpoint) t xs ys

-- a packet's memory is lent with it, so it does not matter what stood there
pub finds_lending : (s : State) (m : Lent) (words : List ℕ)
    → finds stand_in s (packets_of (lending s m) words) ≡ finds stand_in (lending s m) (packets_of (lending s m) words)
unfolding finds packets_of
finds_lending s m [] = refl
finds_lending s m (word ∷ words) = refl

-- ---- packets, each lent the memory that the one before it left
abbrev pub found_in : State → ℕ → Found
found_in s word = record { board = s.board; memory = s.memory; word = word }

pub trail_packet : (t : Trail) (word : ℕ) (words : List ℕ) {s : State} → Sound s → word ≤ 0x1FFFF
    → trail stand_in t (finds stand_in s (packets_of s (word ∷ words)))
    ≡ trail stand_in (noted stand_in t (found_in s word)) (finds stand_in (stepped s word) (packets_of (stepped s word) words))
unfolding trail finds packets_of
trail_packet t word words {s} f small =
    let lent : Lent = record { bytes = s.memory; narrow = f.memory.bytes } in
    let fits : Fits s.board.w s = record { board = f.board; place = f.place } in
    let accepted : packet_verdict s word ≡ Ok tt = within_is_accepted s.board.w s fits lent word f.memory.limit small in
    ap goes (bytes_as_they_are s.memory f.memory.bytes) ∙ rw accepted
  where
    goes : List ℕ → Trail
    goes m =
        let x = state_of s.board s.place m in
        let rest = finds stand_in (if_accepted (packet_verdict x word) (stepped x word) x) (packets_of (stepped s word) words) in
        trail stand_in t (if_accepted (packet_verdict x word) (record { board = x.board; memory = m; word = word } ∷ rest) rest)
