-- Demand 3, closing replies: what the place tells of the last command word is kept by every packet, whatever board and memory it finds.
use Rattle.std.specs.Prelude.{ℕ, suc, ◌+◌, ◌-◌, ◌≤◌, ◌≡◌, refl, List, [], ◌∷◌, ◌++◌, eqb}
use Rattle.std.proofs.Common.{sym, ◌∙◌, subst, arith}
use Rattle.std.proofs.Math.Path.{ap}
use Rattle.std.proofs.Math.ListN.{length-append}
use borrow.Author.Tests.{eqb-true}
use Rattle.command.specs.declared.Command.{Command}
use Rattle.command.specs.Command.{decoded, operand_words}
use Rattle.command.specs.Reply.{complete}
use Rattle.board.specs.declared.Place.{Place}
use Rattle.board.specs.declared.Operands.{Operands}
use Rattle.board.specs.declared.Phase.{Phase}
use Rattle.board.specs.declared.Phase.TheVariants.{Rest, Due, Waiting, Upper}
use Rattle.work.specs.declared.Ending.{Ending}
use Rattle.work.specs.declared.Ending.TheVariants.{Complete, Failed, OneWord, TwoWords}
use Rattle.access.specs.Access.{access_of}
use Rattle.work.specs.Work.{first_reply, phase_after, ending_of}
use Rattle.plan.specs.declared.Plan.{Plan}
use Rattle.plan.specs.declared.Plan.TheVariants.{Hold, Reject, Work}
use Rattle.plan.specs.Plan.{carries_c, legal_word, no_operands, with_operand, address_in, value_in, work_after, waits_of, collected, begun, continued, plan_of}
use Rattle.board.specs.State.{State, standing_of}
use Rattle.step.specs.StepFaultLaws.{step_place}
use Rattle.step.specs.Step.{left, plan_for, stepped}
use Rattle.promises.specs.TakenWords.{Word, ending_found, ended, stage}
use Rattle.promises.specs.TakenWords.Stage.{upper_due, closed}
use Rattle.promises.specs.Environment.{Found, found_at, begins, goes_on, shows_upper, heard}
use Rattle.laws.specs.TestLaws.{either}
use Rattle.promises.specs.StageLaws.{not_none, Open, stage_due, stage_waiting, stage_ended, stage_shown, ending_held}
use Rattle.promises.specs.OperandLaws.{held, held_end, any_c_end}

-- a word that waits, with so many packets still to wait and the address that the port holds
pub record Waits (w : ℕ) (c : Command) (left address : ℕ) (o : Word) : Type 0 where
  pub asked : Open w c 0 (held no_operands o.operands) o
  pub sent : address_in (operand_words c) (held no_operands o.operands) ≡ address
  pub count : o.waited + left ≡ waits_of w c
  pub some : 1 ≤ left

-- what a phase and the next reply held tell of the last word
abbrev pub Tells : ℕ → Phase → ℕ → List Word → Type 0
Tells w Rest next [] = next ≡ complete
Tells w Rest next (o ∷ os) = stage o ≡ closed next
Tells w (Due c left t) next [] = ⊥
Tells w (Due c left t) next (o ∷ os) = Open w c left t o × (1 ≤ left) × (o.waited ≡ 0)
Tells w (Waiting c left address value) next [] = ⊥
Tells w (Waiting c left address value) next (o ∷ os) = Waits w c left address o
Tells w (Upper low) next [] = ⊥
Tells w (Upper low) next (o ∷ os) = (stage o ≡ upper_due next) × (stage (shows_upper o) ≡ closed low)

abbrev pub PlaceTells : ℕ → Place → List Word → Type 0
PlaceTells w p os = Tells w p.phase p.next os

tells_ended : (w : ℕ) (e : Ending) (o : Word) (os : List Word) → stage o ≡ ended 0 e → stage (shows_upper o) ≡ ended 1 e
    → Tells w (phase_after e) (first_reply e) (o ∷ os)
tells_ended w Complete o os s u = s
tells_ended w Failed o os s u = s
tells_ended w (OneWord v) o os s u = s
tells_ended w (TwoWords v) o os s u = (s, u)

-- the word was found as the packet that the port works on finds it
record As (s : State) (o : Word) : Type 0 where
  board : o.board ≡ s.board
  pointer : o.pointer ≡ s.place.pointer
  memory : o.memory ≡ s.memory

module _ (w : ℕ) (s : State) (c : Command) (o : Word) (os : List Word) (found : As s o) where
  -- what a plan leaves tells of the word
  abbrev PlanTells : Plan → Type 0
  PlanTells plan = PlaceTells w (left plan s).place (o ∷ os)

  tells_work : (t : Operands) (value : ℕ) → Open w c 0 t o → o.waited ≡ waits_of w c → PlanTells (Work c (address_in (operand_words c) t) value)
  tells_work t value h e =
      let address = address_in (operand_words c) t in
      let ending = ending_of c s.board address (access_of c s.memory s.place.pointer address) in
      let ends : ending_found o ≡ ending = rw (← found.board, ← found.pointer, ← found.memory) (ending_held w c o t h) in
      tells_ended w ending o os (stage_ended w c o t h e ∙ ap (ended 0) ends) (stage_shown w c o t h e ∙ ap (ended 1) ends)

  tells_work_after : (more : ℕ) (t : Operands) (value : ℕ) → Open w c 0 t o → o.waited + more ≡ waits_of w c
      → PlanTells (work_after more c (address_in (operand_words c) t) value)
  unfolding work_after
  tells_work_after more t value h e =
      either PlanTells (eqb more 0) (Work c (address_in (operand_words c) t) value) (Hold (Waiting c more (address_in (operand_words c) t) value))
      (λ none. tells_work t value h (omega (arith, eqb-true more 0 none)))
      (λ some. record { asked = rw h.kept h; sent = rw h.kept; count = e; some = not_none more some })

  tells_collected : (due : ℕ) (t : Operands) → Open w c due t o → o.waited ≡ 0 → PlanTells (collected w due c t)
  unfolding collected
  tells_collected due t h e =
      either PlanTells (eqb due 0) (work_after (waits_of w c) c (address_in (operand_words c) t) (value_in (operand_words c) t)) (Hold (Due c due t))
      (λ none. tells_work_after (waits_of w c) t (value_in (operand_words c) t) (rw (eqb-true due 0 none) at h) (omega arith))
      (λ some. (h, not_none due some, e))

module _ (w : ℕ) (f : Found) (p : Place) (setting : f.board.w ≡ w) where
  -- as a packet finds it: itself a command word, or an operand of one, or one that it waits
  as_begun : As (found_at f p) (begins f p)
  as_begun = record { board = refl; pointer = refl; memory = refl }

  as_continued : (operands : List ℕ) (waited : ℕ) (o : Word) → As (found_at f p) (goes_on operands waited f p o)
  as_continued operands waited o = record { board = refl; pointer = refl; memory = refl }

  tells_begun : (os : List Word) → PlaceTells w (left (begun (standing_of f.board p) w f.word) (found_at f p)).place (begins f p ∷ os)
  unfolding begun stage
  tells_begun os =
      let c = decoded f.word in
      either (PlanTells w (found_at f p) c (begins f p) os as_begun) (legal_word f.word (standing_of f.board p))
      (collected w (operand_words c) c no_operands) Reject
      (λ judged.
      tells_collected w (found_at f p) c (begins f p) os as_begun (operand_words c) no_operands
      (record { same = refl; judged = judged; clear = refl; kept = refl; count = omega arith; unshown = refl; setting = setting }) refl)
      (λ illegal. rw illegal)

  tells_continued : (c : Command) (due : ℕ) (t : Operands) (o : Word) (os : List Word) → Open w c due t o → 1 ≤ due → o.waited ≡ 0
      → PlaceTells w (left (continued c due t w f.word) (found_at f p)).place (goes_on (o.operands ++ (f.word ∷ [])) o.waited f p o ∷ os)
  unfolding continued stage
  tells_continued c due t o os h l z =
      let next = goes_on (o.operands ++ (f.word ∷ [])) o.waited f p o in
      let found = as_continued (o.operands ++ (f.word ∷ [])) o.waited o in
      either (PlanTells w (found_at f p) c next os found) (carries_c f.word) Reject (collected w (due - 1) c (with_operand t f.word))
      (λ set. rw (h.judged, any_c_end o.operands f.word h.clear, set))
      (λ clear.
      tells_collected w (found_at f p) c next os found (due - 1) (with_operand t f.word)
      (record {
        same = h.same;
        judged = h.judged;
        clear = any_c_end o.operands f.word h.clear ∙ clear;
        kept = held_end no_operands o.operands f.word ∙ ap (λ (x : Operands). with_operand x f.word) h.kept;
        count = simp length-append (omega (arith, h.count));
        unshown = h.unshown;
        setting = setting;
      }) z)

  tells_waited : (c : Command) (more address value : ℕ) (o : Word) (os : List Word) → Waits w c more address o
      → PlaceTells w (left (work_after (more - 1) c address value) (found_at f p)).place (goes_on o.operands (suc o.waited) f p o ∷ os)
  tells_waited c more address value o os h =
      rw (← h.sent)
      (tells_work_after w (found_at f p) c (goes_on o.operands (suc o.waited) f p o) os (as_continued o.operands (suc o.waited) o) (more - 1)
      (held no_operands o.operands) value
      (record {
        same = h.asked.same;
        judged = h.asked.judged;
        clear = h.asked.clear;
        kept = refl;
        count = h.asked.count;
        unshown = h.asked.unshown;
        setting = setting;
      }) (omega (arith, h.count, h.some)))

  -- any packet, in any phase
  tells_planned : (phase : Phase) (os : List Word) → Tells w phase p.next os
      → PlaceTells w (left (plan_of phase (standing_of f.board p) w f.word) (found_at f p)).place (heard f p os)
  tells_planned Rest [] h = tells_begun []
  tells_planned Rest (o ∷ os) h = rw h (tells_begun (o ∷ os))
  tells_planned (Due c due t) [] h = absurd h
  tells_planned (Due c due t) (o ∷ os) h = rw (stage_due w c o due t h.0 h.1) (tells_continued c due t o os h.0 h.1 h.2)
  tells_planned (Waiting c more address value) [] h = absurd h
  tells_planned (Waiting c more address value) (o ∷ os) h =
      rw (stage_waiting w c o (held no_operands o.operands) h.asked more h.count h.some) (tells_waited c more address value o os h)
  tells_planned (Upper low) [] h = absurd h
  tells_planned (Upper low) (o ∷ os) h = rw h.0 h.1

  pub tells_next : (os : List Word) → PlaceTells w p os → PlaceTells w (stepped (found_at f p) f.word).place (heard f p os)
  unfolding plan_for
  tells_next os h =
      rw (step_place (found_at f p) f.word)
      (subst (λ (n : ℕ). PlaceTells w (left (plan_of p.phase (standing_of f.board p) n f.word) (found_at f p)).place (heard f p os)) (sym setting)
      (tells_planned p.phase os h))
