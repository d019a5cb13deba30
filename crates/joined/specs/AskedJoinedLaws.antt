-- What a visit asks, met by the stand-in at rest: each request is in range, one that is illegal alters nothing but the chain, and none of the table is.
use Rattle.std.specs.Prelude.{ℕ, ◌-◌, ◌≡◌, refl, true, false}
use Rattle.std.proofs.Common.{arith, sym, ap, ◌∙◌, true≢false}
use Rattle.laws.specs.TestLaws.{by_test}
use Rattle.memory.specs.declared.Size.{Size}
use Rattle.memory.specs.declared.Size.TheVariants.{Long}
use Rattle.memory.specs.Memory.{present}
use Rattle.command.specs.Reply.{complete, illegal}
use Rattle.board.specs.declared.Chain.TheVariants.{Dumping}
use Rattle.board.specs.State.{State}
use Rattle.step.specs.Step.{stepped}
use Rattle.sound.specs.SoundLaws.{fault_keeps}
use Rattle.sound.specs.Sound.{Sound}
use Rattle.requests.specs.declared.Request.{Request}
use Rattle.requests.specs.declared.Request.TheVariants.{Read, Dump}
use Rattle.round_trip.specs.Meaning.{Scene, meaning, reads}
use Rattle.round_trip.specs.RoundTrip.{resting, scene_of, unchained, legal_there, outcome_there, second_word, state_there}
use Rattle.round_trip.specs.PacketTakenLaws.{nop_at_rest}
use Rattle.round_trip.proofs.NextRequestLaws.{left_sound}
use Rattle.asked.specs.VisitRequests.{registers_asked, begins, request_at, in_table}
use Rattle.asked.specs.RequestAtLaws.{each_asked, asked_in_range}
use Rattle.visit.specs.Visit.{is_illegal, is_bus_error, notable}
use Rattle.visit_course.specs.VisitCourse.{leaves_there}
use Rattle.visit_course.specs.TableCourseLaws.{read_legal, dump_legal}

-- the word after one that is illegal is a NOP
second_is_nop : (address j : ℕ) (s : Scene) → legal_there (request_at address j) s ≡ false → second_word (request_at address j) ≡ 0
second_is_nop address j s =
    each_asked (λ r. legal_there r s ≡ false → second_word r ≡ 0) address j
    (record {
      register = λ b n h l. refl;
      control = λ b rc h l. omega arith;
      csr = λ b l. refl;
      longword = λ t a h l. absurd (true≢false (sym (read_legal a s) ∙ l));
      further = λ t b l. refl;
    })

-- ---- what is left
module _ (address j : ℕ) (s : Scene) where
  pub asked_leaves : state_there (request_at address j) s ≡ resting (leaves_there (request_at address j) s) complete
  unfolding state_there
  asked_leaves =
      by_test (legal_there (request_at address j) s)
      (λ l. rw l)
      (λ l. rw l (ap (stepped (resting (unchained s) illegal)) (second_is_nop address j s l) ∙ nop_at_rest (unchained s) illegal))

-- at rest with no chain, what stands there is as sound
pub unchained_sound : {s : State} → Sound s → Sound (resting (unchained (scene_of s)) complete)
unchained_sound f =
    record { board = fault_keeps _ f.board; place = record { phase = tt; next = omega arith; pointer = f.place.pointer }; memory = f.memory }

pub asked_keeps_sound : (address j : ℕ) (s : Scene) → Sound (resting s complete) → Sound (resting (leaves_there (request_at address j) s) complete)
asked_keeps_sound address j s f =
    by_test (legal_there (request_at address j) s)
    (λ l. rw l (left_sound (request_at address j) s complete (asked_in_range address j) l f))
    (λ l. rw l (unchained_sound f))

-- ---- the table
pub record InTable (request : Request) (s : Scene) : Type 0 where
  -- none is illegal
  pub not_illegal : is_illegal (outcome_there request s) ≡ false
  -- after one that is there a DUMP is legal
  pub chains : is_bus_error (outcome_there request s) ≡ false → (leaves_there request s).chain ≡ Dumping

reads_there : (request : Request) (size : Size) (address : ℕ) (s : Scene) → meaning request s ≡ reads size address s → legal_there request s ≡ true
    → InTable request s
reads_there request size address s m l =
    by_test (present s.memory size address)
    (λ t. record { not_illegal = rw (l, m, t); chains = λ b. rw (l, m, t) })
    (λ t. record { not_illegal = rw (l, m, t); chains = λ b. absurd (true≢false (rw (l, m, t) at b)) })

pub in_table_lem : (address j : ℕ) (s : Scene) → in_table j ≡ true → (begins (j - registers_asked) ≡ false → s.chain ≡ Dumping)
    → InTable (request_at address j) s
in_table_lem address j s there chained =
    each_asked (λ r. InTable r s) address j
    (record {
      register = λ b n h. absurd (true≢false (sym there ∙ b));
      control = λ b rc h. absurd (true≢false (sym there ∙ b));
      csr = λ b. absurd (true≢false (sym there ∙ b));
      longword = λ t a h. reads_there (Read Long a) Long a s refl (read_legal a s);
      further = λ t b. reads_there (Dump Long) Long s.pointer s refl (dump_legal s (chained b));
    })

-- so every outcome is noted
pub asked_is_notable : (address j : ℕ) (s : Scene) → (in_table j ≡ true → begins (j - registers_asked) ≡ false → s.chain ≡ Dumping)
    → notable (outcome_there (request_at address j) s) j ≡ true
asked_is_notable address j s chained =
    by_test (in_table j) (λ t. rw (t, (in_table_lem address j s t (chained t)).not_illegal)) (λ t. rw t)
