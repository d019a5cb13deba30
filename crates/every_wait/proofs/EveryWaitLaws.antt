-- THE LAW of [10]: for any list of requests only the waiting changes with W; and the same of what the code answers and leaves.
use Rattle.std.specs.Prelude.{ℕ, ◌≤◌, ◌≡◌, refl, List, [], ◌∷◌, map}
use Rattle.std.proofs.Common.{arith, ap, ap₂, sym, ◌∙◌, subst}
use Rattle.memory.specs.Memory.{AllBelow}
use Rattle.board.specs.Board.{fresh_board, fresh_place}
use Rattle.board.specs.State.{State}
use Rattle.sound.specs.SoundLaws.{fresh_board_is_sound, fresh_place_is_sound}
use Rattle.requests.specs.declared.Request.{Request}
use Rattle.exchange.specs.Exchange.{exchange_leaves}
use Rattle.exchange.specs.ExchangeUnique.{told_exchange_unique}
use Rattle.every_wait.specs.EveryWait.{fresh_at, answer_to, answers, left_by, legals, All, AllLegal, result_of, results, apart_from_w}
use Rattle.every_wait.specs.EveryWait.{SameAt, OnlyWaitingChanges, Call, left_in, Called, answers_in, last_in}
use Rattle.every_wait.specs.SettledLaws.{at_setting}
use Rattle.every_wait.specs.OneRequestLaws.{Ready, same_request}

-- ---- over a list, from anywhere between requests
pub record SameList (w : ℕ) (requests : List Request) (s : State) : Type 0 where
  pub legal : legals requests (at_setting w s) ≡ legals requests s
  pub results : results requests (at_setting w s) ≡ results requests s
  pub leaves : left_by requests (at_setting w s) ≡ at_setting w (left_by requests s)

pub same_list : (w : ℕ) → w ≤ 15 → (requests : List Request) (s : State) → Ready s → SameList w requests s
unfolding legals answers left_by
same_list w small [] s r = record { legal = refl; results = refl; leaves = refl }
same_list w small (request ∷ requests) s r =
    let one = same_request w request small r in
    let more = same_list w small requests (exchange_leaves request s) one.ready in
    record {
      legal = rw one.leaves (ap₂ ◌∷◌ one.legal more.legal);
      results = rw one.leaves (ap₂ ◌∷◌ one.result more.results);
      leaves = rw one.leaves more.leaves;
    }

-- ---- from a fresh board
pub fresh_ready : (w : ℕ) (m : List ℕ) → w ≤ 15 → AllBelow 256 m → Ready (fresh_at w m)
unfolding fresh_board fresh_place
fresh_ready w m small bytes = record { board = fresh_board_is_sound w small; place = fresh_place_is_sound w; free = tt; bytes = bytes }

pub fresh_at_lem : (v w : ℕ) (m : List ℕ) → fresh_at w m ≡ at_setting w (fresh_at v m)
unfolding fresh_board
fresh_at_lem v w m = refl

module _ (requests : List Request) (m : List ℕ) (bytes : AllBelow 256 m) where
  -- whatever is legal and whatever is refused: no hypothesis of legality
  pub same_at_two : (v w : ℕ) → v ≤ 15 → w ≤ 15 → SameAt v w requests m
  same_at_two v w below small =
      let same = same_list w small requests (fresh_at v m) (fresh_ready v m below bytes) in
      let here = left_by requests (fresh_at v m) in
      let there = ap (left_by requests) (fresh_at_lem v w m) ∙ same.leaves in
      record {
        legal = ap (legals requests) (fresh_at_lem v w m) ∙ same.legal;
        results = ap (results requests) (fresh_at_lem v w m) ∙ same.results;
        board = ap (λ (s : State). apart_from_w s.board) there;
        place = ap (λ (s : State). s.place) there;
        memory = ap (λ (s : State). s.memory) there;
      }

  pub only_waiting_changes : AllLegal requests (fresh_at 0 m) → OnlyWaitingChanges requests m
  only_waiting_changes legal =
      record {
        legal = λ w small. subst All (sym (same_at_two 0 w (omega arith) small).legal) legal;
        same = same_at_two;
      }

-- ---- of the code
called_answers : (requests : List Request) (s : State) (calls : List Call) → Called requests s calls
    → (answers_in calls ≡ answers requests s) × (last_in s calls ≡ left_by requests s)
unfolding answers left_by
called_answers [] s [] met = (refl, refl)
called_answers [] s (call ∷ calls) met = absurd met
called_answers (request ∷ requests) s [] met = absurd met
called_answers (request ∷ requests) s (call ∷ calls) met =
    let one = met.0 in
    let more = called_answers requests (left_in call) calls met.1 in
    let answer = told_exchange_unique call.returned.answer (answer_to request s) one.answer in
    (ap₂ ◌∷◌ answer (more.0 ∙ ap (answers requests) one.state), more.1 ∙ ap (left_by requests) one.state)

-- calls of `exchange` for the same requests, on fresh boards of two settings and the same memory
pub record SameCalls (before : State) (calls : List Call) (before' : State) (calls' : List Call) : Type 0 where
  pub results : map result_of (answers_in calls') ≡ map result_of (answers_in calls)
  pub board : apart_from_w (last_in before' calls').board ≡ apart_from_w (last_in before calls).board
  pub place : (last_in before' calls').place ≡ (last_in before calls).place
  pub memory : (last_in before' calls').memory ≡ (last_in before calls).memory

pub code_waits_alone : (requests : List Request) (m : List ℕ) → AllBelow 256 m → (v w : ℕ) → v ≤ 15 → w ≤ 15 → (calls calls' : List Call)
    → Called requests (fresh_at v m) calls → Called requests (fresh_at w m) calls' → SameCalls (fresh_at v m) calls (fresh_at w m) calls'
code_waits_alone requests m bytes v w below small calls calls' met met' =
    let here = called_answers requests (fresh_at v m) calls met in
    let there = called_answers requests (fresh_at w m) calls' met' in
    let same = same_at_two requests m bytes v w below small in
    record {
      results = ap (map result_of) there.0 ∙ same.results ∙ sym (ap (map result_of) here.0);
      board = ap (λ (s : State). apart_from_w s.board) there.1 ∙ same.board ∙ sym (ap (λ (s : State). apart_from_w s.board) here.1);
      place = ap (λ (s : State). s.place) there.1 ∙ same.place ∙ sym (ap (λ (s : State). s.place) here.1);
      memory = ap (λ (s : State). s.memory) there.1 ∙ same.memory ∙ sym (ap (λ (s : State). s.memory) here.1);
    }
