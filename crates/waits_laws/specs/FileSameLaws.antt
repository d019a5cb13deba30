-- Laws of [10] over a file: at another W each line is taken alike, shows the same row and leaves the same but for W.
use Rattle.std.specs.Prelude.{ℕ, zero, suc, ◌+◌, ◌*◌, ◌≤◌, ◌<◌, ◌≡◌, refl, true, false, List, [], ◌∷◌, ◌++◌, get_or, set, take, drop, Err, Ok}
use Rattle.std.specs.Prelude.{Result as StdResult}
use Rattle.readings.specs.declared.Outcome.{Outcome}
use Rattle.grounds.specs.declared.Ground.{Ground}
use Rattle.std.proofs.Common.{arith, ap, ap₂, sym, ◌∙◌, true≢false}
use Rattle.std.proofs.Math.Seq.{sets}
use Rattle.laws.specs.TestLaws.{by_test}
use Rattle.memory.specs.Memory.{AllBelow}
use Rattle.memory.specs.MemoryLaws.{set_keeps_below}
use Rattle.board.specs.Board.{fresh_board}
use Rattle.board.specs.Setters.{with_w}
use Rattle.board.specs.State.{State}
use Rattle.text.specs.Text.{ascii}
use Rattle.requests.specs.declared.Request.{Request}
use Rattle.refusal_text.specs.RefusalText.{refused_text}
use Rattle.request_text.specs.RequestText.{outcome_text}
use Rattle.exchange.specs.Exchange.{exchange_leaves}
use Rattle.numbers.specs.Numbers.{byte_at}
use Rattle.lent.specs.Lent.{listed, zeros, bytes_from}
use Rattle.lent.specs.LentLaws.{byte_small}
use Rattle.board_lines.specs.declared.BoardLine.{BoardLine}
use Rattle.board_lines.specs.declared.BoardLine.TheVariants.{Nothing, Make, Memory, Bytes, Packet, Event, EventWithAccess}
use Rattle.board_lines.specs.declared.BoardLine.TheVariants.{Breakpoint, Peek, State as StateAsked, Unclear}
use Rattle.talk_lines.specs.declared.TalkLine.{TalkLine}
use Rattle.talk_lines.specs.declared.TalkLine.TheVariants.{Board as BoardAsked, Ask}
use Rattle.talk_lines.specs.TalkLines.{talk_line}
use Rattle.answers.specs.Bench.{Left, left, bench_of, leaves, port_state}
use Rattle.every_wait.specs.EveryWait.{Result, result_of, answer_to}
use Rattle.every_wait.specs.SettledLaws.{at_setting}
use Rattle.every_wait.specs.OneRequestLaws.{Ready, same_request}
use Rattle.every_wait.proofs.EveryWaitLaws.{fresh_ready}
use Rattle.waits_lines.specs.WaitsLines.{prepares, is_taken, left_as, result_text, row_as, taken_in, left_by, all_taken, lines_leave, rows, bytes_before}
use Rattle.waits_run.specs.WaitsRun.{start_at}

-- ---- bytes
module _ (k : ℕ) (some : 1 ≤ k) where
  below_nothing : (i : ℕ) → get_or {A = ℕ} [] i 0 < k
  below_nothing i = omega arith

  below_take : (n : ℕ) (m : List ℕ) → AllBelow k m → AllBelow k (take n m)
  below_take zero m h i = below_nothing i
  below_take (suc n) [] h i = below_nothing i
  below_take (suc n) (x ∷ m) h zero = h 0
  below_take (suc n) (x ∷ m) h (suc i) = below_take n m (λ j. h (suc j)) i

  below_drop : (n : ℕ) (m : List ℕ) → AllBelow k m → AllBelow k (drop n m)
  below_drop zero m h i = h i
  below_drop (suc n) [] h i = below_nothing i
  below_drop (suc n) (x ∷ m) h i = below_drop n m (λ j. h (suc j)) i

  below_append : (m others : List ℕ) → AllBelow k m → AllBelow k others → AllBelow k (m ++ others)
  below_append [] others h g i = g i
  below_append (x ∷ m) others h g zero = h 0
  below_append (x ∷ m) others h g (suc i) = below_append m others (λ j. h (suc j)) g i

  below_listed : (f : ℕ → ℕ) (n : ℕ) → ((j : ℕ) → f j < k) → AllBelow k (listed f n)
  below_listed f zero h i = below_nothing i
  below_listed f (suc n) h zero = h 0
  below_listed f (suc n) h (suc i) = below_listed (λ j. f (suc j)) n (λ j. h (suc j)) i

  below_sets : (m : List ℕ) (at : ℕ) (t : List ℕ) → AllBelow k m → AllBelow k t → AllBelow k (sets m at t)
  below_sets m at [] h g = h
  below_sets m at (v ∷ t) h g = below_sets (set m at v) (suc at) t (set_keeps_below k m at v h (g 0)) (λ j. g (suc j))

-- ---- the bench at another W
abbrev pub bench_at : ℕ → Left → Left
bench_at w l = left (bench_of (with_w l.bench.board w) l.bench.place l.bench.lent) l.memory

-- what stands on the bench between lines
pub record Stands (l : Left) : Type 0 where
  pub ready : Ready (port_state l.bench (take l.bench.lent l.memory))
  pub bytes : AllBelow 256 l.memory

-- with other bytes, which are bytes
stands_with : {l : Left} (lent : ℕ) (m : List ℕ) → Stands l → AllBelow 256 m → Stands (left (bench_of l.bench.board l.bench.place lent) m)
stands_with {l} lent m s bytes =
    let r = s.ready in
    record {
      ready = record { board = r.board; place = r.place; free = r.free; bytes = below_take 256 (omega arith) lent m bytes };
      bytes = bytes;
    }

pub record SameLine (w : ℕ) (line : List ℕ) (asked : TalkLine) (l : Left) : Type 0 where
  pub row : row_as line asked (bench_at w l) ≡ row_as line asked l
  pub leaves : left_as line asked (bench_at w l) ≡ bench_at w (left_as line asked l)
  pub stands : Stands (left_as line asked l)

-- a result is shown by what it is
abbrev told_as : Result → List ℕ
told_as (Result.came outcome) = outcome_text outcome
told_as (Result.refused why) = refused_text why

result_told : (x : StdResult (Outcome × ℕ) Ground) → result_text x ≡ told_as (result_of x)
result_told (Ok (outcome, packets)) = refl
result_told (Err why) = refl

module _ (w : ℕ) (small : w ≤ 15) (line : List ℕ) (l : Left) (s : Stands l) where
  asked_same : (request : Request) → SameLine w line (Ask request) l
  asked_same request =
      let lent = l.bench.lent in
      let state = port_state l.bench (take lent l.memory) in
      let one = same_request w request small s.ready in
      let after = exchange_leaves request state in
      let r = one.ready in
      let rest = drop lent l.memory in
      let bytes = below_append 256 (omega arith) after.memory rest r.bytes (below_drop 256 (omega arith) lent l.memory s.bytes) in
      let same = result_told (answer_to request (at_setting w state)) ∙ ap told_as one.result ∙ sym (result_told (answer_to request state)) in
      record {
        row = ap (λ (text : List ℕ). line ++ ascii ": " ++ text ++ ascii "\n") same;
        leaves = ap (λ (t : State). left (bench_of t.board t.place lent) (t.memory ++ rest)) one.leaves;
        stands =
            record {
              ready = record { board = r.board; place = r.place; free = r.free; bytes = below_take 256 (omega arith) lent (after.memory ++ rest) bytes };
              bytes = bytes;
            };
      }

  -- what no line of such a file asks
  none_such : {A : Type 0} → false ≡ true → A
  none_such e = absurd (true≢false (sym e))

  prepared_same : (asked : BoardLine) → prepares asked l.bench.lent ≡ true → SameLine w line (BoardAsked asked) l
  unfolding leaves
  prepared_same Nothing h = record { row = refl; leaves = refl; stands = s }
  prepared_same (Memory n) h =
      let m = sets l.memory 0 (zeros n) in
      let zero-bytes = below_listed 256 (omega arith) (λ j. 0) n (λ j. omega arith) in
      record { row = refl; leaves = refl; stands = stands_with n m s (below_sets 256 (omega arith) l.memory 0 (zeros n) s.bytes zero-bytes) }
  prepared_same (Bytes address from count) h =
      let put = bytes_from line from count in
      let bytes = below_listed 256 (omega arith) (λ k. byte_at line (from + 2 * k)) count (λ k. byte_small line (from + 2 * k)) in
      record {
        row = refl;
        leaves = refl;
        stands = rw h (stands_with l.bench.lent (sets l.memory address put) s (below_sets 256 (omega arith) l.memory address put s.bytes bytes));
      }
  prepared_same (Make n) h = none_such h
  prepared_same (Packet word) h = none_such h
  prepared_same (Event pc mark) h = none_such h
  prepared_same (EventWithAccess pc address attribute lanes mark) h = none_such h
  prepared_same Breakpoint h = none_such h
  prepared_same (Peek address count) h = none_such h
  prepared_same StateAsked h = none_such h
  prepared_same Unclear h = none_such h

  pub same_line_lem : (asked : TalkLine) → is_taken asked l.bench.lent ≡ true → SameLine w line asked l
  same_line_lem (BoardAsked asked) h = prepared_same asked h
  same_line_lem (Ask request) h = asked_same request

-- ---- line after line
pub record SameFile (w : ℕ) (lines : List (List ℕ)) (l : Left) : Type 0 where
  pub taken : all_taken lines (bench_at w l) ≡ all_taken lines l
  pub rows : rows lines (bench_at w l) ≡ rows lines l
  pub leaves : lines_leave lines (bench_at w l) ≡ bench_at w (lines_leave lines l)
  pub before : bytes_before lines (bench_at w l) ≡ bytes_before lines l

pub same_file : (w : ℕ) → w ≤ 15 → (lines : List (List ℕ)) (l : Left) → Stands l → SameFile w lines l
unfolding all_taken rows lines_leave bytes_before
same_file w small [] l s = record { taken = refl; rows = refl; leaves = refl; before = refl }
same_file w small (line ∷ lines) l s =
    by_test (taken_in line l)
    (λ t.
    let one = same_line_lem w small line l s (talk_line line) t in
    let more = same_file w small lines (left_by line l) one.stands in
    record {
      taken = rw (t, one.leaves) more.taken;
      rows = rw (t, one.leaves) (ap₂ ◌++◌ one.row more.rows);
      leaves = rw (t, one.leaves) more.leaves;
      before = rw (t, one.leaves, more.before);
    })
    (λ t. record { taken = rw t; rows = rw t; leaves = rw t; before = rw t })

-- ---- from the start
pub start_at_lem : (size w : ℕ) → start_at size w ≡ bench_at w (start_at size 0)
unfolding start_at fresh_board
start_at_lem size w = refl

pub start_stands : (size : ℕ) → Stands (start_at size 0)
unfolding start_at
start_stands size =
    let bytes = below_listed 256 (omega arith) (λ j. 0) size (λ j. omega arith) in
    record { ready = fresh_ready 0 (take 0 (zeros size)) (omega arith) (below_take 256 (omega arith) 0 (zeros size) bytes); bytes = bytes }
