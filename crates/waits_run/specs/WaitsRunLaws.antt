-- Laws of a run: memory cleared whole, and the lines of the requests with the state's behind them.
use Rattle.std.specs.Prelude.{ℕ, zero, suc, ◌≡◌, refl, List, length}
use Rattle.std.proofs.Common.{ap, sym, ◌∙◌, subst, arith, take_all}
use Rattle.std.proofs.lemmas.List.Edits.{sets}
use Rattle.std.proofs.Math.Seq.{length-sets}
use Rattle.text.specs.Text.{Puts, end_of}
use Rattle.text.specs.TextLaws.{◌then◌, told_whole}
use Rattle.lent.specs.Lent.{listed, zeros}
use Rattle.answers.specs.declared.Bench.{Bench}
use Rattle.answers.specs.Bench.{Left, left}
use Rattle.waits_lines.specs.declared.Gone.{Gone}
use Rattle.waits_lines.specs.WaitsLines.{file_lines, LinesTaken}
use Rattle.waits_run.specs.declared.Ran.{Ran}
use Rattle.waits_run.specs.WaitsRun.{start_at, state_line, told_at, memory_at, packets_at, taken_at, stray_at, RunSo}

listed_length : (f : ℕ → ℕ) (n : ℕ) → length (listed f n) ≡ n
listed_length f zero = refl
listed_length f (suc n) = ap suc (listed_length (λ k. f (suc k)) n)

pub zeros_length : (n : ℕ) → length (zeros n) ≡ n
zeros_length n = listed_length (λ k. 0) n

-- as many zeros as there are bytes leave nothing else
pub cleared_whole : (m : List ℕ) → sets m 0 (zeros (length m)) ≡ zeros (length m)
cleared_whole m =
    let n = length m in
    let all = zeros_length n in
    let put : Puts m 0 (zeros n) (sets m 0 (zeros n)) (end_of 0 (length (zeros n)) n) = record { bytes = refl; place = refl } in
    let whole = told_whole put (omega (arith, all)) in
    sym (take_all (end_of 0 (length (zeros n)) n) (sets m 0 (zeros n)) (omega (arith, all, length-sets m 0 (zeros n)))) ∙ whole

abbrev pub ran_to : Gone → ℕ → Ran
ran_to gone end = record { end = end; packets = gone.packets; taken = gone.taken; stray = gone.stray }

-- the lines taken from the start, and the state's line behind their rows
pub run_so : {w : ℕ} {input m text text₁ text₂ m₁ m₂ : List ℕ} {bench : Bench} {gone : Gone} {end : ℕ} → left bench m₁ ≡ start_at (length m) w
    → LinesTaken (file_lines input) (left bench m₁) text gone text₁ m₂ → Puts text₁ gone.end (state_line gone.bench) text₂ end
    → RunSo w input m text (ran_to gone end) m₂ text₂
unfolding told_at memory_at packets_at taken_at stray_at
run_so {input = input} {text = text} {text₁ = text₁} {text₂ = text₂} {m₂ = m₂} {gone = gone} {end = end} started taken put =
    let lines = subst (λ (l : Left). LinesTaken (file_lines input) l text gone text₁ m₂) started taken in
    record {
      told = lines.rows then (subst (λ (l : Left). Puts text₁ gone.end (state_line l.bench) text₂ end) lines.stands put);
      memory = ap (λ (l : Left). l.memory) lines.stands;
      packets = lines.packets;
      taken = lines.taken;
      stray = lines.stray;
    }
