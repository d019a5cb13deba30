-- Laws of the packets that a page counts: no request takes more than 41, so the sum is never cut off.
use Rattle.std.specs.Prelude.{ℕ, ◌*◌, ◌≤◌, ◌≡◌, refl, List, [], ◌∷◌, length, take, Err, Ok, Result, ⊤}
use Rattle.grounds.specs.declared.Ground.{Ground}
use Rattle.std.proofs.Common.{arith, subst, sym}
use Rattle.laws.specs.TestLaws.{by_test}
use Rattle.board.specs.State.{State}
use Rattle.requests.specs.declared.Request.{Request}
use Rattle.round_trip.specs.BroughtToRest.{rest_budget, rest_scene}
use Rattle.round_trip.proofs.BroughtToRestLaws.{rest_keeps_sound, rest_nops_bound}
use Rattle.round_trip.proofs.TalkLaws.{packets_bound}
use Rattle.exchange_verdict.specs.ExchangeVerdict.{exchange_verdict}
use Rattle.exchange.specs.ExchangeLaws.{accepted_is_within}
use Rattle.talk_lines.specs.declared.TalkLine.{TalkLine}
use Rattle.talk_lines.specs.declared.TalkLine.TheVariants.{Board, Ask}
use Rattle.talk_lines.specs.TalkLines.{talk_line}
use Rattle.answers.specs.Bench.{Left, port_state}
use Rattle.every_wait.specs.OneRequestLaws.{ready_at, ready_sound}
use Rattle.waits_lines.specs.WaitsLines.{file_lines, answer_in, packets_in, packets_as, taken_in, left_by, packets}
use Rattle.waits_run.specs.WaitsRun.{start_at, packets_at}
use Rattle.waits_laws.specs.FileSameLaws.{bench_at, Stands, same_line_lem, start_at_lem, start_stands}
use Rattle.waits_laws.specs.WaitsRoomLaws.{total, lines_total}

-- what the port finds on the bench
abbrev state_on : Left → State
state_on l = port_state l.bench (take l.bench.lent l.memory)

few_packets : (request : Request) (l : Left) → Stands l → packets_in (answer_in request l) ≤ 41
few_packets request l s = by_verdict (exchange_verdict request (state_on l)) refl
  where
    by_verdict : (v : Result ⊤ Ground) → exchange_verdict request (state_on l) ≡ v → packets_in (answer_in request l) ≤ 41
    by_verdict (Err why) e = rw e (omega arith)
    by_verdict (Ok _) e =
        let f = ready_sound s.ready (accepted_is_within request (state_on l) e).memory in
        let rest = rest_keeps_sound rest_budget (state_on l) f in
        rw e (omega (arith, rest_nops_bound rest_budget f, f.board.small, packets_bound request (rest_scene (state_on l)) rest.board.small))

asked_few : (asked : TalkLine) (l : Left) → Stands l → packets_as asked l ≤ 41
asked_few (Board asked) l s = omega arith
asked_few (Ask request) l s = few_packets request l s

packets_few : (lines : List (List ℕ)) (l : Left) → Stands l → packets lines l ≤ 41 * total lines
unfolding packets
packets_few [] l s = omega arith
packets_few (line ∷ lines) l s =
    by_test (taken_in line l)
    (λ t.
    let after = (same_line_lem 0 (omega arith) line l s (talk_line line) t).stands in
    rw t (omega (arith, asked_few (talk_line line) l s, packets_few lines (left_by line l) after)))
    (λ t. rw t (omega arith))

-- a bench at another W stands as well
stands_at : {l : Left} (w : ℕ) → w ≤ 15 → Stands l → Stands (bench_at w l)
stands_at w small s = record { ready = ready_at w small s.ready; bytes = s.bytes }

pub packets_counted : (size w : ℕ) (input : List ℕ) → w ≤ 15 → length input ≤ 16384 → packets_at size w input ≡ packets (file_lines input) (start_at size w)
unfolding packets_at
packets_counted size w input small short =
    let start = subst Stands (sym (start_at_lem size w)) (stands_at w small (start_stands size)) in
    omega (arith, packets_few (file_lines input) (start_at size w) start, lines_total input)
