-- P1 to P9 in one statement, proved from the definitions by computation.
use Rattle.std.specs.Prelude.{ℕ, ◌%◌, ◌^◌, ◌≤◌, ◌<◌, ◌≡◌, refl, true, List, [], ◌∷◌, ◌++◌}
use Rattle.std.proofs.Common.{ap, ◌∙◌, le-leb, eq-eqb}
use Rattle.memory.specs.Memory.{fetched, stored}
use Rattle.command.specs.Command.{decoded, decoded_word}
use Rattle.board.specs.Board.{fresh_board, fresh_place}
use Rattle.ranges.specs.Ranges.{in_range, bstat_in_range}
use Rattle.board.specs.State.{State, state_of}
use Rattle.csr.specs.Csr.{csr_value, bstat_read}
use Rattle.control.specs.Control.{control_index, control_fetched, control_written}
use Rattle.registers.specs.Registers.{debug_loaded, debug_written}
use Rattle.plan.specs.Plan.{work_after, collected, begun, continued}
use Rattle.step.specs.Step.{plan_for, reply_now, stepped}
use Rattle.port.specs.Packet.{packet_verdict}
use Rattle.halting.specs.Halting.{halting}
use Rattle.comparators.specs.Masks.{agree}
use Rattle.comparators.specs.Comparators.{data_enabled}
use Rattle.groups.specs.Groups.{pc_group, address_matches, attribute_agrees, address_group, joined}
use Rattle.trigger.specs.Levels.{level_of}
use Rattle.trigger.specs.Fired.{fires, fired_level}
use Rattle.firing.specs.Firing.{bstat_after, responds, firing, seen, status_after}
use Rattle.bus.specs.Events.{event_verdict}
use Rattle.bus.specs.EventExamples.{p5_event, p5_board, p5}
use Rattle.cycle.specs.Cycle.{gives_own, after as afterCycle, carried_into, value}
use Rattle.cycle.specs.CycleItems.{items_at}
use Rattle.trace.specs.Items.{items_before, items}
use Rattle.trace.specs.TraceReading.{too_long, earliest, ends_inside, too_short, judged_from}
use Rattle.listing.specs.Listing.{listing}
use Rattle.promises.specs.Machine.{stand_in}
use Rattle.promises.specs.Environment.{handed}
use Rattle.promises.specs.History.{Call, after, finds, made}
use Rattle.promises.specs.History.Call.{event}
use Rattle.promises.proofs.HistoryLaws.{after_both}
use Rattle.promises.specs.LendingLaws.{no_memory, sends}
use Rattle.promises.proofs.SettingLaws.{p5_set_by_packets}
use Rattle.promises.specs.ByEyeExamples.{ByEye, p5_words, p5_bstat}

-- P5, from the registers set and the processor running
p5_by_packets : (w pbr ablr lanes : ℕ) → w ≤ 15 → pbr < 2 ^ 32 → ablr < 2 ^ 32 → pbr % 2 ≡ 0
    → (p5_bstat w pbr ablr (event (p5_event pbr ablr lanes) ∷ []) ≡ 5)
    × (p5_bstat w pbr ablr (event (p5_event pbr ablr lanes) ∷ event (p5_event pbr ablr lanes) ∷ []) ≡ 6)
unfolding after
p5_by_packets w pbr ablr lanes small narrow-pbr narrow-ablr even =
    let seen : Call = event (p5_event pbr ablr lanes) in
    let is = p5 w pbr ablr lanes (le-leb w 15 small) (eq-eqb (pbr % 2) 0 even) in
    (there (seen ∷ []) ∙ is.first, there (seen ∷ seen ∷ []) ∙ is.second)
  where
    there : (calls : List Call) → p5_bstat w pbr ablr calls ≡ (after stand_in (state_of (p5_board w pbr ablr) fresh_place []) calls).board.status.bstat
    there calls =
        ap (λ (s : State). s.board.status.bstat)
        (after_both (made w) (sends no_memory (p5_words pbr ablr)) calls
        ∙ ap (λ (s : State). after stand_in s calls) (p5_set_by_packets w pbr ablr small narrow-pbr narrow-ablr))

pub by_eye : ByEye
unfolding fresh_board fresh_place in_range bstat_in_range fetched stored decoded decoded_word csr_value bstat_read debug_loaded debug_written control_index
    control_fetched
    control_written work_after collected begun continued plan_for reply_now stepped packet_verdict agree level_of pc_group address_matches attribute_agrees
    data_enabled address_group joined fires fired_level bstat_after responds firing halting seen status_after event_verdict gives_own afterCycle carried_into
    value
    items_at items_before items too_long earliest ends_inside too_short judged_from listing handed after finds
by_eye = record {
  p1 = refl;
  p2 = refl;
  p3 = refl;
  p4_outside_lem = refl;
  p4_inside_lem = refl;
  p4_csr_lem = refl;
  p5_first = λ w pbr ablr lanes small narrow-pbr narrow-ablr even. (p5_by_packets w pbr ablr lanes small narrow-pbr narrow-ablr even).0;
  p5_then = λ w pbr ablr lanes small narrow-pbr narrow-ablr even. (p5_by_packets w pbr ablr lanes small narrow-pbr narrow-ablr even).1;
  p6 = refl;
  p7 = refl;
  p8 = refl;
  p9_items = refl;
  p9_ten = refl;
  p9_nine = refl;
  packet_within = refl;
  packet_above = refl;
  w_within = refl;
  w_above = refl;
}
