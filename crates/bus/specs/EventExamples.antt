-- What the desk checks by eye (01): P4 and P5.
use Rattle.std.specs.Prelude.{ℕ, ◌%◌, ◌≡◌, refl, Bool, true, false, List, [], ◌∷◌, eqb, leb, None, Some}
use Rattle.std.proofs.Common.{sym, ap, ◌∙◌, subst, eq-eqb}
use Rattle.std.specs.Int.Bits.{bit_or}
use Rattle.command.specs.declared.DebugRegister.{DebugRegister}
use Rattle.command.specs.declared.DebugRegister.TheVariants.{Aatr, Tdr, Pbr, Pbmr, Ablr}
use Rattle.command.specs.Command.{wdmreg, go}
use Rattle.grounds.specs.Grounds.{no_refusal}
use Rattle.board.specs.declared.Board.{Board}
use Rattle.board.specs.declared.Status.{Status}
use Rattle.board.specs.Board.{fresh_board, fresh_place}
use Rattle.ranges.specs.Ranges.{in_range, bstat_in_range}
use Rattle.board.specs.Setters.{with_status, with_debug, with_halted, with_trg, with_bkpt, with_bstat}
use Rattle.csr.specs.Csr.{csr_value}
use Rattle.registers.specs.Registers.{board_after, debug_loaded, debug_written}
use Rattle.halting.specs.Halting.{halting}
use Rattle.trigger.specs.declared.Event.{Event}
use Rattle.comparators.specs.Masks.{agree}
use Rattle.trigger.specs.Levels.{level_of}
use Rattle.comparators.specs.Comparators.{data_enabled}
use Rattle.groups.specs.Groups.{pc_group, address_matches, attribute_agrees, address_group, joined}
use Rattle.trigger.specs.Fired.{fires, fired_level}
use Rattle.firing.specs.Firing.{bstat_after, responds, firing, seen, status_after}
use Rattle.bus.specs.EventAnswers.{EventTold, told_event}
use Rattle.bus.specs.Events.{event_verdict, event_outcome, board_after_event}

-- a debug register to be written
pub record Setting : Type 0 where
  pub register : DebugRegister
  pub value : ℕ

abbrev pub setting : DebugRegister → ℕ → Setting
setting r v = record { register = r; value = v }

-- the board after they are written, in their order, and GO
abbrev pub after_settings : List Setting → Board → Board
after_settings [] b = board_after go b 0 0
after_settings (s ∷ ss) b = after_settings ss (board_after (wdmreg s.register) b 0 s.value)

abbrev answered : Board → Event → EventTold
answered b event = told_event (event_outcome b fresh_place event)

abbrev after : Board → Event → Board
after b event = board_after_event b fresh_place event

abbrev pub fired : ℕ → Bool → EventTold
fired level halts = record { refusal = no_refusal; level = level; halted = halts; interrupt = false; captured = []; ignored = [] }

-- "P4: PBR 0x1000, PBMR 0xF, TDR 0x40002002, GO: PC 0x1010 doesn't fire, 0x100E does; CSR is 0x24100000."
abbrev p4_settings : List Setting
p4_settings = setting Pbr 0x1000 ∷ setting Pbmr 0xF ∷ setting Tdr 0x40002002 ∷ []

abbrev pub p4_outside : Event
p4_outside = record { pc = 0x1010; bus = None; mark = None }

abbrev pub p4_inside : Event
p4_inside = record { pc = 0x100E; bus = None; mark = None }

abbrev pub p4_csr : ℕ
p4_csr = 0x24100000

abbrev p4_board : ℕ → Board
p4_board w = after_settings p4_settings (fresh_board w)

-- what GO leaves of a fresh status, at some BSTAT
abbrev running : Status → ℕ → Status
running s bstat = with_bstat (with_bkpt (with_halted s false) false) bstat

-- what that comes to
abbrev p4_set : ℕ → Board
p4_set w =
    with_debug (with_status (fresh_board w) (running (fresh_board w).status 1))
    (record { csr = 0; baar = 0x05; aatr = 0x0005; tdr = 0x40002002; pbr = 0x1000; pbmr = 0xF; abhr = 0; ablr = 0; dbr = 0; dbmr = 0 })

p4_set_lem : (w : ℕ) → p4_board w ≡ p4_set w
unfolding fresh_board debug_loaded debug_written
p4_set_lem w = refl

pub record P4 (b : Board) : Type 0 where
  pub outside : answered b p4_outside ≡ fired 0 false
  pub inside : answered (after b p4_outside) p4_inside ≡ fired 1 true
  pub csr : csr_value (after (after b p4_outside) p4_inside) ≡ p4_csr

-- the event that fires nothing changes nothing
p4_passes : (w : ℕ) → leb w 15 ≡ true → after (p4_set w) p4_outside ≡ p4_set w
unfolding fresh_board fresh_place in_range bstat_in_range agree level_of pc_group address_group joined fires fired_level bstat_after responds firing halting
    status_after
    event_verdict
p4_passes w allowed = rw allowed

-- the other halts
p4_fires : (w : ℕ) → leb w 15 ≡ true → after (p4_set w) p4_inside ≡ with_status (p4_set w) (with_bstat (with_trg (with_halted (p4_set w).status true) true) 2)
unfolding fresh_board fresh_place in_range bstat_in_range agree level_of pc_group address_group joined fires fired_level bstat_after responds firing halting
    status_after
    event_verdict
p4_fires w allowed = rw allowed

p4_answers : (w : ℕ) → leb w 15 ≡ true → (answered (p4_set w) p4_outside ≡ fired 0 false) × (answered (p4_set w) p4_inside ≡ fired 1 true)
unfolding fresh_board fresh_place in_range bstat_in_range agree level_of pc_group address_group joined fires fired_level bstat_after responds firing halting
    seen
    event_verdict
p4_answers w allowed = (rw allowed, rw allowed)

p4_of_set : (w : ℕ) → leb w 15 ≡ true → P4 (p4_set w)
unfolding fresh_board csr_value
p4_of_set w allowed = record {
  outside = (p4_answers w allowed).0;
  inside = ap (λ (b : Board). answered b p4_inside) (p4_passes w allowed) ∙ (p4_answers w allowed).1;
  csr = ap csr_value (ap (λ (b : Board). after b p4_inside) (p4_passes w allowed) ∙ p4_fires w allowed);
}

-- at any wait setting
pub p4 : (w : ℕ) → leb w 15 ≡ true → P4 (p4_board w)
p4 w allowed = subst P4 (sym (p4_set_lem w)) (p4_of_set w allowed)

-- "P5: running, AATR 0x0005, TDR 0x20042002": and a PBR and an ABLR
abbrev pub p5_settings : ℕ → ℕ → List Setting
p5_settings pbr ablr = setting Pbr pbr ∷ setting Ablr ablr ∷ setting Aatr 0x0005 ∷ setting Tdr 0x20042002 ∷ []

abbrev pub p5_board : ℕ → ℕ → ℕ → Board
p5_board w pbr ablr = after_settings (p5_settings pbr ablr) (fresh_board w)

abbrev p5_set : ℕ → ℕ → ℕ → ℕ → Board
p5_set bstat w pbr ablr =
    with_debug (with_status (fresh_board w) (running (fresh_board w).status bstat))
    (record { csr = 0; baar = 0x05; aatr = 0x0005; tdr = 0x20042002; pbr = pbr; pbmr = 0; abhr = 0; ablr = ablr; dbr = 0; dbmr = 0 })

p5_set_lem : (w pbr ablr : ℕ) → p5_board w pbr ablr ≡ p5_set 1 w pbr ablr
unfolding fresh_board debug_loaded debug_written
p5_set_lem w pbr ablr = refl

-- "an event with PC equal to PBR, address equal to ABLR, attribute 0x05"
abbrev pub p5_event : ℕ → ℕ → ℕ → Event
p5_event pbr ablr lanes = record { pc = pbr; bus = Some (record { address = ablr; attribute = 0x05; lanes = lanes }); mark = None }

self : (n : ℕ) → eqb n n ≡ true
self n = eq-eqb n n refl

module _ (w pbr ablr lanes : ℕ) (allowed : leb w 15 ≡ true) (even : eqb (pbr % 2) 0 ≡ true) where
  p5_one : after (p5_set 1 w pbr ablr) (p5_event pbr ablr lanes) ≡ p5_set 5 w pbr ablr
  unfolding fresh_board fresh_place in_range bstat_in_range agree level_of pc_group address_matches attribute_agrees data_enabled address_group joined fires
      fired_level
      bstat_after responds firing halting status_after event_verdict
  p5_one = rw (allowed, even, self (bit_or pbr 0))

  p5_two : (after (p5_set 5 w pbr ablr) (p5_event pbr ablr lanes)).status.bstat ≡ 6
  unfolding fresh_board fresh_place in_range bstat_in_range agree level_of pc_group address_matches attribute_agrees data_enabled address_group joined fires
      fired_level
      bstat_after responds firing halting status_after event_verdict
  p5_two = rw (allowed, even, self ablr)

-- "twice it gives BSTAT 5, then 6"
pub record P5 (b : Board) (e : Event) : Type 0 where
  pub first : (after b e).status.bstat ≡ 5
  pub second : (after (after b e) e).status.bstat ≡ 6

-- at any wait setting, for any PBR that the PC of an event can equal, any ABLR and any data
pub p5 : (w pbr ablr lanes : ℕ) → leb w 15 ≡ true → eqb (pbr % 2) 0 ≡ true → P5 (p5_board w pbr ablr) (p5_event pbr ablr lanes)
p5 w pbr ablr lanes allowed even =
    let one = p5_one w pbr ablr lanes allowed even in
    subst (λ (b : Board). P5 b (p5_event pbr ablr lanes)) (sym (p5_set_lem w pbr ablr))
    (record {
      first = ap (λ (b : Board). b.status.bstat) one;
      second = ap (λ (b : Board). (after b (p5_event pbr ablr lanes)).status.bstat) one ∙ p5_two w pbr ablr lanes allowed even;
    })
