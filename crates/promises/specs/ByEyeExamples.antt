-- What the desk checks by eye (01): P1 to P9 in one statement, proved from the definitions by computation.
use Rattle.std.specs.Prelude.{ℕ, ◌/◌, ◌%◌, ◌^◌, ◌≤◌, ◌<◌, ◌≡◌, refl, true, false, List, [], ◌∷◌, ◌++◌}
use Rattle.grounds.specs.Grounds.{Refusal, no_refusal, told}
use Rattle.board.specs.Board.{making_verdict}
use Rattle.board.specs.State.{State}
use Rattle.port.specs.Packet.{packet_verdict}
use Rattle.trigger.specs.declared.Event.{Event}
use Rattle.firing.specs.Firing.{seen}
use Rattle.bus.specs.EventAnswers.{EventTold, told_event}
use Rattle.bus.specs.Events.{event_outcome}
use Rattle.bus.specs.EventExamples.{fired, p4_outside, p4_inside, p4_csr, p5_event}
use Rattle.run.specs.PacketExamples.{sixteen, p1_words, p1_replies, p2_words, p2_replies, p3_words, p3_replies, p6_words, p6_replies, p7_words}
use Rattle.run.specs.PacketExamples.{p7_replies, p8_words}
use Rattle.run.specs.PacketExamples.{p8_replies}
use Rattle.cycle.specs.CycleExamples.{p9, p9_words}
use Rattle.trace.specs.Items.{items, words}
use Rattle.trace.specs.TraceReading.{refusal, counted}
use Rattle.listing.specs.Listing.{listing}
use Rattle.promises.specs.Machine.{stand_in}
use Rattle.promises.specs.History.{Lent, Call, after, made}
use Rattle.promises.specs.History.Call.{event}
use Rattle.promises.specs.RunHistory.{replies_to}
use Rattle.promises.specs.LendingLaws.{lent, no_memory, sends}

-- WDMREG of PBR, ABLR, AATR and TDR, then GO
abbrev pub p5_words : ℕ → ℕ → List ℕ
p5_words pbr ablr =
    0x2C88 ∷ pbr / 65536 ∷ pbr % 65536 ∷ 0x2C8D ∷ ablr / 65536 ∷ ablr % 65536 ∷ 0x2C86 ∷ 0 ∷ 0x0005 ∷ 0x2C87 ∷ 0x2004 ∷ 0x2002 ∷ 0x0C00 ∷ []

-- memory 00 to 0F
abbrev pub bytes_to_f : Lent
bytes_to_f = lent sixteen refl

-- the replies on a fresh board
abbrev pub on_fresh : ℕ → Lent → List ℕ → List ℕ
on_fresh w m words = replies_to (made w) (sends m words)

abbrev pub told_of : State → Event → EventTold
told_of s e = told_event (event_outcome s.board s.place e)

-- WDMREG of PBR, PBMR and TDR, then GO, as packets
abbrev pub p4_calls : List Call
p4_calls = sends no_memory (0x2C88 ∷ 0 ∷ 0x1000 ∷ 0x2C89 ∷ 0 ∷ 0xF ∷ 0x2C87 ∷ 0x4000 ∷ 0x2002 ∷ 0x0C00 ∷ [])

-- the event of P5 so often, from where its registers are set by packets
abbrev pub p5_bstat : ℕ → ℕ → ℕ → List Call → ℕ
p5_bstat w pbr ablr seen = (after stand_in (made w) (sends no_memory (p5_words pbr ablr) ++ seen)).board.status.bstat

abbrev pub refused_on : ℕ → Refusal
refused_on number = record { number = number; cycle = 0 }

pub record ByEye : Type 0 where
  -- P1: W=1, memory 00 to 0F, fresh: a longword READ at 4.
  pub p1 : on_fresh 1 bytes_to_f p1_words ≡ p1_replies
  -- P2: then a byte DUMP.
  pub p2 : replies_to (after stand_in (made 1) (sends bytes_to_f p1_words)) (sends bytes_to_f p2_words) ≡ p2_replies
  -- P3: fresh, RDMREG CSR, and again.
  pub p3 : on_fresh 0 no_memory p3_words ≡ p3_replies
  -- P4: PC 0x1010 doesn't fire,
  pub p4_outside_lem : told_of (after stand_in (made 0) p4_calls) p4_outside ≡ fired 0 false
  -- 0x100E does;
  pub p4_inside_lem : told_of (after stand_in (made 0) (p4_calls ++ (event p4_outside ∷ []))) p4_inside ≡ fired 1 true
  -- CSR is 0x24100000, read as packets.
  pub p4_csr_lem : replies_to (after stand_in (made 0) (p4_calls ++ (event p4_outside ∷ event p4_inside ∷ []))) (sends no_memory (0x2D80 ∷ 0 ∷ 0 ∷ []))
      ≡ 0x0FFFF ∷ p4_csr / 65536 ∷ p4_csr % 65536 ∷ []
  -- P5: the event gives BSTAT 5, at any W, for every even PBR, every ABLR and any data,
  pub p5_first : (w pbr ablr lanes : ℕ) → w ≤ 15 → pbr < 2 ^ 32 → ablr < 2 ^ 32 → pbr % 2 ≡ 0
      → p5_bstat w pbr ablr (event (p5_event pbr ablr lanes) ∷ []) ≡ 5
  -- then 6.
  pub p5_then : (w pbr ablr lanes : ℕ) → w ≤ 15 → pbr < 2 ^ 32 → ablr < 2 ^ 32 → pbr % 2 ≡ 0
      → p5_bstat w pbr ablr (event (p5_event pbr ablr lanes) ∷ event (p5_event pbr ablr lanes) ∷ []) ≡ 6
  -- P6: empty memory: byte READ at 0 closes with a bus error.
  pub p6 : on_fresh 0 no_memory p6_words ≡ p6_replies
  -- P7: FILL after READ is illegal.
  pub p7 : on_fresh 0 bytes_to_f p7_words ≡ p7_replies
  -- P8: 0x19C0 is illegal.
  pub p8 : on_fresh 0 no_memory p8_words ≡ p8_replies
  -- P9: five items, each cycle times 16 plus code, and value;
  pub p9_items : words (items p9) ≡ p9_words
  -- the listing accepts and counts five, which go into 10 words,
  pub p9_ten : listing p9 10 ≡ counted 5
  -- and are 11 in 9.
  pub p9_nine : listing p9 9 ≡ refusal 11 0
  -- Limits: packet 0x1FFFF,
  pub packet_within : told (packet_verdict (made 0) 0x1FFFF) ≡ no_refusal
  -- 0x20000;
  pub packet_above : told (packet_verdict (made 0) 0x20000) ≡ refused_on 1
  -- W 15,
  pub w_within : told (making_verdict 15) ≡ no_refusal
  -- 16.
  pub w_above : told (making_verdict 16) ≡ refused_on 2
