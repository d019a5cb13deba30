-- What mending makes of small traces and of P9 (01), computed from the definitions.
use Rattle.std.specs.Prelude.{◌≡◌, refl, ℕ, ◌+◌, ◌*◌, List, [], ◌∷◌}
use Rattle.cycle.specs.Cycle.{after}
use Rattle.cycle.specs.CycleExamples.{p9}
use Rattle.trace.specs.TraceReading.{refusal, counted, too_long, too_short}
use Rattle.mending.specs.Mending.{kept, found, latest_marker, cut_short, mended_pst, retold, mended, changes_before, changes}
use Rattle.mending.specs.MendingAnswer.{mending}

-- a trace, what it becomes, and its list
pub record Mends (trace into list : List ℕ) : Type 0 where
  pub cycles : mended trace ≡ into
  pub words : changes trace ≡ list

pub record Shown : Type 0 where
  -- "a trace that was readable comes back equal"
  pub readable : Mends p9 p9 []
  pub empty : Mends [] [] []
  -- "a reserved PST becomes 0", and its nibble stays
  pub reserved : Mends (0x12 ∷ 0x2A ∷ 0x6B ∷ []) (0x12 ∷ 0x0A ∷ 0x0B ∷ []) ((1 * 16 + 2) ∷ (2 * 16 + 6) ∷ [])
  -- "a marker that would get ground 9 becomes PST 0": the one that came too soon, and not the earlier one
  pub too_soon : Mends (0x80 ∷ 0x81 ∷ 0x02 ∷ []) (0x80 ∷ 0x01 ∷ 0x02 ∷ []) ((1 * 16 + 8) ∷ [])
  -- "over what has been mended so far": with the second marker wiped, the third stands on the last nibble's cycle
  pub so_far : Mends (0x80 ∷ 0x91 ∷ 0x82 ∷ 0x03 ∷ 0x04 ∷ []) (0x80 ∷ 0x01 ∷ 0x82 ∷ 0x03 ∷ 0x04 ∷ []) ((1 * 16 + 9) ∷ [])
  -- a reserved PST in a transfer carries its nibble all the same
  pub reserved_inside : Mends (0x80 ∷ 0x21 ∷ 0x02 ∷ []) (0x80 ∷ 0x01 ∷ 0x02 ∷ []) ((1 * 16 + 2) ∷ [])
  -- "if the trace ends inside a transfer, that transfer's marker becomes PST 0", and all its nibbles stay
  pub cut : Mends (0x10 ∷ 0x93 ∷ 0x14 ∷ 0x15 ∷ []) (0x10 ∷ 0x03 ∷ 0x14 ∷ 0x15 ∷ []) ((1 * 16 + 9) ∷ [])
  -- a marker wiped by ground 9 stays wiped though its transfer is wiped later
  pub stays_wiped : Mends (0x90 ∷ 0x81 ∷ 0x02 ∷ 0x03 ∷ []) (0x00 ∷ 0x01 ∷ 0x02 ∷ 0x03 ∷ []) ((0 * 16 + 9) ∷ (1 * 16 + 8) ∷ [])
  -- "Refusals: .. 11 for the mended trace, then 11 for the list"
  pub room : mending (0x12 ∷ 0x2A ∷ 0x6B ∷ []) 3 2 ≡ counted 2
  pub no_room_for_trace : mending (0x12 ∷ 0x2A ∷ 0x6B ∷ []) 2 2 ≡ refusal 11 0
  pub no_room_for_list : mending (0x12 ∷ 0x2A ∷ 0x6B ∷ []) 3 1 ≡ refusal 11 0

pub shown : Shown
unfolding after kept found latest_marker cut_short mended_pst retold changes_before too_long too_short mending
shown =
    record {
      readable = record { cycles = refl; words = refl };
      empty = record { cycles = refl; words = refl };
      reserved = record { cycles = refl; words = refl };
      too_soon = record { cycles = refl; words = refl };
      so_far = record { cycles = refl; words = refl };
      reserved_inside = record { cycles = refl; words = refl };
      cut = record { cycles = refl; words = refl };
      stays_wiped = record { cycles = refl; words = refl };
      room = refl;
      no_room_for_trace = refl;
      no_room_for_list = refl;
    }
