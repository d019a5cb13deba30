-- A gateway's visit (docs/gateway.md), the promise of READ: "Replies stood where they must at each marker". Replies and packets count from 0.
use Rattle.std.specs.Prelude.{ℕ, suc, ◌+◌, ◌-◌, ◌*◌, ◌≤◌, ◌≡◌, List, get_or, take}
use Rattle.command.specs.Reply.{complete, illegal}
use Rattle.asked.specs.Marker.{nops_to_rest, illegal_at, last_at, marker_packets}
use Rattle.visit.specs.declared.Stage.TheVariants.{Marking}
use Rattle.visit.specs.declared.Visit.{Visit}
use Rattle.visit.specs.VisitEnds.{heard_all, replies_heard}

-- the replies to a marker whose first packet has number p
pub record MarkerStood (replies : List ℕ) (p : ℕ) : Type 0 where
  -- the NOP before the illegal word, and that word: 0FFFF
  pub rests : get_or replies (p + suc nops_to_rest) 0 ≡ complete
  pub sends : get_or replies (p + illegal_at) 0 ≡ complete
  -- "1FFFF: the closing reply of the illegal word"
  pub closes : get_or replies (p + suc illegal_at) 0 ≡ illegal
  -- the last NOP: 0FFFF
  pub ends : get_or replies (p + last_at) 0 ≡ complete

pub record ReadIsMarked (v : Visit) (replies : List ℕ) : Type 0 where
  -- wherever a marker begins
  pub each : (p : ℕ) → (heard_all v (take p replies)).stage ≡ Marking 0 → MarkerStood replies p
  -- the visit begins with one,
  pub first : MarkerStood replies 0
  -- ends with one,
  pub last : MarkerStood replies (replies_heard v replies - marker_packets)
  -- and these are two
  pub two : 2 * marker_packets ≤ replies_heard v replies
