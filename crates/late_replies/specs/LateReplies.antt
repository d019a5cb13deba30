-- Last spring's fault (docs/gateway.md): a port whose replies come late. What comes in for a packet is the reply to one so many packets before it.
use Rattle.std.specs.Prelude.{ℕ, zero, suc, ◌≤◌, ◌≡◌, List, ◌∷◌, get_or}
use Rattle.asked.specs.Marker.{illegal_at, last_at}
use Rattle.step.specs.Step.{reply_now}
use Rattle.sound.specs.Sound.{Sound}
use Rattle.visit.specs.declared.Stage.{Stage}
use Rattle.visit.specs.declared.Stage.TheVariants.{Marking, AsRead}
use Rattle.joined.specs.Joined.{Joined, exchanged_for}

-- the visit and the port, and the port's replies so far, the latest first; behind them whatever came before the visit
pub record Late : Type 0 where
  pub joined : Joined
  pub replies : List ℕ

-- how late the reply to packet number i comes, the first of the visit being 0
abbrev pub Lag : Type 0
Lag = ℕ → ℕ

-- what comes in for a packet, so late
abbrev pub came_in : ℕ → Late → ℕ
came_in d l = get_or (reply_now l.joined.port.place ∷ l.replies) d 0

-- one packet, so late
abbrev pub late_by : ℕ → Late → Late
late_by d l = record { joined = exchanged_for l.joined (came_in d l); replies = reply_now l.joined.port.place ∷ l.replies }

-- so many packets, the first of them number i
unfoldable pub lagged : Lag → ℕ → ℕ → Late → Late
lagged lag i zero l = l
lagged lag i (suc k) l = lagged lag (suc i) k (late_by (lag i) l)

-- ---- what is said of it
-- a visit begins: a marker is next, at a port as a history leaves it, whatever is noted and whatever was replied before
pub record Begins (l : Late) : Type 0 where
  pub sound : Sound l.joined.port
  pub marks : l.joined.visit.stage ≡ Marking 0

-- At the 23rd packet of a marker a reply that is 1 to 21 packets late is one to its second to 22nd packet, each of which follows a NOP.
abbrev pub reach : ℕ
reach = illegal_at

-- the reply to packet number i is late, by as much as a marker tells
abbrev pub LateAt : Lag → ℕ → Type 0
LateAt lag i = (1 ≤ lag i) × (lag i ≤ reach)

-- from packet a to packet b it never shrinks; at the end it is within reach
pub record Stays (lag : Lag) (a b : ℕ) : Type 0 where
  pub grows : (x y : ℕ) → a ≤ x → x ≤ y → y ≤ b → lag x ≤ lag y
  pub within : lag b ≤ reach

module _ (lag : Lag) (l : Late) where
  -- after so many packets of the visit
  abbrev pub after : ℕ → Late
  after k = lagged lag 0 k l

  abbrev pub stage_at : ℕ → Stage
  stage_at k = (after k).joined.visit.stage

  -- packet number i is the 23rd of a marker, and what came in for it was 1FFFF
  abbrev pub Passes : ℕ → Type 0
  Passes i = stage_at (suc i) ≡ Marking last_at

  -- the visit ends as read, and with packet number n
  pub record EndsAt (n : ℕ) : Type 0 where
    pub not_before : stage_at n ≡ AsRead → ⊥
    pub read : stage_at (suc n) ≡ AsRead
