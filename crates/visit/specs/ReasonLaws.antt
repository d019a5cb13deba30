-- Laws of a visit's reasons: where a reply has a ground (01), the visit ends for a reason with that ground's number.
use Rattle.std.specs.Prelude.{ℕ, suc, ◌+◌, ◌*◌, ◌<◌, ◌≡◌, true, false, cond, List, [], ◌∷◌, eqb, leb, None, Option, Some}
use Rattle.memory.specs.declared.Size.{Size}
use Rattle.std.proofs.Common.{arith, sym, ap, ◌∙◌, ne_eqb}
use Rattle.std.proofs.Math.Path.{refl}
use Rattle.std.proofs.lemmas.Bool.{lt-leb}
use Rattle.laws.specs.TestLaws.{by_test, either}
use Rattle.memory.specs.declared.Size.TheVariants.{Byte, Word, Long}
use Rattle.command.specs.Reply.{complete, not_ready, bus_error, illegal}
use Rattle.grounds.specs.declared.Ground.{Ground}
use Rattle.grounds.specs.declared.Ground.TheVariants as why
use Rattle.grounds.specs.Grounds.{number}
use Rattle.requests.specs.Request.{kind_of}
use Rattle.readings.specs.declared.Outcome.TheVariants as outcome
use Rattle.readings.specs.declared.Reader.{Reader}
use Rattle.readings.specs.declared.Reader.TheVariants.{First, Second, Closed, Bad}
use Rattle.readings.specs.Reader.{data_reply, status_reply, after_reply, done}
use Rattle.asked.specs.VisitRequests.{in_table}
use Rattle.visit.specs.declared.Reason.{Reason}
use Rattle.visit.specs.declared.Reason.TheVariants.{WordTooLarge, ImpossibleReply}
use Rattle.visit.specs.declared.Stage.{Stage}
use Rattle.visit.specs.declared.Stage.TheVariants.{Marking, Asking, AsRead, NotRead}
use Rattle.visit.specs.declared.Visit.{Visit}
use Rattle.visit.specs.Visit.{begun, request_now, closed_by, read_by, reader_after, is_over, heard, reason_number}
use Rattle.visit.specs.VisitLaws.{over_stays}
use Rattle.visit.specs.VisitEnds.{heard_all}
use Rattle.visit.specs.HeardStageLaws.{too_large, heard_asking, Anew, asked_anew, after_marker_lem, marking_leads}

-- ---- a reply's ground
module _ (g : Ground) where
  -- of one within 17 bits it is 14
  abbrev Is14 : Reader → Type 0
  Is14 reader = reader ≡ Bad g → g ≡ why.ImpossibleReply

  data_14 : (kind : Option Size) (reply : ℕ) → Is14 (data_reply kind reply)
  data_14 None reply = either Is14 (eqb reply complete) (Closed outcome.Complete) (Bad why.ImpossibleReply) (λ t e. cc) (λ t e. cc)
  data_14 (Some Byte) reply = either Is14 (leb reply 0xFF) (Closed (outcome.Value reply)) (Bad why.ImpossibleReply) (λ t e. cc) (λ t e. cc)
  data_14 (Some Word) reply = λ e. cc
  data_14 (Some Long) reply = λ e. cc

  status_14 : (reply : ℕ) → Is14 (status_reply reply)
  status_14 reply =
      either Is14 (eqb reply not_ready) First _ (λ t e. cc)
      (λ t. either Is14 (eqb reply bus_error) (Closed outcome.BusError) _ (λ t e. cc)
      (λ t. either Is14 (eqb reply illegal) (Closed outcome.Illegal) (Bad why.ImpossibleReply) (λ t e. cc) (λ t e. cc)))

  within_14 : (kind : Option Size) (reader : Reader) (reply : ℕ) → done reader ≡ false → leb reply 0x1FFFF ≡ true → Is14 (after_reply kind reader reply)
  within_14 kind First reply waits small =
      rw small (either Is14 (leb reply 0xFFFF) (data_reply kind reply) (status_reply reply) (λ t. data_14 kind reply) (λ t. status_14 reply))
  within_14 kind (Second upper) reply waits small =
      rw small (either Is14 (leb reply 0xFFFF) (Closed (outcome.Value (upper * 65536 + reply))) (Bad why.ImpossibleReply) (λ t e. cc) (λ t e. cc))
  within_14 kind (Closed o) reply waits small = λ e. cc
  within_14 kind (Bad h) reply waits small = λ e. cc

-- of one above them 1
above_is_1 : (kind : Option Size) (reader : Reader) (reply : ℕ) → done reader ≡ false → leb reply 0x1FFFF ≡ false
    → after_reply kind reader reply ≡ Bad why.WordTooLarge
above_is_1 kind First reply waits large = rw large
above_is_1 kind (Second upper) reply waits large = rw large
above_is_1 kind (Closed o) reply waits large = cc
above_is_1 kind (Bad h) reply waits large = cc

-- ---- the reason
-- it ends not read, for a reason with the ground's number
pub record EndsFor (v : Visit) (g : Ground) : Type 0 where
  pub reason : Reason
  pub ends : v.stage ≡ NotRead reason
  pub same : reason_number reason ≡ number g

-- "is above 1FFFF, whatever was asked (ground 1)"
pub large_reply_ends : (v : Visit) (reply : ℕ) → is_over v.stage ≡ false → 0x1FFFF < reply → EndsFor (heard v reply) why.WordTooLarge
unfolding heard
large_reply_ends v reply going large = record { reason = WordTooLarge; ends = rw (going, lt-leb reply 0x1FFFF large); same = refl }

-- a request under way, its reader not done
module _ (v : Visit) (sent reply : ℕ) (reader : Reader) (asks : v.stage ≡ Asking (suc sent) reader) (waits : done reader ≡ false) where
  asked_stage : (heard v reply).stage ≡ (cond (leb reply 0x1FFFF) (read_by v (suc sent) (reader_after v reader reply)) (too_large v reply)).stage
  asked_stage = ap (λ (x : Visit). x.stage) (heard_asking v reply (suc sent) reader asks) ∙ rw (ne_eqb (suc sent) 0 (λ e. omega arith))

  -- "is one that the request can't have (ground 14)": whatever ground the pod's half has against it
  pub bad_reply_ends : (g : Ground) → reader_after v reader reply ≡ Bad g → EndsFor (heard v reply) g
  bad_reply_ends g bad =
      let kind = kind_of (request_now v) in
      by_test (leb reply 0x1FFFF)
      (λ small.
      let it = within_14 g kind reader reply waits small bad in
      record { reason = ImpossibleReply; ends = asked_stage ∙ rw (small, bad); same = ap number (sym it) })
      (λ large.
      let it : why.WordTooLarge ≡ g = let one = above_is_1 kind reader reply waits large in cc in
      record { reason = WordTooLarge; ends = asked_stage ∙ rw large; same = ap number it })

  -- "in the table 1FFFF too"
  pub illegal_in_table_ends : in_table v.at ≡ true → reader_after v reader reply ≡ Closed outcome.Illegal → EndsFor (heard v reply) why.ImpossibleReply
  unfolding closed_by
  illegal_in_table_ends there closed =
      by_test (leb reply 0x1FFFF)
      (λ small. record { reason = ImpossibleReply; ends = asked_stage ∙ rw (small, closed, there); same = refl })
      (λ large. let one = above_is_1 (kind_of (request_now v)) reader reply waits large in record { reason = ImpossibleReply; ends = cc; same = refl })

-- ---- such is every request under way, whatever came in
abbrev Waits : Stage → Type 0
Waits (Marking i) = Unit {0}
Waits (Asking sent reader) = done reader ≡ false
Waits AsRead = Unit {0}
Waits (NotRead reason) = Unit {0}

anew_waits : (stage : Stage) → Anew stage → Waits stage
anew_waits (Marking i) h = tt
anew_waits (Asking sent reader) h = h
anew_waits AsRead h = tt
anew_waits (NotRead reason) h = tt

heard_waits : (v : Visit) (reply : ℕ) → Waits v.stage → Waits (heard v reply).stage
heard_waits v reply before = by_stage v.stage refl
  where
    by_stage : (stage : Stage) → v.stage ≡ stage → Waits (heard v reply).stage
    by_stage (Marking i) e = marking_leads v Waits i reply e (λ h l. tt) (λ h l. after_marker_lem v Waits tt refl) tt tt
    by_stage (Asking sent reader) e = anew_waits (heard v reply).stage (asked_anew v sent reader reply e)
    by_stage AsRead e = rw (over_stays v reply (rw e)) before
    by_stage (NotRead reason) e = rw (over_stays v reply (rw e)) before

all_wait : (replies : List ℕ) (v : Visit) → Waits v.stage → Waits (heard_all v replies).stage
all_wait [] v before = before
all_wait (reply ∷ replies) v before = all_wait replies (heard v reply) (heard_waits v reply before)

pub reader_waits : (address longwords : ℕ) (replies : List ℕ) {sent : ℕ} {reader : Reader}
    → (heard_all (begun address longwords) replies).stage ≡ Asking sent reader → done reader ≡ false
reader_waits address longwords replies e = rw e at (all_wait replies (begun address longwords) tt)
