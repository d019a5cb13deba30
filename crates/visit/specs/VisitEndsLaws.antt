-- Laws of a visit's end: each reply brings it nearer, so that it ends within a bound, and each is counted.
use Prim.Native.Nat.{ℕ, suc, ◌+◌, ◌-◌, ◌*◌, ◌≤◌, ◌<◌}
use Rattle.std.proofs.Common.{arith, ◌∙◌, leb-false, ltb-true, lt-ltb, ne_eqb}
use Rattle.memory.specs.declared.Size.{Size}
use Rattle.std.specs.Prelude.{◌≡◌, refl, true, false, cond, ◌&&◌, ◌||◌, List, [], ◌∷◌, eqb, leb, ltb, length, Ok, Option}
use Rattle.laws.specs.TestLaws.{by_test, either, neither}
use Rattle.command.specs.Reply.{complete}
use Rattle.requests.specs.Request.{kind_of}
use Rattle.readings.specs.declared.Outcome.{Outcome}
use Rattle.readings.specs.declared.Reader.{Reader}
use Rattle.readings.specs.declared.Reader.TheVariants.{First, Second, Closed, Bad}
use Rattle.readings.specs.Reader.{second_reply, after_reply}
use Rattle.grounds.specs.declared.Ground.{Ground}
use Rattle.grounds.specs.declared.Ground.TheVariants as why
use Rattle.asked.specs.VisitRequests.{in_table, begins, registers_asked, marked}
use Rattle.asked.specs.Marker.{last_at, mark_holds}
use Rattle.visit.specs.declared.Reason.{Reason}
use Rattle.visit.specs.declared.Reason.TheVariants.{Late, NotReady, WordTooLarge, ImpossibleReply}
use Rattle.visit.specs.declared.Stage.{Stage}
use Rattle.visit.specs.declared.Stage.TheVariants.{Marking, Asking, AsRead, NotRead}
use Rattle.visit.specs.declared.Visit.{Visit}
use Rattle.visit.specs.Visit.{start_of, request_now, patience, counted, on_stage, after_marker, mark_stage, is_illegal, is_bus_error, afterwards}
use Rattle.visit.specs.Visit.{stage_after, notable, closed_by, first_stage, second_stage, read_by, reader_after, command_stage, ask_stage, heard_at}
use Rattle.visit.specs.Visit.{is_over, heard}
use Rattle.visit.specs.VisitEnds.{most_packets, heard_all, replies_heard}
use Rattle.visit.specs.VisitLaws.{table_bound, begun_with, over_stays}

-- ---- how far it is from its end
-- a request has 258 packets at most: its command word, 256 not ready, and a second word
abbrev reader_left : ℕ → Reader → ℕ
reader_left sent First = 258 - sent
reader_left sent (Second upper) = 1
reader_left sent (Closed o) = 1
reader_left sent (Bad why) = 1

abbrev stage_left : Stage → ℕ
stage_left (Marking i) = 282 - i
stage_left (Asking sent reader) = cond (eqb sent 0) 258 (reader_left sent reader)
stage_left AsRead = 0
stage_left (NotRead reason) = 0

abbrev left_at : Visit → Stage → ℕ
left_at v stage = (v.ends - v.at) * 300 + stage_left stage

abbrev packets_left : Visit → ℕ
packets_left v = left_at v v.stage

-- what every stage of a visit keeps
abbrev Kept : Visit → Stage → Type 0
Kept v (Marking i) = i ≤ 23
Kept v (Asking sent reader) = (sent ≤ 256) × (v.at < v.ends)
Kept v AsRead = Unit {0}
Kept v (NotRead reason) = Unit {0}

reader_left_positive : (sent : ℕ) (reader : Reader) → sent ≤ 256 → 0 < reader_left sent reader
reader_left_positive sent First few = omega arith
reader_left_positive sent (Second upper) few = omega arith
reader_left_positive sent (Closed o) few = omega arith
reader_left_positive sent (Bad why) few = omega arith

left_positive : (v : Visit) (stage : Stage) → Kept v stage → is_over stage ≡ false → 0 < stage_left stage
left_positive v (Marking i) kept going = omega arith
left_positive v (Asking sent reader) kept going =
    either (λ n. 0 < n) (eqb sent 0) 258 (reader_left sent reader) (λ e. omega arith) (λ e. reader_left_positive sent reader kept.0)
left_positive v AsRead kept going = let z : ◌≡◌ {A = ℕ} 0 1 = cc in omega arith
left_positive v (NotRead reason) kept going = let z : ◌≡◌ {A = ℕ} 0 1 = cc in omega arith

-- ---- a reply brings it nearer, and is counted
record Nearer (v : Visit) (stage : Stage) (w : Visit) : Type 0 where
  pub kept : Kept w w.stage
  pub falls : packets_left w < left_at v stage
  pub counts : w.packets ≡ counted v.packets

-- within one request or one marker
abbrev Within : Visit → Stage → Stage → Type 0
Within v stage next = Kept v next × (stage_left next < stage_left stage)

within_nearer : (v : Visit) (stage next : Stage) → Within v stage next → Nearer v stage (on_stage v next)
within_nearer v stage (Marking i) f = record { kept = f.0; falls = omega (arith, f.1); counts = refl }
within_nearer v stage (Asking sent reader) f = record { kept = f.0; falls = omega (arith, f.1); counts = refl }
within_nearer v stage AsRead f = record { kept = tt; falls = omega (arith, f.1); counts = refl }
within_nearer v stage (NotRead reason) f = record { kept = tt; falls = omega (arith, f.1); counts = refl }

marker_nearer : (v : Visit) (i reply : ℕ) → i ≤ 23 → Nearer v (Marking i) (on_stage v (mark_stage v i reply))
marker_nearer v i reply few =
    let to = Within v (Marking i) in
    let next = either to (ltb i last_at) (Marking (suc i)) (after_marker v.ends v.at)
    (λ e. (omega (arith, ltb-true i 23 e), omega (arith, ltb-true i 23 e)))
    (λ e. either to (leb v.ends v.at) AsRead (Asking 0 First) (λ e. (tt, omega arith))
    (λ e. ((omega arith, leb-false v.ends v.at e), omega arith))) in
    within_nearer v (Marking i) (mark_stage v i reply) (either to (mark_holds i reply) _ (NotRead Late) (λ e. next) (λ e. (tt, omega arith)))

not_yet_ended : (ends j : ℕ) → marked ends j ≡ false → j < ends
unfolding marked
not_yet_ended ends j e = leb-false ends j (neither (in_table j && begins (j - registers_asked)) (leb ends j) e).1

module _ (v : Visit) (stage : Stage) (more : v.at < v.ends) (positive : 0 < stage_left stage) where
  ended_nearer : (reason : Reason) → Nearer v stage (on_stage v (NotRead reason))
  ended_nearer reason = within_nearer v stage (NotRead reason) (tt, positive)

  -- the next request
  abbrev turned : ℕ → Stage → Visit
  turned ends next = record { address = v.address; ends = ends; at = suc v.at; packets = counted v.packets; stage = next }

  turned_nearer : (o : Outcome) (ends : ℕ) → ends - suc v.at < v.ends - v.at → Nearer v stage (turned ends (stage_after o ends (suc v.at)))
  turned_nearer o ends fewer =
      let j = suc v.at in
      either (λ next. Nearer v stage (turned ends next)) (is_illegal o || marked ends j) (Marking 0) (Asking 0 First)
      (λ e. record { kept = omega arith; falls = omega arith; counts = refl })
      (λ e. record { kept = (omega arith, not_yet_ended ends j (neither (is_illegal o) (marked ends j) e).1); falls = omega arith; counts = refl })

  closed_nearer : (o : Outcome) → Nearer v stage (closed_by v o)
  unfolding closed_by
  closed_nearer o =
      let next : afterwards v.ends v.at ≡ suc v.at = rw (lt-ltb v.at v.ends more) in
      let fewer = either (λ ends. ends - suc v.at < v.ends - v.at) (in_table v.at && is_bus_error o) (suc v.at) v.ends
      (λ e. omega arith) (λ e. omega arith) in
      either (Nearer v stage) (notable o v.at) _ (on_stage v (NotRead ImpossibleReply))
      (λ e. rw next (turned_nearer o (cond (in_table v.at && is_bus_error o) (suc v.at) v.ends) fewer))
      (λ e. ended_nearer ImpossibleReply)

asking_left : (sent : ℕ) (reader : Reader) → eqb sent 0 ≡ false → stage_left (Asking sent reader) ≡ reader_left sent reader
asking_left sent reader e = rw e

next_asking_left : (sent : ℕ) (reader : Reader) → stage_left (Asking (suc sent) reader) ≡ reader_left (suc sent) reader
next_asking_left sent reader = asking_left (suc sent) reader (ne_eqb (suc sent) 0 (λ e. omega arith))

module _ (v : Visit) (sent : ℕ) (few : sent ≤ 256) (more : v.at < v.ends) where
  asking_positive : (reader : Reader) → 0 < stage_left (Asking sent reader)
  asking_positive reader = left_positive v (Asking sent reader) (few, more) refl

  closes : (reader : Reader) (o : Outcome) → Nearer v (Asking sent reader) (read_by v sent (Closed o))
  closes reader o = closed_nearer v (Asking sent reader) more (asking_positive reader) o

  breaks : (reader : Reader) (why : Ground) → Nearer v (Asking sent reader) (read_by v sent (Bad why))
  breaks reader why = ended_nearer v (Asking sent reader) more (asking_positive reader) ImpossibleReply

  first_nearer : (next : Reader) → eqb sent 0 ≡ false → Nearer v (Asking sent First) (read_by v sent next)
  first_nearer First asked =
      let left = asking_left sent First asked in
      within_nearer v (Asking sent First) (first_stage sent)
      (either (Within v (Asking sent First)) (ltb sent patience) (Asking (suc sent) First) (NotRead NotReady)
      (λ e. let small = ltb-true sent 256 e in ((small, more), omega (arith, next_asking_left sent First)))
      (λ e. (tt, omega arith)))
  first_nearer (Second upper) asked =
      let left = asking_left sent First asked in
      within_nearer v (Asking sent First) (second_stage sent upper)
      (either (Within v (Asking sent First)) (ltb sent patience) (Asking (suc sent) (Second upper)) (Asking sent (Second upper))
      (λ e. let small = ltb-true sent 256 e in ((small, more), omega (arith, next_asking_left sent (Second upper))))
      (λ e. ((few, more), omega (arith, asking_left sent (Second upper) asked))))
  first_nearer (Closed o) asked = closes First o
  first_nearer (Bad why) asked = breaks First why

  read_nearer : (kind : Option Size) (reader : Reader) (reply : ℕ) → eqb sent 0 ≡ false
      → Nearer v (Asking sent reader) (read_by v sent (after_reply kind reader reply))
  read_nearer kind First reply asked = first_nearer (after_reply kind First reply) asked
  read_nearer kind (Second upper) reply asked =
      let to : Reader → Type 0 = λ next. Nearer v (Asking sent (Second upper)) (read_by v sent next) in
      either to (leb reply 0x1FFFF) (second_reply upper reply) (Bad why.WordTooLarge)
      (λ e. either to (leb reply 0xFFFF) _ (Bad why.ImpossibleReply) (λ e. closes (Second upper) _) (λ e. breaks (Second upper) why.ImpossibleReply))
      (λ e. breaks (Second upper) why.WordTooLarge)
  read_nearer kind (Closed o) reply asked = closes (Closed o) o
  read_nearer kind (Bad why) reply asked = breaks (Bad why) why

  command_nearer : (reader : Reader) (reply : ℕ) → eqb sent 0 ≡ true → Nearer v (Asking sent reader) (on_stage v (command_stage reply))
  command_nearer reader reply first =
      let left : stage_left (Asking sent reader) ≡ 258 = rw first in
      within_nearer v (Asking sent reader) (command_stage reply)
      (either (Within v (Asking sent reader)) (eqb reply complete) (Asking 1 First) (NotRead Late)
      (λ e. ((omega arith, more), omega arith))
      (λ e. (tt, omega arith)))

  ask_nearer : (reader : Reader) (reply : ℕ) → Nearer v (Asking sent reader) (ask_stage v sent reader reply)
  ask_nearer reader reply =
      either (Nearer v (Asking sent reader)) (eqb sent 0) (on_stage v (command_stage reply)) (read_by v sent (reader_after v reader reply))
      (command_nearer reader reply)
      (read_nearer (kind_of (request_now v)) reader reply)

stage_nearer : (v : Visit) (stage : Stage) (reply : ℕ) → Kept v stage → is_over stage ≡ false → Nearer v stage (heard_at v stage reply)
stage_nearer v (Marking i) reply kept going = marker_nearer v i reply kept
stage_nearer v (Asking sent reader) reply kept going = ask_nearer v sent kept.0 kept.1 reader reply
stage_nearer v AsRead reply kept going = let z : ◌≡◌ {A = ℕ} 0 1 = cc in absurd (omega arith)
stage_nearer v (NotRead reason) reply kept going = let z : ◌≡◌ {A = ℕ} 0 1 = cc in absurd (omega arith)

heard_nearer : (v : Visit) (reply : ℕ) → Kept v v.stage → is_over v.stage ≡ false → Nearer v v.stage (heard v reply)
unfolding heard
heard_nearer v reply kept going =
    let positive = left_positive v v.stage kept going in
    rw going
    (either (Nearer v v.stage) (leb reply 0x1FFFF) (heard_at v v.stage reply) (on_stage v (NotRead WordTooLarge))
    (λ e. stage_nearer v v.stage reply kept going)
    (λ e. within_nearer v v.stage (NotRead WordTooLarge) (tt, positive)))

-- ---- all replies
pub all_over : (v : Visit) (replies : List ℕ) → is_over v.stage ≡ true → heard_all v replies ≡ v
all_over v [] over = refl
all_over v (reply ∷ replies) over = rw (over_stays v reply over) (all_over v replies over)

ends_within : (replies : List ℕ) (v : Visit) → Kept v v.stage → packets_left v ≤ length replies → is_over (heard_all v replies).stage ≡ true
ends_within [] v kept enough =
    by_test (is_over v.stage) (λ over. over) (λ going. absurd (omega (arith, left_positive v v.stage kept going)))
ends_within (reply ∷ replies) v kept enough =
    by_test (is_over v.stage)
    (λ over. rw (all_over v (reply ∷ replies) over) over)
    (λ going. let near = heard_nearer v reply kept going in ends_within replies (heard v reply) near.kept (omega (arith, near.falls)))

-- what was heard and what is left is no more than what it may take
record Going (most : ℕ) (v : Visit) : Type 0 where
  pub kept : Kept v v.stage
  pub budget : v.packets + packets_left v ≤ most

module _ (most : ℕ) (small : most < 0xFFFFFFFF) where
  counted_once : (v : Visit) (reply : ℕ) → Going most v → is_over v.stage ≡ false → (heard v reply).packets ≡ suc v.packets
  counted_once v reply f going =
      (heard_nearer v reply f.kept going).counts ∙ rw (lt-ltb v.packets 0xFFFFFFFF (omega (arith, f.budget)))

  still_going : (v : Visit) (reply : ℕ) → Going most v → is_over v.stage ≡ false → Going most (heard v reply)
  still_going v reply f going =
      let near = heard_nearer v reply f.kept going in
      record { kept = near.kept; budget = omega (arith, near.falls, f.budget, counted_once v reply f going) }

  all_counted : (replies : List ℕ) (v : Visit) → Going most v → (heard_all v replies).packets ≡ v.packets + replies_heard v replies
  all_counted [] v f = omega arith
  all_counted (reply ∷ replies) v f =
      by_test (is_over v.stage)
      (λ over. rw (all_over v (reply ∷ replies) over, over) (omega arith))
      (λ going. rw going (omega (arith, all_counted replies (heard v reply) (still_going v reply f going), counted_once v reply f going)))

-- ---- a visit that was begun
module _ (address longwords room : ℕ) {v : Visit} (started : start_of address longwords room ≡ Ok v) where
  begun_going : Going (most_packets v.ends) v
  begun_going = rw (begun_with address longwords room started).visit (record { kept = omega arith; budget = omega arith })

  -- the count of packets never comes to its end
  pub most_packets_fit : most_packets v.ends < 0xFFFFFFFF
  most_packets_fit =
      let b = begun_with address longwords room started in rw b.visit (omega (arith, table_bound address longwords b.table))

  -- "every visit ends", whatever the replies are
  pub visit_ends : (replies : List ℕ) → most_packets v.ends ≤ length replies → is_over (heard_all v replies).stage ≡ true
  visit_ends replies enough =
      ends_within replies v begun_going.kept (omega (arith, begun_going.budget))

  -- "Packets count from 1": none is left out
  pub packets_are_replies : (replies : List ℕ) → (heard_all v replies).packets ≡ replies_heard v replies
  packets_are_replies replies =
      all_counted (most_packets v.ends) most_packets_fit replies v begun_going
      ∙ rw (begun_with address longwords room started).visit (omega arith)
