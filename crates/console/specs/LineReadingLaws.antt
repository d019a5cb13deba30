-- Laws of reading lines: what is held of a line goes on with each piece that comes, until one ends it or the input ends.
use Rattle.std.specs.Prelude.{ℕ, zero, suc, ◌+◌, ◌-◌, ◌≤◌, ◌<◌, min, ◌≡◌, refl, Bool, true, false, cond, ◌&&◌, List, [], ◌∷◌, ◌++◌, eqb, leb}
use Rattle.std.specs.Prelude.{length, take, drop}
use Rattle.std.proofs.Common.{arith, ap, sym, ◌∙◌, true≢false, append-nil, append_assoc, length-take, length-drop, drop_of_length-le, take_all}
use Rattle.std.proofs.Common.{drop-drop, eq-eqb, ne_eqb, leb-true, leb-false}
use Rattle.std.proofs.Math.Seq.{take-nil}
use Rattle.console.specs.declared.Cut.{Cut}
use Rattle.console.specs.declared.Input.{Input}
use Rattle.console.specs.declared.Input.TheVariants.{Line, Last}
use Rattle.console.specs.InputLines.{is_line_end, first_line, has_ended}
use Rattle.console.specs.InputLineLaws.{open_line, pieces_join, left_behind}
use Rattle.console.specs.Holding.{held_of}
use Rattle.console.specs.HoldingLaws.{held_on_both, further}
use Rattle.console.specs.LineReading.{CutMeets, Needed, Stands, NextMeets, unread_of, held_bytes, all_brought, each_brought, most_reads, ends_input}

-- of all bytes that have come none ends a line, and so many of them are held; what lies behind those is as it was
pub record Gathered (before all buffer : List ℕ) (had : ℕ) : Type 0 where
  pub goes_on : has_ended all ≡ false
  pub within : had ≤ length buffer
  pub line : take had buffer ≡ held_of (length buffer) all
  pub rest : drop had buffer ≡ drop had before

gathers_nothing : (line : List ℕ) → Gathered line [] line 0
gathers_nothing line = record { goes_on = refl; within = omega arith; line = refl; rest = refl }

module _ {before all line piece after : List ℕ} {had : ℕ} {r : Cut} (g : Gathered before all line had) (size : length after ≡ length line)
    (m : CutMeets piece line had r after) where
  -- what is held of the line, with the piece
  with_piece : take r.held after ≡ held_of (length after) (all ++ first_line piece)
  with_piece = m.line ∙ rw (g.line, size, held_on_both (length line) [] all (first_line piece))

  behind_piece : drop r.held after ≡ drop r.held before
  behind_piece = m.rest ∙ further had r.held line before m.more g.rest

  piece_goes_on : r.ended ≡ false → Gathered before (all ++ piece) after r.held
  piece_goes_on e =
      let none : has_ended piece ≡ false = sym m.ended ∙ e in
      record {
        goes_on = (pieces_join all piece g.goes_on).1 ∙ none;
        within = m.within;
        line = with_piece ∙ rw (open_line piece none).0;
        rest = behind_piece;
      }

  piece_ends : {source left : List ℕ} {end : ℕ} (unread : List ℕ) (reads : List (List ℕ)) → unread ++ all_brought reads ≡ all ++ piece
      → each_brought reads ≡ true → Needed unread reads → Stands reads source left end → r.ended ≡ true
      → NextMeets source unread before (Line r.held) left end (drop r.taken piece) after
  piece_ends unread reads q each need stand e =
      let some : has_ended piece ≡ true = sym m.ended ∙ e in
      let join = pieces_join all piece g.goes_on in
      let here : r.taken ≡ length (first_line piece) + 1 = m.taken ∙ rw some in
      record {
        reads = reads;
        came = each;
        needed = need;
        stands = λ l. stand;
        ended = rw q (join.1 ∙ some);
        behind = rw (q, here) (left_behind piece some ∙ sym join.2);
        within = m.within;
        line = rw (q, join.0) with_piece;
        rest = behind_piece;
      }

-- the input has ended: all that came is the last line
input_ends : {source left before first line : List ℕ} {had end : ℕ} (unread : List ℕ) (reads : List (List ℕ)) → unread ≡ first → ends_input reads ≡ true
    → Needed unread reads → Gathered before (first ++ all_brought reads) line had → NextMeets source unread before (Last had) left end [] line
input_ends {first = first} unread reads q e need g =
    let whole = open_line (first ++ all_brought reads) g.goes_on in
    record {
      reads = reads;
      came = e;
      needed = need;
      stands = λ l. absurd (true≢false l);
      ended = rw q g.goes_on;
      behind = rw q (sym whole.1);
      within = g.within;
      line = rw (q, whole.0) g.line;
      rest = g.rest;
    }

used_up : (reads : List (List ℕ)) → each_brought reads ≡ true → length reads ≡ most_reads → ends_input reads ≡ true
unfolding most_reads
used_up [] each count = absurd (omega (arith, count))
used_up (piece ∷ earlier) each count = by_test (eqb (length piece) 0) each
  where
    by_test : (t : Bool) → cond t false (each_brought earlier) ≡ true → (each_brought earlier && cond t true (eqb (suc (length earlier)) most_reads)) ≡ true
    by_test true f = cc
    by_test false f = rw (f, eq-eqb (suc (length earlier)) most_reads count)

-- what reads have come to: each has brought something, and so many more may follow
pub record Reading (before first buffer : List ℕ) (had budget : ℕ) : Type 0 where
  pub reads : List (List ℕ)
  pub each : each_brought reads ≡ true
  pub count : budget + length reads ≡ most_reads
  pub gathered : Gathered before (first ++ all_brought reads) buffer had

-- before the first read
module _ {line piece after : List ℕ} {r : Cut} (size : length after ≡ length line) (m : CutMeets piece line 0 r after) where
  pub first_goes_on : (budget : ℕ) → budget ≡ most_reads → r.ended ≡ false → Reading after piece after r.held budget
  first_goes_on budget all e =
      let g = piece_goes_on (gathers_nothing line) size m e in
      record {
        reads = [];
        each = refl;
        count = omega (arith, all);
        gathered = rw (append-nil piece) (record { goes_on = g.goes_on; within = g.within; line = g.line; rest = refl });
      }

  pub first_ends : (source : List ℕ) (end : ℕ) (unread : List ℕ) → unread ≡ piece → r.ended ≡ true
      → NextMeets source unread line (Line r.held) source end (drop r.taken piece) after
  first_ends source end unread q e = piece_ends (gathers_nothing line) size m unread [] (append-nil unread ∙ q) refl tt refl e

some_bytes : (bytes : List ℕ) → has_ended bytes ≡ true → eqb (length bytes) 0 ≡ false
some_bytes [] e = cc
some_bytes (byte ∷ bytes) e = ne_eqb (suc (length bytes)) 0 (λ q. omega (arith, q))

-- a read, behind all those before it
module _ {before first line piece after : List ℕ} {had budget : ℕ} {r : Cut} (g : Reading before first line had budget)
    (size : length after ≡ length line) (m : CutMeets piece line had r after) where
  joins : first ++ all_brought (piece ∷ g.reads) ≡ (first ++ all_brought g.reads) ++ piece
  joins = sym (append_assoc first (all_brought g.reads) piece)

  pub next_goes_on : (left : ℕ) → 0 < budget → left ≡ budget - 1 → r.ended ≡ false → r.none ≡ false → Reading before first after r.held left
  next_goes_on left some one e n =
      let brought : eqb (length piece) 0 ≡ false = sym m.none ∙ n in
      record {
        reads = piece ∷ g.reads;
        each = rw brought g.each;
        count = omega (arith, g.count, one);
        gathered = rw joins (piece_goes_on g.gathered size m e);
      }

  open_before : (unread : List ℕ) → unread ≡ first → has_ended (unread ++ all_brought g.reads) ≡ false
  open_before unread q = rw q g.gathered.goes_on

  pub next_ends : (source left : List ℕ) (end : ℕ) (unread : List ℕ) → unread ≡ first → piece ≡ take end left → r.ended ≡ true
      → NextMeets source unread before (Line r.held) left end (drop r.taken piece) after
  next_ends source left end unread q p e =
      let brought : eqb (length piece) 0 ≡ false = some_bytes piece (sym m.ended ∙ e) in
      piece_ends g.gathered size m unread (piece ∷ g.reads) (rw q joins) (rw brought g.each) (open_before unread q) p e

  pub nothing_came : {source left : List ℕ} {end : ℕ} (unread : List ℕ) → unread ≡ first → r.ended ≡ false → r.none ≡ true
      → NextMeets source unread before (Last r.held) left end [] after
  nothing_came unread q e n =
      let none : eqb (length piece) 0 ≡ true = sym m.none ∙ n in
      let all : Gathered before (first ++ all_brought (piece ∷ g.reads)) after r.held = rw joins (piece_goes_on g.gathered size m e) in
      input_ends unread (piece ∷ g.reads) q (rw (g.each, none)) (open_before unread q) all

-- a buffer in which less was held before
pub held_before : {source unread line left after buffer : List ℕ} {r : Input} {end : ℕ} (had : ℕ) (before : List ℕ) → had ≤ held_bytes r
    → drop had line ≡ drop had before → NextMeets source unread line r left end after buffer → NextMeets source unread before r left end after buffer
held_before {line = line} {r = r} had before more e n =
    record {
      reads = n.reads;
      came = n.came;
      needed = n.needed;
      stands = n.stands;
      ended = n.ended;
      behind = n.behind;
      within = n.within;
      line = n.line;
      rest = n.rest ∙ further had (held_bytes r) line before more e;
    }

-- what has no end has none in its front
front_open : (bytes more : List ℕ) → has_ended (bytes ++ more) ≡ false → has_ended bytes ≡ false
front_open [] more e = refl
front_open (byte ∷ bytes) more e = by_test (front_open bytes more) (is_line_end byte) e
  where
    by_test : (has_ended (bytes ++ more) ≡ false → has_ended bytes ≡ false) → (t : Bool) → cond t true (has_ended (bytes ++ more)) ≡ false
        → cond t true (has_ended bytes) ≡ false
    by_test on true f = cc
    by_test on false f = on f

open_earlier : (unread : List ℕ) (reads : List (List ℕ)) → has_ended (unread ++ all_brought reads) ≡ false → Needed unread reads
open_earlier unread [] e = tt
open_earlier unread (piece ∷ earlier) e =
    front_open (unread ++ all_brought earlier) piece (ap has_ended (append_assoc unread (all_brought earlier) piece) ∙ e)

pub budget_ends : {source left before first line : List ℕ} {had budget end : ℕ} (unread : List ℕ) → unread ≡ first → budget ≤ 0
    → Reading before first line had budget → NextMeets source unread before (Last had) left end [] line
budget_ends unread q none g =
    input_ends unread g.reads q (used_up g.reads g.each (omega (arith, g.count))) (open_earlier unread g.reads (rw q g.gathered.goes_on))
    g.gathered

-- what is unread by its two places, the end no further than the source and the start no further than the end
min_within : (source : List ℕ) (at end : ℕ)
    → unread_of source (min at (min end (length source))) (min end (length source)) ≡ unread_of source at end
min_within source at end = by_tests (leb end (length source)) (leb at (min end (length source))) refl refl
  where
    by_tests : (t u : Bool) → leb end (length source) ≡ t → leb at (min end (length source)) ≡ u
        → unread_of source (min at (min end (length source))) (min end (length source)) ≡ unread_of source at end
    by_tests true true p q =
        let e : min end (length source) ≡ end = omega (arith, leb-true end (length source) p) in
        let a : min at (min end (length source)) ≡ at = omega (arith, leb-true at (min end (length source)) q) in
        rw (a, e)
    by_tests true false p q =
        let e : min end (length source) ≡ end = omega (arith, leb-true end (length source) p) in
        let a : min at (min end (length source)) ≡ end = omega (arith, e, leb-false at (min end (length source)) q) in
        let none : end - at ≡ 0 = omega (arith, e, leb-false at (min end (length source)) q) in
        let none' : end - end ≡ 0 = omega arith in
        rw (a, e, none, none')
    by_tests false true p q =
        let e : min end (length source) ≡ length source = omega (arith, leb-false end (length source) p) in
        let a : min at (min end (length source)) ≡ at = omega (arith, leb-true at (min end (length source)) q) in
        let rest = length-drop at source in
        let short = leb-false end (length source) p in
        rw (a, e, take_all (length source - at) (drop at source) (omega arith), take_all (end - at) (drop at source) (omega arith))
    by_tests false false p q =
        let e : min end (length source) ≡ length source = omega (arith, leb-false end (length source) p) in
        let a : min at (min end (length source)) ≡ length source = omega (arith, e, leb-false at (min end (length source)) q) in
        let beyond : length source ≤ at = omega (arith, e, leb-false at (min end (length source)) q) in
        let nothing : length source - length source ≡ 0 = omega arith in
        rw (a, e, nothing, drop_of_length-le source beyond) (sym (take-nil (end - at)))

pub unread_within : (source : List ℕ) (at end start stop : ℕ) → stop ≡ min end (length source) → start ≡ min at stop
    → unread_of source at end ≡ unread_of source start stop
unread_within source at end start stop p q = sym (min_within source at end) ∙ rw (q, p)

taken_bound : (bytes : List ℕ) → length (first_line bytes) + cond (has_ended bytes) 1 0 ≤ length bytes
taken_bound [] = omega arith
taken_bound (byte ∷ bytes) = by_test (taken_bound bytes) (is_line_end byte)
  where
    by_test : length (first_line bytes) + cond (has_ended bytes) 1 0 ≤ length bytes → (t : Bool)
        → length (cond t [] (byte ∷ first_line bytes)) + cond (cond t true (has_ended bytes)) 1 0 ≤ length (byte ∷ bytes)
    by_test h true = omega arith
    by_test h false = omega arith

pub taken_within : (source : List ℕ) (at end : ℕ) {line after : List ℕ} {had : ℕ} {r : Cut} → CutMeets (unread_of source at end) line had r after
    → r.taken ≤ end - at
taken_within source at end m = omega (arith, m.taken, taken_bound (unread_of source at end), length-take (end - at) (drop at source))

-- what is left of a part of the source is the part from a later place on
pub drop_take : (n m : ℕ) (l : List ℕ) → drop n (take m l) ≡ take (m - n) (drop n l)
drop_take zero m l = let all : m - 0 ≡ m = omega arith in rw all
drop_take (suc n) zero l = let none : 0 - suc n ≡ 0 = omega arith in rw none
drop_take (suc n) (suc m) [] = sym (take-nil (suc m - suc n))
drop_take (suc n) (suc m) (x ∷ l) = let less : suc m - suc n ≡ m - n = omega arith in rw less (drop_take n m l)

pub unread_later : (source : List ℕ) (at end taken : ℕ) → drop taken (unread_of source at end) ≡ unread_of source (at + taken) end
unread_later source at end taken =
    let size : end - (at + taken) ≡ end - at - taken = omega arith in
    drop_take taken (end - at) (drop at source) ∙ rw (drop-drop taken at source, size)
