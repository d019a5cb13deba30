-- Laws of ground 14: each reply that 01 lists is refused so, and "nothing else is".
use Rattle.std.specs.Prelude.{ℕ, ◌≤◌, ◌≡◌, refl, ◌↔◌, Bool, true, false, cond, List, [], ◌∷◌, ◌++◌, eqb, leb, length, None, Option, Some, Err, Ok, Result}
use Rattle.readings.specs.declared.Outcome.{Outcome}
use Rattle.memory.specs.declared.Size.{Size}
use Rattle.std.proofs.Common.{arith, sym, ap, ◌∙◌, true≢false, append_assoc, le-leb, leb-true, leb-false, ne_eqb}
use Rattle.std.proofs.lemmas.Bool.{lt-leb, eqb-false}
use Rattle.laws.specs.TestLaws.{by_test}
use Rattle.memory.specs.declared.Size.TheVariants.{Byte, Word, Long}
use Rattle.grounds.specs.declared.Ground.{Ground}
use Rattle.grounds.specs.declared.Ground.TheVariants.{WordTooLarge, RequestOutOfRange, ImpossibleReply}
use Rattle.requests.specs.declared.Request.{Request}
use Rattle.requests.specs.Request.{in_range, kind_of}
use Rattle.readings.specs.declared.Reader.{Reader}
use Rattle.readings.specs.declared.Reader.TheVariants.{First, Second, Closed, Bad}
use Rattle.readings.specs.Reader.{data_reply, status_reply, after_reply, after_replies, done, used}
use Rattle.readings.specs.Reading.{answered, reading, reading_of}
use Rattle.readings.specs.ReaderLaws.{done_stays}
use Rattle.pod_laws.specs.NotYetLaws.{not_yet_open, open_is_not_yet, after_append, further_replies, one_more}
use Rattle.pod_laws.specs.ImpossibleReplies.{WordDue, first, second, Impossible, second_with_s, not_listed, byte_above, not_complete}
use Rattle.pod_laws.specs.ImpossibleReplies.{due_after, ImpossibleAmong}

-- ---- one reply
-- a reader that is not done waits for one of the two words
pub data Awaits : Reader → WordDue → Type 0 where
  awaits_first : Awaits First first
  awaits_second : {upper : ℕ} → Awaits (Second upper) second

abbrev is_bad : Reader → Bool
is_bad First = false
is_bad (Second upper) = false
is_bad (Closed outcome) = false
is_bad (Bad why) = true

not_bad : {A : Type 0} {d : Reader} {g : Ground} → d ≡ Bad g → is_bad d ≡ false → A
not_bad e n = absurd (true≢false (sym (ap is_bad e) ∙ n))

first_listed : {kind : Option Size} {reply : ℕ} → reply ≤ 0x1FFFF → Impossible kind first reply → after_reply kind First reply ≡ Bad ImpossibleReply
first_listed {reply = r} w (not_listed s n) =
    rw (le-leb r 0x1FFFF w, lt-leb r 0xFFFF (omega arith), ne_eqb r 0x10000 n.0, ne_eqb r 0x10001 n.1, ne_eqb r 0x1FFFF n.2)
first_listed {reply = r} w (byte_above s above) = rw (le-leb r 0x1FFFF w, le-leb r 0xFFFF s, lt-leb r 0xFF (omega arith))
first_listed {reply = r} w (not_complete s n) = rw (le-leb r 0x1FFFF w, le-leb r 0xFFFF s, ne_eqb r 0xFFFF n)

second_listed : {kind : Option Size} {reply : ℕ} (upper : ℕ) → reply ≤ 0x1FFFF → Impossible kind second reply
    → after_reply kind (Second upper) reply ≡ Bad ImpossibleReply
second_listed {reply = r} upper w (second_with_s s) = rw (le-leb r 0x1FFFF w, lt-leb r 0xFFFF (omega arith))
second_listed {reply = r} upper w (not_listed s n) = rw (le-leb r 0x1FFFF w, lt-leb r 0xFFFF (omega arith))

data_bad : (kind : Option Size) (reply : ℕ) → reply ≤ 0xFFFF → data_reply kind reply ≡ Bad ImpossibleReply → Impossible kind first reply
data_bad None r s e = by_test (eqb r 0xFFFF) (λ t. not_bad (rw t at e) refl) (λ t. not_complete s (eqb-false r 0xFFFF t))
data_bad (Some Byte) r s e = by_test (leb r 0xFF) (λ t. not_bad (rw t at e) refl) (λ t. byte_above s (omega (arith, leb-false r 0xFF t)))
data_bad (Some Word) r s e = not_bad e refl
data_bad (Some Long) r s e = not_bad e refl

status_bad : (kind : Option Size) (reply : ℕ) → 0x10000 ≤ reply → status_reply reply ≡ Bad ImpossibleReply → Impossible kind first reply
status_bad kind r s e =
    by_test (eqb r 0x10000) (λ t. not_bad (rw t at e) refl)
    (λ a.
    by_test (eqb r 0x10001) (λ t. not_bad (rw (a, t) at e) refl)
    (λ b.
    by_test (eqb r 0x1FFFF) (λ t. not_bad (rw (a, b, t) at e) refl)
    (λ c. not_listed s (eqb-false r 0x10000 a, eqb-false r 0x10001 b, eqb-false r 0x1FFFF c))))

first_bad : (kind : Option Size) (reply : ℕ) → reply ≤ 0x1FFFF → after_reply kind First reply ≡ Bad ImpossibleReply → Impossible kind first reply
first_bad kind r w e =
    let within = le-leb r 0x1FFFF w in
    by_test (leb r 0xFFFF)
    (λ t. data_bad kind r (leb-true r 0xFFFF t) (rw (within, t) at e))
    (λ t. status_bad kind r (omega (arith, leb-false r 0xFFFF t)) (rw (within, t) at e))

second_bad : (kind : Option Size) (upper reply : ℕ) → reply ≤ 0x1FFFF → after_reply kind (Second upper) reply ≡ Bad ImpossibleReply
    → Impossible kind second reply
second_bad kind upper r w e =
    let within = le-leb r 0x1FFFF w in
    by_test (leb r 0xFFFF)
    (λ t. not_bad (rw (within, t) at e) refl)
    (λ t. second_with_s (omega (arith, leb-false r 0xFFFF t)))

-- at a reader that is not done, a reply of 17 bits is ground 14 if and only if it is listed
pub fourteen_iff_listed : (kind : Option Size) {reader : Reader} {due : WordDue} (reply : ℕ) → Awaits reader due → reply ≤ 0x1FFFF
    → (after_reply kind reader reply ≡ Bad ImpossibleReply) ↔ Impossible kind due reply
fourteen_iff_listed kind reply awaits_first w = (first_bad kind reply w, first_listed w)
fourteen_iff_listed kind reply (awaits_second {upper = upper}) w = (second_bad kind upper reply w, second_listed upper w)

-- ground 1 is another
not_one : {A : Type 0} → Bad WordTooLarge ≡ Bad ImpossibleReply → A
not_one e = let z : ◌≡◌ {A = ℕ} 0 1 = cc in absurd (omega arith)

-- a reply that is ground 14 has 17 bits
within_17 : (kind : Option Size) {reader : Reader} {due : WordDue} (reply : ℕ) → Awaits reader due → after_reply kind reader reply ≡ Bad ImpossibleReply
    → reply ≤ 0x1FFFF
within_17 kind reply awaits_first e = by_test (leb reply 0x1FFFF) (leb-true reply 0x1FFFF) (λ t. not_one (rw t at e))
within_17 kind reply awaits_second e = by_test (leb reply 0x1FFFF) (leb-true reply 0x1FFFF) (λ t. not_one (rw t at e))

-- ---- the replies before it
not_done : {A : Type 0} → true ≡ false → A
not_done e = absurd (true≢false e)

-- a reader that is not done after a list was not done before
was_open : (kind : Option Size) (d : Reader) (replies : List ℕ) → done (after_replies kind d replies) ≡ false → done d ≡ false
was_open kind d replies o = by_test (done d) (λ t. not_done (sym t ∙ sym (ap done (done_stays kind d replies t)) ∙ o)) (λ t. t)

-- one reply read at the first word, and still open
data_open : (kind : Option Size) (reply : ℕ) → done (data_reply kind reply) ≡ false → Awaits (data_reply kind reply) second
data_open None r o = by_test (eqb r 0xFFFF) (λ t. not_done (rw t at o)) (λ t. not_done (rw t at o))
data_open (Some Byte) r o = by_test (leb r 0xFF) (λ t. not_done (rw t at o)) (λ t. not_done (rw t at o))
data_open (Some Word) r o = not_done o
data_open (Some Long) r o = awaits_second

status_open : (reply : ℕ) → done (status_reply reply) ≡ false → Awaits (status_reply reply) first
status_open r o =
    by_test (eqb r 0x10000) (λ t. rw t awaits_first)
    (λ a.
    by_test (eqb r 0x10001) (λ t. not_done (rw (a, t) at o))
    (λ b. by_test (eqb r 0x1FFFF) (λ t. not_done (rw (a, b, t) at o)) (λ t. not_done (rw (a, b, t) at o))))

first_open : (kind : Option Size) (reply : ℕ) → done (after_reply kind First reply) ≡ false
    → Awaits (after_reply kind First reply) (cond (leb reply 0xFFFF) second first)
first_open kind r o =
    by_test (leb r 0x1FFFF)
    (λ w.
    by_test (leb r 0xFFFF) (λ t. rw (w, t) (data_open kind r (rw (w, t) at o))) (λ t. rw (w, t) (status_open r (rw (w, t) at o))))
    (λ w. not_done (rw w at o))

second_closes : (kind : Option Size) (upper reply : ℕ) → done (after_reply kind (Second upper) reply) ≡ true
second_closes kind upper r =
    by_test (leb r 0x1FFFF) (λ w. by_test (leb r 0xFFFF) (λ t. rw (w, t)) (λ t. rw (w, t))) (λ w. rw w)

-- the word due after more replies, where one was due before them
abbrev due_from : WordDue → List ℕ → WordDue
due_from first replies = due_after replies
due_from second replies = second

due_next : (t : Bool) (replies : List ℕ) → due_from (cond t second first) replies ≡ cond t second (due_after replies)
due_next true replies = refl
due_next false replies = refl

still_awaits : (kind : Option Size) (replies : List ℕ) {d : Reader} {due : WordDue} → Awaits d due → done (after_replies kind d replies) ≡ false
    → Awaits (after_replies kind d replies) (due_from due replies)
still_awaits kind [] awaits_first o = awaits_first
still_awaits kind [] awaits_second o = awaits_second
still_awaits kind (r ∷ rs) awaits_first o =
    let next = first_open kind r (was_open kind (after_reply kind First r) rs o) in
    rw (due_next (leb r 0xFFFF) rs) at (still_awaits kind rs next o)
still_awaits kind (r ∷ rs) (awaits_second {upper = upper}) o =
    not_done (sym (second_closes kind upper r) ∙ was_open kind (after_reply kind (Second upper) r) rs o)

-- ---- the reading of a list
-- the first reply at which a reader is bad with ground 14
record BadAt (kind : Option Size) (d : Reader) (replies : List ℕ) : Type 0 where
  before : List ℕ
  reply : ℕ
  unread : List ℕ
  place : replies ≡ before ++ reply ∷ unread
  more : done (after_replies kind d before) ≡ false
  bad : after_reply kind (after_replies kind d before) reply ≡ Bad ImpossibleReply

bad_at : (kind : Option Size) (d : Reader) (replies : List ℕ) → done d ≡ false → after_replies kind d replies ≡ Bad ImpossibleReply → BadAt kind d replies
bad_at kind d [] o e = not_done (sym (ap done e) ∙ o)
bad_at kind d (r ∷ rs) o e =
    by_test (done (after_reply kind d r))
    (λ t.
    record { before = []; reply = r; unread = rs; place = refl; more = o; bad = sym (done_stays kind (after_reply kind d r) rs t) ∙ e })
    (λ t.
    let later = bad_at kind (after_reply kind d r) rs t e in
    record {
      before = r ∷ later.before;
      reply = later.reply;
      unread = later.unread;
      place = ap (λ l. r ∷ l) later.place;
      more = later.more;
      bad = later.bad;
    })

refused_bad : (d : Reader) (n : ℕ) (g : Ground) → answered d n ≡ Err g → d ≡ Bad g
refused_bad First n g e = cc
refused_bad (Second upper) n g e = cc
refused_bad (Closed outcome) n g e = cc
refused_bad (Bad why) n g e = cc

-- grounds 13 and 14 are two
not_thirteen : {A : Type 0} → ◌≡◌ {A = Result (Option Outcome × ℕ) Ground} (Err RequestOutOfRange) (Err ImpossibleReply) → A
not_thirteen e = let z : ◌≡◌ {A = ℕ} 0 1 = cc in absurd (omega arith)

refused_is_not_yet : {A : Type 0} {g : Ground} {n : ℕ} → ◌≡◌ {A = Result (Option Outcome × ℕ) Ground} (Err g) (Ok (None, n)) → A
refused_is_not_yet e = let z : ◌≡◌ {A = ℕ} 0 1 = cc in absurd (omega arith)

-- "nothing else is"
pub fourteen_is_listed : (request : Request) (replies : List ℕ) → reading request replies ≡ Err ImpossibleReply → ImpossibleAmong request replies
fourteen_is_listed request replies e =
    by_test (in_range request)
    (λ h.
    let k = kind_of request in
    let at = bad_at k First replies refl (refused_bad (after_replies k First replies) (used k First replies) ImpossibleReply (rw h at e)) in
    let awaits = still_awaits k at.before awaits_first at.more in
    let within = within_17 k at.reply awaits at.bad in
    record {
      before = at.before;
      reply = at.reply;
      unread = at.unread;
      place = at.place;
      not_yet = rw h (open_is_not_yet k at.before at.more);
      within = within;
      impossible = (fourteen_iff_listed k at.reply awaits within).0 at.bad;
    })
    (λ h. not_thirteen (rw h at e))

-- ".. is 14"
pub listed_is_fourteen : (request : Request) (replies : List ℕ) → ImpossibleAmong request replies → reading request replies ≡ Err ImpossibleReply
listed_is_fourteen request replies i =
    by_test (in_range request)
    (λ h.
    let k = kind_of request in
    let b = i.before in
    let read : reading_of k b ≡ Ok (None, length b) = rw h at i.not_yet in
    let more = not_yet_open (after_replies k First b) (used k First b) (length b) read in
    let bad = (fourteen_iff_listed k i.reply (still_awaits k b awaits_first more) i.within).1 i.impossible in
    let closed : done (after_replies k First (b ++ i.reply ∷ [])) ≡ true = rw (after_append k First b (i.reply ∷ []), bad) in
    let whole : b ++ i.reply ∷ i.unread ≡ (b ++ i.reply ∷ []) ++ i.unread = rw append_assoc in
    rw (h, i.place, whole, further_replies k (b ++ i.reply ∷ []) i.unread closed, one_more k b i.reply (length b) read, bad))
    (λ h. refused_is_not_yet (rw h at i.not_yet))
