-- A visit wherever a history leads to, for every W and every memory within its limit: it reads, it begins as one whose replies may be late, it is its packets.
use Rattle.std.specs.Prelude.{ℕ, zero, suc, ◌+◌, ◌≤◌, ◌≡◌, refl, true, List, length}
use Rattle.std.proofs.Common.{sym, ap, ◌∙◌, subst, le-leb}
use Rattle.laws.specs.TestLaws.{by_test}
use Rattle.board.specs.State.{State}
use Rattle.run.specs.Run.{ran, all_within}
use Rattle.sound.specs.Sound.{Sound, SoundBoard, SoundPlace}
use Rattle.asked.specs.VisitRequests.{registers_asked}
use Rattle.visit.specs.Visit.{is_over, table_in_range}
use Rattle.joined.specs.Joined.{Joined, packet_now, onward, joined}
use Rattle.joined.specs.VisitReads.{starts_at, VisitReads}
use Rattle.joined.specs.VisitHands.{VisitHands}
use Rattle.joined.specs.VisitReadsLaws.{visit_reads}
use Rattle.joined.specs.HandedJoinedLaws.{visit_hands}
use Rattle.late_replies.specs.LateReplies.{Begins}
use Rattle.late_replies.specs.LateRepliesLaws.{visit_begins}
use Rattle.promises.specs.Machine.{stand_in}
use Rattle.promises.specs.History.{Lent, Call, lending, after, made}
use Rattle.promises.proofs.HistoryLaws.{Fits, fresh_fits, history_fits, after_both}
use Rattle.promises.specs.RunHistory.{packets_of}
use Rattle.promises.proofs.RunHistoryLaws.{run_is, after_lending}
use Rattle.visit_closes.specs.NotedReplies.{sent_by, found_by_visit, VisitIsItsPackets}
use Rattle.visit_closes.specs.VisitTrailLaws.{packet_within, onward_port, over_stays}

-- ---- the packets of a visit are a run
sent_within : (k : ℕ) (j : Joined) → all_within (sent_by k j) ≡ true
unfolding sent_by all_within
sent_within zero j = refl
sent_within (suc k) j =
    by_test (is_over j.visit.stage)
    (λ over. rw over)
    (λ on. rw (on, le-leb (packet_now j.visit) 0x1FFFF (packet_within j.visit)) (sent_within k (onward j)))

sent_leads : (k : ℕ) (j : Joined) → ran (sent_by k j) j.port ≡ (joined k j).port
unfolding sent_by joined ran
sent_leads zero j = refl
sent_leads (suc k) j =
    by_test (is_over j.visit.stage)
    (λ over. rw over (ap (λ (x : Joined). x.port) (sym (over_stays (suc k) j over))))
    (λ on. rw on (ap (ran (sent_by k (onward j))) (sym (onward_port j on)) ∙ sent_leads k (onward j)))

module _ (w : ℕ) (small : w ≤ 15) (history : List Call) (m : Lent) (limit : length m.bytes ≤ 65536) where
  abbrev found : State
  found = found_by_visit w history m

  reached : Fits w found
  reached = let fits = history_fits w (made w) history (fresh_fits w small) in record { board = fits.board; place = fits.place }

  pub found_sound : Sound found
  found_sound =
      let own = sym reached.board.setting in
      record {
        board = subst (λ n. SoundBoard n found.board) own reached.board;
        place = subst (λ n. SoundPlace n found.place) own reached.place;
        memory = record { limit = limit; bytes = m.narrow };
      }

  module _ (address longwords : ℕ) (notes : List ℕ) where
    -- It ends as read, with what is meant there.
    pub visit_reads_there : table_in_range address longwords ≡ true → registers_asked + longwords ≤ length notes → VisitReads address longwords notes found
    visit_reads_there range room = visit_reads address longwords notes found found_sound range room

    -- The registers and the longwords that the port comes to rest with are handed over.
    pub visit_hands_there : table_in_range address longwords ≡ true → registers_asked + longwords ≤ length notes → VisitHands address longwords notes found
    visit_hands_there range room = visit_hands address longwords notes found found_sound range room

    -- What is said of replies that come late is said of it, whatever was replied before.
    pub visit_begins_there : (before : List ℕ) → Begins (record { joined = starts_at address longwords notes found; replies = before })
    visit_begins_there before = visit_begins address longwords notes before found_sound

    -- Each packet of it is an accepted call, and together they lead to the port that the next one meets.
    pub visit_is_its_packets : (i : ℕ) → VisitIsItsPackets w history m address longwords notes i
    visit_is_its_packets i =
        let start = starts_at address longwords notes found in
        let sent = sent_by i start in
        let is = run_is w sent found reached (record { limit = limit; bytes = m.narrow }) (sent_within i start) in
        let port = is.ends ∙ sent_leads i start in
        let there = ap (λ (s : State). lending s m) (after_both (made w) history (packets_of found sent))
        ∙ after_lending (after stand_in (made w) history) m m sent
        ∙ ap (λ (s : State). lending s m) port in
        record {
          accepted = is.accepted;
          port = port;
          board = ap (λ (s : State). s.board) there;
          place = ap (λ (s : State). s.place) there;
        }
