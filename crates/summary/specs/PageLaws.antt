-- Laws of the page: the promise in each of its cases.
use Rattle.std.specs.Prelude.{◌≡◌, refl, ℕ, ◌≤◌, ◌<◌, List, ◌++◌, length, drop}
use Rattle.std.proofs.Common.{ap, sym, ◌∙◌, zero-add, arith, take_at}
use Rattle.std.proofs.lemmas.List.Edits.{sets}
use Rattle.std.proofs.Math.Seq.{paste}
use Rattle.grounds.specs.declared.Ground.{Ground}
use Rattle.grounds.specs.declared.Ground.TheVariants.{BufferTooShort}
use Rattle.grounds.specs.Grounds.{number}
use Rattle.laws.specs.StoreLaws.{sets_front}
use Rattle.cycle.specs.Cycle.{nothing}
use Rattle.trace.specs.Items.{items}
use Rattle.trace.specs.TraceReading.{refusal, counted, told_listing, too_short, reading}
use Rattle.trace.proofs.TraceReadingLaws.{refused_so, passed_so, read_count, short_so, room_so, passed_read}
use Rattle.index.specs.Index.{entry_count, index_words}
use Rattle.index.proofs.IndexLaws.{length_index}
use Rattle.summary.specs.declared.page.Page.{Page}
use Rattle.summary.specs.Page.{page_of, blank, page_by, page_verdict, index_after, PageMeets}

-- the index copied from where it was gathered
index_copied : (trace before entries : List ℕ) → entry_count (length trace) ≤ length entries
    → paste before 0 (sets entries 0 (index_words trace)) (entry_count (length trace)) ≡ index_words trace ++ drop (length (index_words trace)) before
index_copied trace before entries h =
    rw (sets_front W entries (omega (arith, length_index trace)), zero-add n, take_at W (drop (length W) entries) n (length_index trace), length_index trace)
  where
    W : List ℕ
    W = index_words trace

    n : ℕ
    n = entry_count (length trace)

module _ (trace before : List ℕ) (r : Page) where
  meets : {after : List ℕ} → told_listing r.judged ≡ page_verdict trace (length before) → r ≡ page_by trace r.judged
      → after ≡ index_after trace before (told_listing r.judged) → PageMeets trace before r after
  meets e p w = record { answer = e; page = p; words = w ∙ ap (index_after trace before) e }

  -- a trace that the reader refuses
  pub page_refused : (why : Ground) (cycle : ℕ) → reading trace ≡ refusal (number why) cycle → r ≡ blank why cycle → PageMeets trace before r before
  unfolding page_verdict reading
  page_refused why cycle e p =
      meets (rw p (sym (refused_so trace 0 nothing (length (items trace)) (number why) cycle e _))) (rw p refl) (rw p refl)

  module _ (n : ℕ) (e : reading trace ≡ counted n) where
    only_room : page_verdict trace (length before) ≡ too_short (entry_count (length trace)) (length before) (counted (length (items trace)))
    unfolding page_verdict reading
    only_room = (passed_so trace 0 nothing _ n e).1 _

    -- one whose index has no room
    pub page_short : length before < entry_count (length trace) → r ≡ blank BufferTooShort 0 → PageMeets trace before r before
    page_short h p = meets (rw p (sym (only_room ∙ short_so _ _ _ h))) (rw p refl) (rw p refl)

    -- one that is read
    pub page_read : (entries : List ℕ) {after : List ℕ} → entry_count (length trace) ≤ length before → entry_count (length trace) ≤ length entries
        → r ≡ page_of trace n
        → after ≡ paste before 0 (sets entries 0 (index_words trace)) (entry_count (length trace)) → PageMeets trace before r after
    page_read entries h k p w =
        meets
        (rw p (ap counted (read_count trace n e) ∙ sym (only_room ∙ room_so _ _ _ h)))
        (rw p refl)
        (rw p (w ∙ index_copied trace before entries k))

-- a page that is given is of a trace that is read
pub page_read_so : (trace : List ℕ) (room n : ℕ) → page_verdict trace room ≡ counted n → reading trace ≡ counted n
unfolding page_verdict
page_read_so trace room n = passed_read trace (entry_count (length trace)) room n
