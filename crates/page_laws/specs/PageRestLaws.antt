-- "so that a listing may start there and equal the rest of the full one" (02, [2]): of the page's own index, as it stands in the buffer.
use Rattle.std.specs.Prelude.{◌≡◌, ℕ, ◌+◌, ◌-◌, ◌*◌, ◌≤◌, ◌<◌, List, length, get_or, drop, Result}
use Rattle.trace.specs.declared.Refused.{Refused}
use Rattle.std.proofs.Common.{ap, sym, ◌∙◌, subst, arith}
use Rattle.std.proofs.Math.ListN.{get_or-append}
use Rattle.trace.specs.TraceReading.{counted, told_listing}
use Rattle.listing.specs.Listing.{ListingMeets}
use Rattle.index.specs.declared.Entry.{Entry}
use Rattle.index.specs.Entry.{entry_at, of_word, EntryMeets}
use Rattle.index.proofs.EntryLaws.{entry_is_the_rest}
use Rattle.summary.specs.declared.page.Page.{Page}
use Rattle.index.specs.Index.{index_words, Bytes}
use Rattle.index.proofs.IndexLaws.{length_index, index_read_back}
use Rattle.summary.specs.Page.{index_after, PageMeets}

-- a page of a trace of bytes, with the buffer that it left, and the k-th word of that
module _ (trace : List ℕ) (bytes : Bytes trace) (given index : List ℕ) (page : Page) (met : PageMeets trace given page index)
    (n : ℕ) (accepted : told_listing page.judged ≡ counted n) (k : ℕ) (within : 256 * k < length trace) where
  -- the entry that is read from it
  abbrev pub entry : Entry
  entry = of_word (256 * k) (get_or index k 0)

  pub entry_of_page : entry ≡ entry_at trace (256 * k)
  entry_of_page =
      ap (of_word (256 * k))
      (ap (λ (l : List ℕ). get_or l k 0) (met.words ∙ ap (index_after trace given) (sym met.answer ∙ accepted))
      ∙ get_or-append (index_words trace) (drop (length (index_words trace)) given) 0 k (omega (arith, length_index trace)))
      ∙ index_read_back trace bytes k within

  -- THE LAW: a listing from it counts what the full one has beyond the items before it, and each of its words is the full one's
  pub page_starts_the_rest : (before full : List ℕ) (s : Result ℕ Refused) → ListingMeets trace before s full → told_listing s ≡ counted n
      → (room after : List ℕ) (r : Result ℕ Refused) → EntryMeets trace entry room r after → 2 * (n - entry.items) ≤ length room
      → (told_listing r ≡ counted (n - entry.items)) × ((j : ℕ) → j < 2 * (n - entry.items) → get_or after j 0 ≡ get_or full (2 * entry.items + j) 0)
  page_starts_the_rest before full s whole listed room after r =
      subst Rest (sym entry_of_page) (entry_is_the_rest trace (256 * k) (omega arith) n before full s whole listed room after r)
    where
      Rest : Entry → Type 0
      Rest e =
          EntryMeets trace e room r after → 2 * (n - e.items) ≤ length room
          → (told_listing r ≡ counted (n - e.items)) × ((j : ℕ) → j < 2 * (n - e.items) → get_or after j 0 ≡ get_or full (2 * e.items + j) 0)
