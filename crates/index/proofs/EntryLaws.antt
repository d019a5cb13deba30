-- "so that a listing may start there and equal the rest of the full one" (02, [2]): at the trace's own entry of any cycle, inside a transfer and a run too.
use Rattle.std.specs.Prelude.{◌≡◌, ℕ, ◌+◌, ◌-◌, ◌*◌, ◌≤◌, ◌<◌, List, ◌++◌, length, drop, get_or, Result}
use Rattle.trace.specs.declared.Refused.{Refused}
use Rattle.std.proofs.Common.{ap, sym, ◌∙◌, arith, get_or-append-add}
use Rattle.std.proofs.Math.ListN.{get_or-append}
use Rattle.grounds.specs.declared.Ground.TheVariants.{BufferTooShort}
use Rattle.grounds.specs.Grounds.{number}
use Rattle.cycle.specs.Cycle.{carried_into}
use Rattle.cycle.specs.declared.Item.{Item}
use Rattle.trace.specs.Items.{items_before, items, items_to_end, words}
use Rattle.trace.specs.ItemLaws.{length_words}
use Rattle.trace.specs.ItemsFromLaws.{items_split, words_split}
use Rattle.trace.specs.TraceReading.{refusal, counted, told_listing, too_short, reading}
use Rattle.listing.specs.Listing.{listing_from, words_over, words_after, ListingMeets}
use Rattle.trace.proofs.TraceReadingLaws.{read_count, short_so, room_so}
use Rattle.listing.specs.ListingLaws.{read_from, listed_read}
use Rattle.trace.proofs.TraceStartLaws.{count_split, read_on}
use Rattle.index.specs.declared.Entry.{Entry}
use Rattle.index.specs.Entry.{entry_at, EntryMeets}

-- the items from an entry on, whatever trace it is of. How many it says are before it is not read.
abbrev pub items_on : List ℕ → Entry → List Item
items_on trace e = items_to_end trace e.cycle e.carried

-- those from the trace's own entry of a cycle on
abbrev pub rest_at : List ℕ → ℕ → List Item
rest_at trace i = items_on trace (entry_at trace i)

-- the trace's own entry of cycle i
module _ (trace : List ℕ) (i : ℕ) (within : i ≤ length trace) where
  -- the items before it and those from it on are the trace's, each in its place
  pub entry_items : items_before trace i ++ rest_at trace i ≡ items trace
  entry_items = items_split trace i within

  pub entry_words : words (items_before trace i) ++ words (rest_at trace i) ≡ words (items trace)
  entry_words = words_split trace i within

  -- and as many
  pub entry_count_lem : (entry_at trace i).items + length (rest_at trace i) ≡ length (items trace)
  entry_count_lem = count_split trace i within

  -- each word from it on is the trace's, two words later for each item before it
  pub entry_word_lem : (k : ℕ) → get_or (words (rest_at trace i)) k 0 ≡ get_or (words (items trace)) (2 * (entry_at trace i).items + k) 0
  entry_word_lem k =
      sym (get_or-append-add (words (items_before trace i)) (words (rest_at trace i)) k 0)
      ∙ ap (λ (w : List ℕ). get_or w (length (words (items_before trace i)) + k) 0) entry_words
      ∙ ap (λ (n : ℕ). get_or (words (items trace)) (n + k) 0) (length_words (items_before trace i))

  -- of a trace that can be read
  module _ (n : ℕ) (reads : reading trace ≡ counted n) where
    rest_count : length (rest_at trace i) ≡ n - (entry_at trace i).items
    rest_count = omega (arith, entry_count_lem, read_count trace n reads)

    rest_words : length (words (rest_at trace i)) ≡ 2 * (n - (entry_at trace i).items)
    rest_words = omega (arith, rest_count, length_words (rest_at trace i))

    -- only the buffer is left to judge
    only_room : (room : ℕ) → listing_from trace i (carried_into trace i) room
        ≡ too_short (2 * length (rest_at trace i)) room (counted (length (rest_at trace i)))
    only_room room = (read_from trace i (carried_into trace i) room (n - (entry_at trace i).items) (read_on trace i n within reads)).1

    module _ (before : List ℕ) (r : Result ℕ Refused) (after : List ℕ) (met : EntryMeets trace (entry_at trace i) before r after) where
      -- without room it is refused with 11, and the buffer stays
      pub entry_refused : length before < 2 * (n - (entry_at trace i).items) → (told_listing r ≡ refusal (number BufferTooShort) 0) × (after ≡ before)
      entry_refused h = (met.answer ∙ short, met.words ∙ ap (words_over (rest_at trace i) before) short)
        where
          short : listing_from trace i (carried_into trace i) (length before) ≡ refusal (number BufferTooShort) 0
          short = only_room (length before) ∙ short_so _ _ _ (omega (arith, rest_count))

      module _ (room : 2 * (n - (entry_at trace i).items) ≤ length before) where
        lists : listing_from trace i (carried_into trace i) (length before) ≡ counted (n - (entry_at trace i).items)
        lists = only_room (length before) ∙ room_so _ _ _ (omega (arith, rest_count)) ∙ ap counted rest_count

        -- with room it is not refused, and answers as many items as the trace has beyond those before it
        pub entry_answers : told_listing r ≡ counted (n - (entry_at trace i).items)
        entry_answers = met.answer ∙ lists

        -- the buffer holds their words, and beyond them what it held
        pub entry_stores : after ≡ words (rest_at trace i) ++ drop (2 * (n - (entry_at trace i).items)) before
        entry_stores =
            met.words ∙ ap (words_over (rest_at trace i) before) lists ∙ ap (λ (k : ℕ). words (rest_at trace i) ++ drop k before) rest_words

        entry_holds : (k : ℕ) → k < 2 * (n - (entry_at trace i).items) → get_or after k 0 ≡ get_or (words (items trace)) (2 * (entry_at trace i).items + k) 0
        entry_holds k h =
            ap (λ (w : List ℕ). get_or w k 0) entry_stores
            ∙ get_or-append (words (rest_at trace i)) (drop (2 * (n - (entry_at trace i).items)) before) 0 k (omega (arith, rest_words))
            ∙ entry_word_lem k

-- a full listing that counts n items holds their words
full_holds : (trace before full : List ℕ) (s : Result ℕ Refused) (n : ℕ) → ListingMeets trace before s full → told_listing s ≡ counted n
    → (k : ℕ) → k < 2 * n → get_or full k 0 ≡ get_or (words (items trace)) k 0
full_holds trace before full s n whole listed k h =
    ap (λ (w : List ℕ). get_or w k 0) (whole.words ∙ ap (words_after trace before) (sym whole.answer ∙ listed))
    ∙ get_or-append (words (items trace)) (drop (length (words (items trace))) before) 0 k (omega (arith, length_words (items trace), counts))
  where
    counts : n ≡ length (items trace)
    counts = read_count trace n (listed_read trace (length before) n (sym whole.answer ∙ listed))

-- THE LAW: where the full listing counts n items, the one from the trace's own entry of a cycle counts the rest, and each word is the full one's
pub entry_is_the_rest : (trace : List ℕ) (i : ℕ) → i ≤ length trace
    → (n : ℕ) (given full : List ℕ) (s : Result ℕ Refused) → ListingMeets trace given s full → told_listing s ≡ counted n
    → (before after : List ℕ) (r : Result ℕ Refused) → EntryMeets trace (entry_at trace i) before r after → 2 * (n - (entry_at trace i).items) ≤ length before
    → (told_listing r ≡ counted (n - (entry_at trace i).items))
    × ((k : ℕ) → k < 2 * (n - (entry_at trace i).items) → get_or after k 0 ≡ get_or full (2 * (entry_at trace i).items + k) 0)
entry_is_the_rest trace i within n given full s whole listed before after r met room =
    let reads = listed_read trace (length given) n (sym whole.answer ∙ listed) in
    let same = entry_holds trace i within n reads before r after met room in
    let held = full_holds trace given full s n whole listed in
    (entry_answers trace i within n reads before r after met room, λ k h. same k h ∙ sym (held (2 * (entry_at trace i).items + k) (omega arith)))
