-- Laws of the lister's lines in one: item by item, and the words of a trace that is listed.
use Rattle.std.specs.Prelude.{ℕ, ◌+◌, ◌*◌, ◌/◌, ◌≤◌, ◌<◌, ◌≡◌, refl, List, [], ◌∷◌, ◌++◌, length, get_or, take, drop, Err, Ok, Result}
use Rattle.trace.specs.declared.Refused.{Refused}
use Rattle.std.proofs.Math.Path.{ap}
use Rattle.std.proofs.Common.{sym, ◌∙◌, arith, length-append, length-drop, take_at}
use Rattle.laws.specs.PlaceLaws.{from_here}
use Rattle.grounds.specs.declared.Ground.{Ground}
use Rattle.trace.specs.Items.{items, words}
use Rattle.trace.specs.ItemLaws.{length_words}
use Rattle.trace.specs.TraceReading.{counted, told_listing}
use Rattle.trace.proofs.TraceReadingLaws.{read_count}
use Rattle.listing.specs.Listing.{listing, words_after, ListingMeets}
use Rattle.listing.specs.ListingLaws.{listed_read}
use Rattle.text.specs.Text.{ascii}
use Rattle.refusal_text.specs.RefusalText.{refused_at}
use Rattle.text.specs.ListingText.{head_text, words_of_item}
use Rattle.listed.specs.Listed.{items_text, told_text, listed_text}

two_on : (words : List ℕ) (i : ℕ) → i + 1 < length words → drop i words ≡ get_or words i 0 ∷ get_or words (i + 1) 0 ∷ drop (i + 2) words
two_on words i h =
    let e : i + 1 + 1 ≡ i + 2 = omega arith in
    rw (from_here words i (omega arith), from_here words (i + 1) h, e)

-- the items from one of them on
pub items_on : (words : List ℕ) (k : ℕ) → k < length words / 2
    → items_text (drop (2 * k) words) ≡ ascii ", " ++ words_of_item (get_or words (2 * k) 0) (get_or words (2 * k + 1) 0)
    ++ items_text (drop (2 * (k + 1)) words)
items_on words k h =
    let e : 2 * (k + 1) ≡ 2 * k + 2 = omega arith in
    rw (two_on words (2 * k) (omega arith), e)

pub items_out : (words : List ℕ) (k : ℕ) → length words / 2 ≤ k → items_text (drop (2 * k) words) ≡ []
items_out words k h = by_rest (drop (2 * k) words) (omega (arith, length-drop (2 * k) words))
  where
    by_rest : (rest : List ℕ) → length rest ≤ 1 → items_text rest ≡ []
    by_rest [] h = refl
    by_rest (word ∷ []) h = refl
    by_rest (word ∷ value ∷ more) h = absurd (omega arith)

-- what the lister refuses, and what it lists: the items' words at the front of the buffer
module _ (trace before after : List ℕ) (r : Result ℕ Refused) (m : ListingMeets trace before r after) where
  pub refused_text : (why : Ground) (cycle : ℕ) → r ≡ Err (record { why = why; cycle = cycle }) → listed_text trace (length before) ≡ refused_at why cycle
  unfolding listed_text
  refused_text why cycle e = ap (told_text trace) (sym m.answer ∙ ap told_listing e)

  module _ (n : ℕ) (e : r ≡ Ok n) where
    told : listing trace (length before) ≡ counted n
    told = sym m.answer ∙ ap told_listing e

    pub listed_text_lem : listed_text trace (length before) ≡ head_text (length trace) n ++ items_text (words (items trace))
    unfolding listed_text
    listed_text_lem = ap (told_text trace) told

    words_count : length (words (items trace)) ≡ 2 * n
    words_count = length_words (items trace) ∙ ap (λ (k : ℕ). 2 * k) (sym (read_count trace n (listed_read trace (length before) n told)))

    front : after ≡ words (items trace) ++ drop (length (words (items trace))) before
    front = m.words ∙ ap (words_after trace before) told

    pub listed_room : 2 * n ≤ length after
    listed_room = omega (arith, words_count, ap length front, length-append (words (items trace)) (drop (length (words (items trace))) before))

    pub listed_words : take (2 * n) after ≡ words (items trace)
    listed_words = rw front (take_at (words (items trace)) (drop (length (words (items trace))) before) (2 * n) words_count)
