-- P9 on the morning's page (docs/morning.md): "the lister's lines", parted by a comma and a space.
use Rattle.std.specs.Prelude.{ℕ, List, [], ◌∷◌, ◌++◌, length}
use Rattle.trace.specs.Items.{items, words}
use Rattle.trace.specs.TraceReading.{Told, refusal, counted}
use Rattle.listing.specs.Listing.{listing}
use Rattle.text.specs.Text.{ascii}
use Rattle.text.specs.ListingText.{head_text, words_of_item}
use Rattle.refusal_text.specs.RefusalText.{refused_by}

-- an item for each two words
abbrev pub items_text : List ℕ → List ℕ
items_text [] = []
items_text (word ∷ []) = []
items_text (word ∷ value ∷ more) = ascii ", " ++ words_of_item word value ++ items_text more

-- `refused N at C`, or the head and the items
abbrev pub told_text : List ℕ → Told → List ℕ
told_text trace (refusal number cycle) = refused_by number cycle
told_text trace (counted n) = head_text (length trace) n ++ items_text (words (items trace))

-- where there is room for so many words
unfoldable pub listed_text : List ℕ → ℕ → List ℕ
listed_text trace room = told_text trace (listing trace room)
