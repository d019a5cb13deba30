-- No second answer fits what programs in other languages are promised.
use Rattle.std.specs.Prelude.{ℕ, ◌≡◌, List}
use Rattle.std.proofs.Common.{sym, ◌∙◌}
use Rattle.yarkovesh.specs.Exported.{FreshRunMeets, ListMeets}
use Rattle.yarkovesh.specs.ExportedPage.{Numbers, PageNumbersMeet}
use Rattle.yarkovesh.specs.ExportedMend.{MendNumberMeets, UnmendNumberMeets}

pub fresh_run_unique : {w : ℕ} {m words before : List ℕ} {r s : ℕ} {x y u v : List ℕ}
    → FreshRunMeets w m words before r x u → FreshRunMeets w m words before s y v → (r ≡ s) × (x ≡ y) × (u ≡ v)
fresh_run_unique f g = (f.answer ∙ sym g.answer, f.memory ∙ sym g.memory, f.answers ∙ sym g.answers)

pub list_unique : {trace before : List ℕ} {r s : ℕ} {x y : List ℕ}
    → ListMeets trace before r x → ListMeets trace before s y → (r ≡ s) × (x ≡ y)
list_unique f g = (f.answer ∙ sym g.answer, f.words ∙ sym g.words)

pub page_numbers_unique : {trace before x y : List ℕ} {r s : ℕ} {given u v : Numbers}
    → PageNumbersMeet trace before r x given u → PageNumbersMeet trace before s y given v → (r ≡ s) × (x ≡ y) × (u ≡ v)
page_numbers_unique f g = (f.answer ∙ sym g.answer, f.index ∙ sym g.index, f.numbers ∙ sym g.numbers)

pub mend_number_unique : {trace bytes words b c v w : List ℕ} {r s : ℕ}
    → MendNumberMeets trace bytes words r b v → MendNumberMeets trace bytes words s c w → (r ≡ s) × (b ≡ c) × (v ≡ w)
mend_number_unique f g = (f.answer ∙ sym g.answer, f.cycles ∙ sym g.cycles, f.list ∙ sym g.list)

pub unmend_number_unique : {trace words x y : List ℕ} {r s : ℕ}
    → UnmendNumberMeets trace words r x → UnmendNumberMeets trace words s y → (r ≡ s) × (x ≡ y)
unmend_number_unique f g = (f.answer ∙ sym g.answer, f.cycles ∙ sym g.cycles)
