-- A visit: no second answer fits, nor a second state, nor other notes.
use Rattle.std.specs.Prelude.{ℕ, ◌≡◌, List, Option, Result}
use Rattle.readings.specs.declared.Outcome.{Outcome}
use Rattle.grounds.specs.declared.Ground.{Ground}
use Rattle.std.proofs.Common.{sym, ◌∙◌}
use Rattle.visit.specs.declared.Visit.{Visit}
use Rattle.visit.specs.declared.Next.{Next}
use Rattle.visit.specs.Visit.{start_of, next_of, heard, noted, lost}
use Rattle.visit.specs.HandedOver.{handed_over}

pub start_unique : (address longwords room : ℕ) {r s : Result Visit Ground} → r ≡ start_of address longwords room → s ≡ start_of address longwords room → r ≡ s
start_unique address longwords room f g = f ∙ sym g

pub packet_sent_unique : (v : Visit) {r s : Next} → r ≡ next_of v → s ≡ next_of v → r ≡ s
packet_sent_unique v f g = f ∙ sym g

pub reply_taken_unique : (v : Visit) (reply : ℕ) (before : List ℕ) {r s : Visit} {after after' : List ℕ}
    → (r ≡ heard v reply) × (after ≡ noted v reply before) → (s ≡ heard v reply) × (after' ≡ noted v reply before) → (r ≡ s) × (after ≡ after')
reply_taken_unique v reply before f g = (f.0 ∙ sym g.0, f.1 ∙ sym g.1)

pub lost_unique : (v : Visit) {r s : Visit} → r ≡ lost v → s ≡ lost v → r ≡ s
lost_unique v f g = f ∙ sym g

pub handed_over_unique : (v : Visit) (notes : List ℕ) (j : ℕ) {r s : Option Outcome} → r ≡ handed_over v notes j → s ≡ handed_over v notes j → r ≡ s
handed_over_unique v notes j f g = f ∙ sym g
