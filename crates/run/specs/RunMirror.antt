-- A run as its loop goes: the replies put one after the other, and the short ways for packets that the place alone decides.
use Rattle.std.specs.Prelude.{ℕ, ◌+◌, ◌-◌, Bool, true, false, ◌&&◌, List, [], ◌∷◌, eqb, leb, set}
use Rattle.command.specs.Reply.{complete}
use Rattle.board.specs.declared.Place.{Place}
use Rattle.board.specs.declared.Phase.{Phase}
use Rattle.board.specs.declared.Phase.TheVariants.{Rest, Due, Waiting, Upper}
use Rattle.board.specs.Setters.{place_with}
use Rattle.board.specs.State.{State}
use Rattle.plan.specs.Plan.{with_operand}
use Rattle.step.specs.Step.{reply_now, holding, released, stepped}

-- the replies put one after the other from a place on
unfoldable pub written : List ℕ → ℕ → State → List ℕ → List ℕ
written [] i s out = out
written (word ∷ words) i s out = written words (i + 1) (stepped s word) (set out i (reply_now s.place))

-- only the held next reply is another
abbrev pub idled : Place → Place
idled p = place_with p Rest p.chain p.pointer complete

-- the place alone decides a NOP at rest, an operand word but the last, and the packet that brings the low result word
abbrev pub has_short_way : Phase → ℕ → Bool
has_short_way Rest word = eqb word 0
has_short_way (Due c left taken) word = leb 2 left && leb word 0xFFFF
has_short_way (Waiting c left address value) word = false
has_short_way (Upper low) word = true

abbrev pub short_way : Phase → Place → ℕ → Place
short_way Rest p word = idled p
short_way (Due c left taken) p word = holding p (Due c (left - 1) (with_operand taken word))
short_way (Waiting c left address value) p word = p
short_way (Upper low) p word = released p low
