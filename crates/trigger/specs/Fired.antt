-- Events and firing (01): when a level fires, and which level an event fires.
use Rattle.std.specs.Prelude.{ℕ, Bool, cond, ◌&&◌, eqb}
use Rattle.board.specs.declared.Debug.{Debug}
use Rattle.comparators.specs.declared.Level.{Level}
use Rattle.groups.specs.Groups.{pc_group, address_group, joined}
use Rattle.trigger.specs.declared.Event.{Event}
use Rattle.trigger.specs.Levels.{level_one, level_two}

-- "A level is tried only if its EBL is set"
unfoldable pub fires : Level → Debug → Event → Bool
fires level d event = level.ebl && joined level.t (pc_group level d event.pc) (address_group level d event.bus)

-- "1 at BSTAT 1, 2 at 5." "One event fires one level at most."
unfoldable pub fired_level : ℕ → Debug → Event → ℕ
fired_level bstat d event =
    cond (eqb bstat 1 && fires (level_one d.tdr) d event) 1 (cond (eqb bstat 5 && fires (level_two d.tdr) d event) 2 0)
