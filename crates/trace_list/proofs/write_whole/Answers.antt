use Rattle.trace_list.specs.ListerGatheringLaws.{whole_refused, whole_listed}
use Rattle.trace_list.proofs.write_whole.Goals as goal

-- src/main.rt:133:13
pub write_walk-requires : goal.write_walk-requires
write_walk-requires c = record { trace_fits = c.requires; start_meets = (c.start_cursor-start.ensures, rw c.in-Ok.is tt) }

-- src/main.rt:123:1
pub returns-in-Err : goal.returns-in-Err
returns-in-Err c = let a = c.args in
    let bytes = c.type_inv.trace in (
      λ i. (bytes i).fits,
      whole_refused _ a.text.now _ c.start_cursor-start.ensures.judged _ _
          c.in-Err.is c.say_refusal.ensures,
    )

-- src/main.rt:123:1
pub returns-in-Ok : goal.returns-in-Ok
returns-in-Ok c = let a = c.args in
    let bytes = c.type_inv.trace in (
      λ i. (bytes i).fits,
      whole_listed _ a.text.now _ c.start_cursor-start.ensures.judged _
          c.in-Ok.is
          c.say_head.ensures c.write_walk.ensures,
    )
