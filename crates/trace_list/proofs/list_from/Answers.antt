use Rattle.trace_list.specs.RestPartsLaws.{rest_refused, rest_listed}
use Rattle.trace_list.proofs.list_from.Goals as goal

-- src/main.rt:163:1
pub returns-in-Err : goal.returns-in-Err
returns-in-Err c = let a = c.args in
    let bytes = c.shared_slice_known-1 in (
      λ i. (bytes.given i).fits,
      rest_refused a.text.now a.trace.now a.from _ c.make_page.ensures _ _
          c.in-Err.is c.say_refusal.ensures,
    )

-- src/main.rt:163:1
pub returns-in-Ok : goal.returns-in-Ok
returns-in-Ok c = let a = c.args in
    let bytes = c.shared_slice_known-1 in (
      λ i. (bytes.given i).fits,
      rest_listed a.text.now a.trace.now a.from _
          c.make_page.ensures _
          c.in-Ok.is c.write_from.ensures,
    )
