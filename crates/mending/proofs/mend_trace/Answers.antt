-- Each answer is mending's, judged in its order; what is put stands at the front of its buffer.
use mathlib.Core.Path.{refl, ap, sym, ◌∙◌}
use Prim.Native.Nat.{◌≤◌}
use native.Mathlib.Omega.{arith}
use lib.ListN.{length}
use Rattle.laws.specs.StoreLaws.{sets_front}
use Rattle.trace.specs.TraceReading.{counted}
use Rattle.mending.specs.Mending.{mended_pst, mended, changes}
use Rattle.mending.specs.MendingStoreLaws.{retold_length}
use Rattle.mending.specs.MendingAnswerLaws.{mending_long, no_room_for_trace, no_room_for_list, mending_done, mending_meets}
use borrow.Author.Rules.{rules}
use Rattle.mending.proofs.mend_trace.Goals as goal

pub returns-then-trace-gt65536 : goal.returns-then-trace-gt65536
returns-then-trace-gt65536 c = let a = c.args in
    mending_meets a.trace.now _ _ _ _ _ (sym (mending_long a.trace.now _ _ (search rules))) refl refl

pub returns-then-bytes-trace : goal.returns-then-bytes-trace
returns-then-bytes-trace c = let a = c.args in
    mending_meets a.trace.now _ _ _ _ _ (sym (no_room_for_trace a.trace.now _ _ (search rules) (search rules))) refl refl

pub returns-then-list-found : goal.returns-then-list-found
returns-then-list-found c = let a = c.args in
    let s = c.survey_trace-found.ensures in
    mending_meets a.trace.now _ _ _ _ _ (sym (no_room_for_list a.trace.now _ _ (search rules) (search rules) (omega (arith, s.changed)))) refl refl

pub put_mended-requires : goal.put_mended-requires
put_mended-requires c = let s = c.survey_trace-found.ensures in
    record { trace_fits = (search rules, search rules); changes_fit = (omega (arith, s.changed), c.unwrap_or.ensures ∙ s.cut) }

pub returns : goal.returns
returns c = let a = c.args in
    let trace = a.trace.now in
    let s = c.survey_trace-found.ensures in
    let put = c.put_mended.ensures in
    let room : length (changes trace) ≤ length a.list.now = omega (arith, s.changed) in
    mending_meets trace a.bytes.now a.list.now _ _ _ (ap counted s.changed ∙ sym (mending_done trace _ _ (search rules) (search rules) room))
    (put.mends ∙ sets_front (mended trace) a.bytes.now (rw (retold_length (mended_pst trace) trace (length trace)) (search rules)))
    (put.lists ∙ sets_front (changes trace) a.list.now room)
