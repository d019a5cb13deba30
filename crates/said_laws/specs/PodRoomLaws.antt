-- Laws of the replies of a line `read`: 2,048 places are enough for every line, so that what is said of a reading does not hang on how many there are.
use Rattle.std.specs.Prelude.{ℕ, ◌≤◌, ◌≡◌, refl, Bool, true, false, cond, List, length, Err, Ok, Result}
use Rattle.std.proofs.Common.{ap, ◌∙◌, le-leb}
use Rattle.requests.specs.declared.Request.{Request}
use Rattle.pod_lines.specs.declared.NotTaken.{NotTaken}
use Rattle.pod_lines.specs.declared.NotTaken.TheVariants.{NotAllNumbers}
use Rattle.pod_lines.specs.Taking.{all_numerals, values, counted, taken}
use Rattle.pod_lines.specs.PodLines.{reads, pod_meaning}
use Rattle.pod_lines.specs.ReplyRoomLaws.{room_enough}
use Rattle.pod_answers.specs.PodSaid.{read_text, pod_text, pod_said}

all_taken : (replies : List (List ℕ)) (room : ℕ) → length replies ≤ room → taken (counted replies) room ≡ counted replies
all_taken replies room h = by_test (all_numerals replies)
  where
    by_test : (t : Bool) → taken (cond t (Ok (length replies)) (Err NotAllNumbers)) room ≡ cond t (Ok (length replies)) (Err NotAllNumbers)
    by_test true = rw (le-leb (length replies) room h)
    by_test false = refl

-- THE LAW: what is said of a reading is what all its words bring, where all are numbers
pub read_whole : (line : List ℕ) (request : Request) (replies : List (List ℕ)) → pod_meaning line ≡ reads request replies
    → pod_said line ≡ read_text request (counted replies) (values replies)
unfolding pod_said
read_whole line request replies e =
    ap pod_text e ∙ ap (λ (t : Result ℕ NotTaken). read_text request t (values replies)) (all_taken replies 2048 (room_enough line request replies e))
