-- What is said to a line of the pod's (the desk's language, `pod`).
use Rattle.std.specs.Prelude.{ℕ, List, [], Err, Ok, Result, ⊤}
use Rattle.grounds.specs.declared.Ground.{Ground}
use Rattle.requests.specs.declared.Request.{Request}
use Rattle.building.specs.RequestWords.{built_words}
use Rattle.building.specs.Building.{building_verdict}
use Rattle.readings.specs.Reading.{reading}
use Rattle.pod_lines.specs.declared.NotTaken.{NotTaken}
use Rattle.pod_lines.specs.declared.NotTaken.TheVariants.{TooMany, NotAllNumbers}
use Rattle.pod_lines.specs.Taking.{values, counted, taken}
use Rattle.pod_lines.specs.PodLines.{Meaning, nothing, builds, reads, unclear, pod_meaning}
use Rattle.refusal_text.specs.RefusalText.{unclear_text, refused_text}
use Rattle.request_text.specs.RequestText.{words_text, reading_text}

-- "`words X X ..`, .. or `refused N at 0`"
abbrev pub built_by : Result ⊤ Ground → List ℕ → List ℕ
built_by (Ok _) words = words_text words
built_by (Err why) words = refused_text why

-- no request has more than five words
abbrev pub built_text : Request → List ℕ
built_text request = built_by (building_verdict request 5) (built_words request)

-- what the replies bring, where all of them are numbers
abbrev pub read_text : Request → Result ℕ NotTaken → List ℕ → List ℕ
read_text request (Ok n) replies = reading_text (reading request replies)
read_text request (Err TooMany) replies = unclear_text
read_text request (Err NotAllNumbers) replies = unclear_text

-- no line has more than 2,048 replies
abbrev pub pod_text : Meaning → List ℕ
pod_text nothing = []
pod_text (builds request) = built_text request
pod_text (reads request replies) = read_text request (taken (counted replies) 2048) (values replies)
pod_text unclear = unclear_text

unfoldable pub pod_said : List ℕ → List ℕ
pod_said line = pod_text (pod_meaning line)
