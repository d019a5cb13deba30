-- A gateway's visit (docs/gateway.md): "every visit ends". Replies heard one by one, and how many packets a visit takes at most.
use Rattle.std.specs.Prelude.{ℕ, suc, ◌+◌, ◌*◌, cond, List, [], ◌∷◌}
use Rattle.visit.specs.declared.Visit.{Visit}
use Rattle.visit.specs.Visit.{is_over, heard}

-- a marker of 24 packets and 258 more for each request, and one marker at the end, in round numbers
abbrev pub most_packets : ℕ → ℕ
most_packets ends = (ends + 1) * 300

abbrev pub heard_all : Visit → List ℕ → Visit
heard_all v [] = v
heard_all v (reply ∷ replies) = heard_all (heard v reply) replies

-- those of the replies that came before it was over
abbrev pub replies_heard : Visit → List ℕ → ℕ
replies_heard v [] = 0
replies_heard v (reply ∷ replies) = cond (is_over v.stage) 0 (suc (replies_heard (heard v reply) replies))
