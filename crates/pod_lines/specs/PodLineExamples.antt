-- Examples of the lines of `pod`, computed.
use Rattle.std.specs.Prelude.{◌≡◌, refl, [], ◌∷◌}
use Rattle.requests.specs.declared.Request.TheVariants.{Rdreg, Go, SyncPc}
use Rattle.words.specs.LineWords.{ascii, is_gap, kind_of, lower}
use Rattle.numbers.specs.Numbers.{digit, prefix_length, numeral}
use Rattle.request_lines.specs.RequestLines.{size_behind, plain_request, register_read, register_written}
use Rattle.pod_lines.specs.PodLines.{pod_meaning, pod_words, builds, reads, unclear}

pub build_sync_pc : pod_meaning (ascii "build sync_pc") ≡ builds SyncPc
unfolding pod_meaning kind_of is_gap lower pod_words numeral prefix_length digit size_behind plain_request register_read register_written
build_sync_pc = refl

pub read_with_replies : pod_meaning (ascii "read rdreg 1 : 1FFFF 0") ≡ reads (Rdreg 1) (ascii "1FFFF" ∷ ascii "0" ∷ [])
unfolding pod_meaning kind_of is_gap lower pod_words numeral prefix_length digit size_behind plain_request register_read register_written
read_with_replies = refl

pub read_with_none : pod_meaning (ascii "read go :") ≡ reads Go []
unfolding pod_meaning kind_of is_gap lower pod_words numeral prefix_length digit size_behind plain_request register_read register_written
read_with_none = refl

pub read_without_colon : pod_meaning (ascii "read go") ≡ unclear
unfolding pod_meaning kind_of is_gap lower pod_words numeral prefix_length digit size_behind plain_request register_read register_written
read_without_colon = refl
