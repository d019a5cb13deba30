-- Examples of the lines of `talk`, computed.
use Rattle.std.specs.Prelude.{◌≡◌, refl}
use Rattle.memory.specs.declared.Size.TheVariants.{Word}
use Rattle.requests.specs.declared.Request.TheVariants.{Write}
use Rattle.words.specs.LineWords.{ascii, is_gap, kind_of, lower}
use Rattle.numbers.specs.Numbers.{digit, prefix_length, numeral}
use Rattle.board_lines.specs.declared.BoardLine.TheVariants.{Unclear}
use Rattle.board_lines.specs.BoardLines.{board_words, board_of_one}
use Rattle.request_lines.specs.RequestLines.{size_behind, register_read}
use Rattle.talk_lines.specs.declared.TalkLine.TheVariants.{Board, Ask}
use Rattle.talk_lines.specs.TalkLines.{either_line, talk_line}

pub packet_in_talk : talk_line (ascii "packet 1FFFF") ≡ Board Unclear
unfolding either_line kind_of is_gap lower board_words numeral prefix_length digit board_of_one size_behind register_read
packet_in_talk = refl

pub request_in_talk : talk_line (ascii "write.w A 5") ≡ Ask (Write Word 10 5)
unfolding either_line kind_of is_gap lower numeral prefix_length digit size_behind
request_in_talk = refl

pub request_in_capitals : talk_line (ascii " WRITE.W 0xA\t0x5") ≡ Ask (Write Word 10 5)
unfolding either_line kind_of is_gap lower numeral prefix_length digit size_behind
request_in_capitals = refl
