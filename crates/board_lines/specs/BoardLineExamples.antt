-- Examples of the lines of `stand_in`, computed.
use Rattle.std.specs.Prelude.{◌≡◌, refl, None, Some}
use Rattle.words.specs.LineWords.{ascii, is_gap, kind_of, lower}
use Rattle.numbers.specs.Numbers.{digit, prefix_length, numeral}
use Rattle.halting.specs.declared.Privilege.TheVariants.{User, Supervisor}
use Rattle.board_lines.specs.declared.BoardLine.TheVariants.{Nothing, Make, Memory, Bytes, Packet, Event, EventWithAccess, Peek, State, Unclear}
use Rattle.board_lines.specs.BoardLines.{board_line, board_words, board_of_none, board_of_one, board_of_two, hex_line}
use Rattle.board_lines.specs.EventLines.{halt_form, event_line}

pub an_empty_line : board_line (ascii "") ≡ Nothing
unfolding board_line kind_of is_gap lower board_words numeral prefix_length digit board_of_none board_of_one board_of_two hex_line
an_empty_line = refl

pub a_comment : board_line (ascii "# make 1") ≡ Nothing
unfolding board_line kind_of is_gap lower board_words numeral prefix_length digit board_of_none board_of_one board_of_two hex_line
a_comment = refl

pub make_f : board_line (ascii "make F") ≡ Make 15
unfolding board_line kind_of is_gap lower board_words numeral prefix_length digit board_of_none board_of_one board_of_two hex_line
make_f = refl

pub leading_zeros_and_lower_case : board_line (ascii "make 0000000000f") ≡ Make 15
unfolding board_line kind_of is_gap lower board_words numeral prefix_length digit board_of_none board_of_one board_of_two hex_line
leading_zeros_and_lower_case = refl

pub too_wide : board_line (ascii "make 100000000") ≡ Unclear
unfolding board_line kind_of is_gap lower board_words numeral prefix_length digit board_of_none board_of_one board_of_two hex_line
too_wide = refl

pub two_spaces : board_line (ascii "make  F") ≡ Make 15
unfolding board_line kind_of is_gap lower board_words numeral prefix_length digit board_of_none board_of_one board_of_two hex_line
two_spaces = refl

pub spaces_before_and_behind : board_line (ascii "  make F ") ≡ Make 15
unfolding board_line kind_of is_gap lower board_words numeral prefix_length digit board_of_none board_of_one board_of_two hex_line
spaces_before_and_behind = refl

pub a_tab : board_line (ascii "make\tF") ≡ Make 15
unfolding board_line kind_of is_gap lower board_words numeral prefix_length digit board_of_none board_of_one board_of_two hex_line
a_tab = refl

pub nothing_but_spaces : board_line (ascii "  \t ") ≡ Nothing
unfolding board_line kind_of is_gap lower board_words numeral prefix_length digit board_of_none board_of_one board_of_two hex_line
nothing_but_spaces = refl

pub a_comment_behind_a_space : board_line (ascii " # make 1") ≡ Nothing
unfolding board_line kind_of is_gap lower board_words numeral prefix_length digit board_of_none board_of_one board_of_two hex_line
a_comment_behind_a_space = refl

pub prefix : board_line (ascii "make 0xF") ≡ Make 15
unfolding board_line kind_of is_gap lower board_words numeral prefix_length digit board_of_none board_of_one board_of_two hex_line
prefix = refl

pub prefix_in_capitals : board_line (ascii "make 0XF") ≡ Make 15
unfolding board_line kind_of is_gap lower board_words numeral prefix_length digit board_of_none board_of_one board_of_two hex_line
prefix_in_capitals = refl

pub prefix_alone : board_line (ascii "make 0x") ≡ Unclear
unfolding board_line kind_of is_gap lower board_words numeral prefix_length digit board_of_none board_of_one board_of_two hex_line
prefix_alone = refl

pub prefix_twice : board_line (ascii "make 0x0x1") ≡ Unclear
unfolding board_line kind_of is_gap lower board_words numeral prefix_length digit board_of_none board_of_one board_of_two hex_line
prefix_twice = refl

pub memory_10010 : board_line (ascii "memory 10010") ≡ Memory 0x10010
unfolding board_line kind_of is_gap lower board_words numeral prefix_length digit board_of_none board_of_one board_of_two hex_line
memory_10010 = refl

pub memory_10011 : board_line (ascii "memory 10011") ≡ Unclear
unfolding board_line kind_of is_gap lower board_words numeral prefix_length digit board_of_none board_of_one board_of_two hex_line
memory_10011 = refl

pub bytes_of_either_case : board_line (ascii "bytes 10 DeadBeef") ≡ Bytes 16 9 4
unfolding board_line kind_of is_gap lower board_words numeral prefix_length digit board_of_none board_of_one board_of_two hex_line
bytes_of_either_case = refl

pub bytes_before_spaces : board_line (ascii "bytes  10 DeadBeef  ") ≡ Bytes 16 10 4
unfolding board_line kind_of is_gap lower board_words numeral prefix_length digit board_of_none board_of_one board_of_two hex_line
bytes_before_spaces = refl

pub bytes_with_prefix : board_line (ascii "bytes 10 0xDE") ≡ Unclear
unfolding board_line kind_of is_gap lower board_words numeral prefix_length digit board_of_none board_of_one board_of_two hex_line
bytes_with_prefix = refl

pub half_a_byte : board_line (ascii "bytes 10 ABC") ≡ Unclear
unfolding board_line kind_of is_gap lower board_words numeral prefix_length digit board_of_none board_of_one board_of_two hex_line
half_a_byte = refl

pub event_with_access : board_line (ascii "event 4 8 FF 0") ≡ EventWithAccess 4 8 255 0 None
unfolding board_line kind_of is_gap lower board_words numeral prefix_length digit event_line
event_with_access = refl

pub attribute_of_nine_bits : board_line (ascii "event 4 8 100 0") ≡ Unclear
unfolding board_line kind_of is_gap lower board_words numeral prefix_length digit event_line
attribute_of_nine_bits = refl

pub event_that_halts : board_line (ascii "event 1000 halt user") ≡ Event 0x1000 (Some User)
unfolding board_line kind_of is_gap lower board_words numeral prefix_length digit halt_form event_line
event_that_halts = refl

pub access_that_halts : board_line (ascii "EVENT 0x4 8 FF 0\tHalt  SUPERVISOR ") ≡ EventWithAccess 4 8 255 0 (Some Supervisor)
unfolding board_line kind_of is_gap lower board_words numeral prefix_length digit halt_form event_line
access_that_halts = refl

pub halt_of_nobody : board_line (ascii "event 1000 halt") ≡ Unclear
unfolding board_line kind_of is_gap lower board_words numeral prefix_length digit halt_form event_line
halt_of_nobody = refl

pub halt_of_another : board_line (ascii "event 1000 halt users") ≡ Unclear
unfolding board_line kind_of is_gap lower board_words numeral prefix_length digit halt_form event_line
halt_of_another = refl

pub halt_not_at_the_end : board_line (ascii "event 1000 halt user 0") ≡ Unclear
unfolding board_line kind_of is_gap lower board_words numeral prefix_length digit halt_form event_line
halt_not_at_the_end = refl

pub user_without_halt : board_line (ascii "event 1000 user") ≡ Unclear
unfolding board_line kind_of is_gap lower board_words numeral prefix_length digit halt_form event_line
user_without_halt = refl

pub peek_400 : board_line (ascii "peek 0 400") ≡ Peek 0 0x400
unfolding board_line kind_of is_gap lower board_words numeral prefix_length digit board_of_none board_of_one board_of_two hex_line
peek_400 = refl

pub peek_401 : board_line (ascii "peek 0 401") ≡ Unclear
unfolding board_line kind_of is_gap lower board_words numeral prefix_length digit board_of_none board_of_one board_of_two hex_line
peek_401 = refl

pub upper_case_name : board_line (ascii "STATE") ≡ State
unfolding board_line kind_of is_gap lower board_words numeral prefix_length digit board_of_none board_of_one board_of_two hex_line
upper_case_name = refl

pub packet_on_the_board : board_line (ascii "packet 1FFFF") ≡ Packet 0x1FFFF
unfolding board_line kind_of is_gap lower board_words numeral prefix_length digit board_of_none board_of_one board_of_two hex_line
packet_on_the_board = refl
