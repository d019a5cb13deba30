-- Examples of the answers that `gateway` reads, computed.
use Rattle.std.specs.Prelude.{◌≡◌, refl}
use Rattle.words.specs.LineWords.{ascii, is_gap, kind_of, lower}
use Rattle.numbers.specs.Numbers.{digit, prefix_length, numeral}
use Rattle.reply_lines.specs.declared.ReplyLine.TheVariants.{Nothing, Reply, NoReply}
use Rattle.reply_lines.specs.ReplyLines.{reply_line, reply_words, reply_of_one}

pub a_reply : reply_line (ascii "reply 0FFFF") ≡ Reply 0xFFFF
unfolding reply_line kind_of is_gap lower reply_words reply_of_one numeral prefix_length digit
a_reply = refl

pub as_people_type : reply_line (ascii "\tREPLY  0x1ffff ") ≡ Reply 0x1FFFF
unfolding reply_line kind_of is_gap lower reply_words reply_of_one numeral prefix_length digit
as_people_type = refl

pub a_word_too_large : reply_line (ascii "reply 3FFFF") ≡ Reply 0x3FFFF
unfolding reply_line kind_of is_gap lower reply_words reply_of_one numeral prefix_length digit
a_word_too_large = refl

pub another_answer : reply_line (ascii "refused 3 at 0") ≡ NoReply
unfolding reply_line kind_of is_gap lower reply_words reply_of_one numeral prefix_length digit
another_answer = refl

pub no_number : reply_line (ascii "reply") ≡ NoReply
unfolding reply_line kind_of is_gap lower reply_words reply_of_one numeral prefix_length digit
no_number = refl

pub a_number_too_many : reply_line (ascii "reply 0FFFF 0") ≡ NoReply
unfolding reply_line kind_of is_gap lower reply_words reply_of_one numeral prefix_length digit
a_number_too_many = refl

pub an_empty_line : reply_line (ascii "") ≡ Nothing
unfolding reply_line kind_of is_gap lower reply_words reply_of_one numeral prefix_length digit
an_empty_line = refl
