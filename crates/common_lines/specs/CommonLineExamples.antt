-- Examples of the lines that every program has, computed.
use Rattle.std.specs.Prelude.{◌≡◌, refl}
use Rattle.words.specs.LineWords.{ascii, is_gap, kind_of, lower}
use Rattle.common_lines.specs.declared.CommonLine.TheVariants.{Help, Quit, Other}
use Rattle.common_lines.specs.CommonLines.{common_name, common_line}

pub help_alone : common_line (ascii "\tHelp ") ≡ Help
unfolding common_line kind_of is_gap common_name lower
help_alone = refl

pub quit_alone : common_line (ascii "quit") ≡ Quit
unfolding common_line kind_of is_gap common_name lower
quit_alone = refl

pub quit_with_a_number : common_line (ascii "quit 1") ≡ Other
unfolding common_line kind_of is_gap common_name lower
quit_with_a_number = refl
