-- What is said to `help` and to `quit` (the desk's language, "Lines, as people type them").
use Rattle.std.specs.Prelude.{ℕ, List, ◌++◌}
use Rattle.text.specs.Text.{ascii}
use Rattle.languages.specs.declared.Language.{Language}
use Rattle.languages.specs.declared.Language.TheVariants.{StandIn, Talk, Both, Pod}

-- "the names of the requests"
abbrev pub request_names : List ℕ
request_names =
    ascii " rdreg wdreg read.b read.w read.l write.b write.w write.l dump.b dump.w dump.l fill.b fill.w fill.l"
    ++ ascii " go nop sync_pc rcreg wcreg rdmreg wdmreg"

-- "`help` and the first words of the program's lines parted by spaces"
abbrev pub own_names : Language → List ℕ
own_names StandIn = ascii "help make memory bytes packet event breakpoint peek state"
own_names Talk = ascii "help make memory bytes event breakpoint peek state" ++ request_names
own_names Both = ascii "help make memory bytes packet event breakpoint peek state" ++ request_names
own_names Pod = ascii "help build read"

unfoldable pub help_text : Language → List ℕ
help_text language = own_names language ++ ascii " help quit"

-- "`quit` gets `bye`"
abbrev pub bye_text : List ℕ
bye_text = ascii "bye"
