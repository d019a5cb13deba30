-- The desk's language: "A REQUEST is ..", by its name and its numbers.
use Rattle.std.specs.Prelude.{ℕ, List, [], ◌∷◌, ◌++◌, None, Option, Some}
use Rattle.memory.specs.declared.Size.{Size}
use Rattle.memory.specs.declared.Size.TheVariants.{Byte, Word, Long}
use Rattle.requests.specs.declared.Request.{Request}
use Rattle.requests.specs.declared.Request.TheVariants.{Rdreg, Wdreg, Read, Write, Dump, Fill, Go, Nop, SyncPc, Rcreg, Wcreg, Rdmreg, Wdmreg}
use Rattle.words.specs.LineWords.{ascii}
use Rattle.words.specs.NameTable.{row, found}
use Rattle.numbers.specs.declared.Numbers.{Numbers}
use Rattle.numbers.specs.declared.Numbers.TheVariants.{Zero, One, Two, Three, Four, NotNumbers}
use Rattle.numbers.specs.Numbers.{numbers}

-- `.b`, `.w`, `.l` behind a name
unfoldable pub size_behind : List ℕ → List ℕ → Option Size
size_behind name stem =
    found None name (row (stem ++ ascii ".b") (Some Byte) ∷ row (stem ++ ascii ".w") (Some Word) ∷ row (stem ++ ascii ".l") (Some Long) ∷ [])

-- a request of that size, or else what the name asks
abbrev pub of_size : Option Size → (Size → Request) → Option Request → Option Request
of_size (Some size) request else = Some (request size)
of_size None request else = else

-- `go`, `nop`, `sync_pc`
unfoldable pub plain_request : List ℕ → Option Request
plain_request name = found None name (row (ascii "go") (Some Go) ∷ row (ascii "nop") (Some Nop) ∷ row (ascii "sync_pc") (Some SyncPc) ∷ [])

-- `rdreg R`, `rcreg RC`, `rdmreg N`
unfoldable pub register_read : List ℕ → ℕ → Option Request
register_read name n =
    found None name (row (ascii "rdreg") (Some (Rdreg n)) ∷ row (ascii "rcreg") (Some (Rcreg n)) ∷ row (ascii "rdmreg") (Some (Rdmreg n)) ∷ [])

-- `wdreg R V`, `wcreg RC V`, `wdmreg N V`
unfoldable pub register_written : List ℕ → ℕ → ℕ → Option Request
register_written name n v =
    found None name (row (ascii "wdreg") (Some (Wdreg n v)) ∷ row (ascii "wcreg") (Some (Wcreg n v)) ∷ row (ascii "wdmreg") (Some (Wdmreg n v)) ∷ [])

-- .. and `dump.b`, `dump.w`, `dump.l`
abbrev pub request_of_none : List ℕ → Option Request
request_of_none name = of_size (size_behind name (ascii "dump")) Dump (plain_request name)

-- .. and `read.b A`, `read.w A`, `read.l A`, `fill.b V`, `fill.w V`, `fill.l V`
abbrev pub request_of_one : List ℕ → ℕ → Option Request
request_of_one name n =
    of_size (size_behind name (ascii "read")) (λ size. Read size n) (of_size (size_behind name (ascii "fill")) (λ size. Fill size n) (register_read name n))

-- .. and `write.b A V`, `write.w A V`, `write.l A V`
abbrev pub request_of_two : List ℕ → ℕ → ℕ → Option Request
request_of_two name n v = of_size (size_behind name (ascii "write")) (λ size. Write size n v) (register_written name n v)

abbrev pub request_form : List ℕ → Numbers → Option Request
request_form name Zero = request_of_none name
request_form name (One n) = request_of_one name n
request_form name (Two n v) = request_of_two name n v
request_form name (Three a b c) = None
request_form name (Four a b c d) = None
request_form name NotNumbers = None

-- a name, and the numbers that follow it
abbrev pub request_of : List (List ℕ) → Option Request
request_of [] = None
request_of (name ∷ words) = request_form name (numbers words)
