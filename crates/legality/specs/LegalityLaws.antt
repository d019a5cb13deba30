-- Laws of what is legal: "DUMP is legal only after READ or DUMP, FILL only after WRITE or FILL".
use Rattle.std.specs.Prelude.{◌≡◌, refl, false}
use Rattle.memory.specs.declared.Size.{Size}
use Rattle.command.specs.Command.{dump, fill}
use Rattle.board.specs.declared.Chain.TheVariants.{Dumping, Filling}
use Rattle.legality.specs.Legality.{follows}

pub dump_not_after_write : (s : Size) → follows (dump s) Filling ≡ false
dump_not_after_write s = refl

pub fill_not_after_read : (s : Size) → follows (fill s) Dumping ≡ false
fill_not_after_read s = refl
