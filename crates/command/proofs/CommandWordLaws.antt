-- Laws of commands and their words: a command that has a word is known by it, so that two can be compared by computing.
use Rattle.std.specs.Prelude.{◌≡◌, refl, ℕ, ◌+◌, ◌/◌, Bool, true, ◌&&◌, eqb, ltb}
use Rattle.std.proofs.Common.{sym, ap, ◌∙◌, arith, eq-eqb, ne_eqb, eqb-true, ltb-true}
use Rattle.memory.specs.declared.Size.{Size}
use Rattle.memory.specs.declared.Size.TheVariants.{Byte, Word, Long}
use Rattle.command.specs.declared.DebugRegister.TheVariants.{Csr, Baar, Aatr, Tdr, Pbr, Pbmr, Abhr, Ablr, Dbr, Dbmr}
use Rattle.command.specs.declared.Command.{Command}
use Rattle.command.specs.declared.Command.TheVariants.{Unknown, Nop, Load, Store, Show, Change}
use Rattle.command.specs.declared.Base.TheVariants.{Address, Pointer}
use Rattle.command.specs.declared.Source.TheVariants as source
use Rattle.command.specs.declared.Target.TheVariants as target
use Rattle.command.specs.Command.{debug_number, decoded_word, decoded}
use Rattle.laws.specs.TestLaws.{both_hold}

abbrev size_bits : Size → ℕ
size_bits Byte = 0x00
size_bits Word = 0x40
size_bits Long = 0x80

-- a command by its word; one that is none by a number that is no word
abbrev word_of : Command → ℕ
word_of Unknown = 0x10000
word_of Nop = 0x0000
word_of (Load size Address) = 0x1900 + size_bits size
word_of (Load size Pointer) = 0x1D00 + size_bits size
word_of (Store size Address) = 0x1800 + size_bits size
word_of (Store size Pointer) = 0x1C00 + size_bits size
word_of (Show (source.General n)) = 0x2180 + n
word_of (Show source.Control) = 0x2980
word_of (Show source.Csr) = 0x2D80
word_of (Change (target.General n)) = 0x2080 + n
word_of (Change target.Control) = 0x2880
word_of (Change (target.Debug r)) = 0x2C80 + debug_number r
word_of (Change target.Run) = 0x0C00
word_of (Change target.Sync) = 0x0001

-- it has a word: there are sixteen general registers
abbrev has_word : Command → Bool
has_word Unknown = true
has_word Nop = true
has_word (Load size base) = true
has_word (Store size base) = true
has_word (Show (source.General n)) = ltb n 16
has_word (Show source.Control) = true
has_word (Show source.Csr) = true
has_word (Change (target.General n)) = ltb n 16
has_word (Change target.Control) = true
has_word (Change (target.Debug r)) = true
has_word (Change target.Run) = true
has_word (Change target.Sync) = true

word_back : (c : Command) → has_word c ≡ true → decoded (word_of c) ≡ c
unfolding decoded decoded_word
word_back Unknown h = refl
word_back Nop h = refl
word_back (Load Byte Address) h = refl
word_back (Load Word Address) h = refl
word_back (Load Long Address) h = refl
word_back (Load Byte Pointer) h = refl
word_back (Load Word Pointer) h = refl
word_back (Load Long Pointer) h = refl
word_back (Store Byte Address) h = refl
word_back (Store Word Address) h = refl
word_back (Store Long Address) h = refl
word_back (Store Byte Pointer) h = refl
word_back (Store Word Pointer) h = refl
word_back (Store Long Pointer) h = refl
word_back (Show (source.General n)) h =
    let below = ltb-true n 16 h in
    rw (eq-eqb ((0x2180 + n) / 16) 0x218 (omega (arith, below))) (ap (λ (k : ℕ). Show (source.General k)) (omega (arith, below)))
word_back (Show source.Control) h = refl
word_back (Show source.Csr) h = refl
word_back (Change (target.General n)) h =
    let below = ltb-true n 16 h in
    rw (ne_eqb ((0x2080 + n) / 16) 0x218 (λ e. omega (arith, below, e)), eq-eqb ((0x2080 + n) / 16) 0x208 (omega (arith, below)))
    (ap (λ (k : ℕ). Change (target.General k)) (omega (arith, below)))
word_back (Change target.Control) h = refl
word_back (Change (target.Debug Csr)) h = refl
word_back (Change (target.Debug Baar)) h = refl
word_back (Change (target.Debug Aatr)) h = refl
word_back (Change (target.Debug Tdr)) h = refl
word_back (Change (target.Debug Pbr)) h = refl
word_back (Change (target.Debug Pbmr)) h = refl
word_back (Change (target.Debug Abhr)) h = refl
word_back (Change (target.Debug Ablr)) h = refl
word_back (Change (target.Debug Dbr)) h = refl
word_back (Change (target.Debug Dbmr)) h = refl
word_back (Change target.Run) h = refl
word_back (Change target.Sync) h = refl

abbrev pub same : Command → Command → Bool
same a b = eqb (word_of a) (word_of b) && (has_word a && has_word b)

pub same_is_equal : (a b : Command) → same a b ≡ true → a ≡ b
same_is_equal a b h =
    let words = both_hold (eqb (word_of a) (word_of b)) (has_word a && has_word b) h in
    let have = both_hold (has_word a) (has_word b) words.1 in
    sym (word_back a have.0) ∙ ap decoded (eqb-true (word_of a) (word_of b) words.0) ∙ word_back b have.1
