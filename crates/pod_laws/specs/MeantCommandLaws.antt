-- Laws of the command that a request means: its word is decoded so.
use Rattle.std.specs.Prelude.{ℕ, ◌+◌, ◌/◌, ◌%◌, ◌≤◌, ◌≡◌, refl, Bool, true, cond, ◌&&◌, ◌||◌, List, [], ◌∷◌, ◌++◌, eqb, ltb, take, drop}
use Rattle.std.proofs.Common.{arith, ap, ap₂, ◌∙◌, eq-eqb, ne_eqb, eqb-true, leb-true, ltb-true}
use Rattle.std.proofs.lemmas.Bool.{eqb-false}
use Rattle.memory.specs.declared.Size.TheVariants.{Byte, Word, Long}
use Rattle.command.specs.declared.Command.TheVariants.{Unknown}
use Rattle.command.specs.Command as command
use Rattle.command.specs.Command.{Row, row, table, looked_up, decoded_word, decoded}
use Rattle.requests.specs.declared.Request.{Request}
use Rattle.requests.specs.declared.Request.TheVariants.{Rdreg, Wdreg, Read, Write, Dump, Fill, Go, Nop, SyncPc, Rcreg, Wcreg, Rdmreg, Wdmreg}
use Rattle.requests.specs.Request.{data_in_range, in_range}
use Rattle.building.specs.RequestWords.{command_word}
use Rattle.laws.specs.TestLaws.{by_test, both_hold}
use Rattle.pod_laws.specs.MeantCommand.{debug_rows, command_of}

-- two numbers moved alike are equal as they were
eqb_moved : (k n m : ℕ) → eqb (k + n) (k + m) ≡ eqb n m
eqb_moved k n m =
    by_test (eqb n m)
    (λ h. rw h (eq-eqb (k + n) (k + m) (ap (λ x. k + x) (eqb-true n m h))))
    (λ h. rw h (ne_eqb (k + n) (k + m) (λ e. eqb-false n m h (omega arith))))

-- rows at which each word is moved by k
abbrev moved : ℕ → List Row → List Row
moved k [] = []
moved k (r ∷ rs) = row (k + r.word) r.command ∷ moved k rs

found_moved : (k n : ℕ) (rs : List Row) → looked_up (k + n) (moved k rs) ≡ looked_up n rs
found_moved k n [] = refl
found_moved k n (r ∷ rs) = rw (eqb_moved k n r.word, found_moved k n rs)

-- rows of which none has a word from k to k + 31
abbrev outside : ℕ → List Row → Bool
outside k [] = true
outside k (r ∷ rs) = (ltb r.word k || ltb (k + 31) r.word) && outside k rs

apart : (k n w : ℕ) → n ≤ 31 → (ltb w k || ltb (k + 31) w) ≡ true → k + n ≡ w → ⊥
apart k n w small o e = by_test (ltb w k) (λ h. omega (arith, ltb-true w k h)) (λ h. omega (arith, ltb-true (k + 31) w (rw h at o)))

passed_over : (k n : ℕ) (rs ss : List Row) → n ≤ 31 → outside k rs ≡ true → looked_up (k + n) (rs ++ ss) ≡ looked_up (k + n) ss
passed_over k n [] ss small o = refl
passed_over k n (r ∷ rs) ss small o =
    rw (ne_eqb (k + n) r.word (apart k n r.word small (both_hold (ltb r.word k || ltb (k + 31) r.word) _ o).0))
    (passed_over k n rs ss small (both_hold (ltb r.word k || ltb (k + 31) r.word) _ o).1)

wdmreg_decoded : (n : ℕ) → n ≤ 31 → decoded (0x2C80 + n) ≡ looked_up n debug_rows
unfolding decoded decoded_word
wdmreg_decoded n small =
    rw (ne_eqb ((0x2C80 + n) / 16) 0x218 (omega arith), ne_eqb ((0x2C80 + n) / 16) 0x208 (omega arith))
    (passed_over 0x2C80 n (take 18 table) (moved 0x2C80 debug_rows) small refl ∙ found_moved 0x2C80 n debug_rows)

rdmreg_decoded : (n : ℕ) → n ≤ 31 → decoded (0x2D80 + n) ≡ cond (eqb n 0) command.rdmreg Unknown
unfolding decoded decoded_word
rdmreg_decoded n small =
    rw (ne_eqb ((0x2D80 + n) / 16) 0x218 (omega arith), ne_eqb ((0x2D80 + n) / 16) 0x208 (omega arith))
    (passed_over 0x2D80 n (take 17 table) (drop 17 table) small refl
    ∙ ap₂ (λ t c. cond t command.rdmreg c) (eqb_moved 0x2D80 n 0) (passed_over 0x2D80 n (drop 18 table) [] small refl))

-- the word of a request is the command meant
pub decoded_as_meant : (request : Request) → in_range request ≡ true → decoded (command_word request) ≡ command_of request
unfolding decoded decoded_word
decoded_as_meant (Rdreg register) h =
    let small = leb-true register 15 h in
    let same : (0x2180 + register) % 16 ≡ register = omega arith in
    rw (eq-eqb ((0x2180 + register) / 16) 0x218 (omega arith)) (ap command.rdreg same)
decoded_as_meant (Wdreg register value) h =
    let small = leb-true register 15 (both_hold (data_in_range Long value) _ h).1 in
    let same : (0x2080 + register) % 16 ≡ register = omega arith in
    rw (ne_eqb ((0x2080 + register) / 16) 0x218 (omega arith), eq-eqb ((0x2080 + register) / 16) 0x208 (omega arith)) (ap command.wdreg same)
decoded_as_meant (Read Byte address) h = refl
decoded_as_meant (Read Word address) h = refl
decoded_as_meant (Read Long address) h = refl
decoded_as_meant (Write Byte address value) h = refl
decoded_as_meant (Write Word address value) h = refl
decoded_as_meant (Write Long address value) h = refl
decoded_as_meant (Dump Byte) h = refl
decoded_as_meant (Dump Word) h = refl
decoded_as_meant (Dump Long) h = refl
decoded_as_meant (Fill Byte value) h = refl
decoded_as_meant (Fill Word value) h = refl
decoded_as_meant (Fill Long value) h = refl
decoded_as_meant Go h = refl
decoded_as_meant Nop h = refl
decoded_as_meant SyncPc h = refl
decoded_as_meant (Rcreg rc) h = refl
decoded_as_meant (Wcreg rc value) h = refl
decoded_as_meant (Rdmreg n) h = rdmreg_decoded n (leb-true n 31 h)
decoded_as_meant (Wdmreg n value) h = wdmreg_decoded n (leb-true n 31 (both_hold (data_in_range Long value) _ h).1)
