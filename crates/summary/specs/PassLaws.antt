-- Laws of the pass over a trace: where its judging starts, what it has told where the trace can be read, and the index copied at the end.
use Rattle.std.specs.Prelude.{◌≡◌, ℕ, ◌+◌, ◌-◌, ◌≤◌, ◌<◌, List, length, get_or, set, Ok, Result}
use Rattle.trace.specs.declared.Refused.{Refused}
use Rattle.std.proofs.Common.{ap, sym, ◌∙◌, zero-add, add-one, arith, lt-ltb, le-ltb}
use Rattle.std.proofs.lemmas.List.Edits.{sets}
use Rattle.std.proofs.Math.Seq.{paste, paste-suc}
use Rattle.grounds.specs.declared.Ground.TheVariants.{TraceTooLong}
use Rattle.grounds.specs.Grounds.{number}
use Rattle.laws.specs.StoreLaws.{length_stored}
use Rattle.cycle.specs.declared.Carried.{Carried}
use Rattle.summary.specs.declared.noting.Noted.{Noted}
use Rattle.cycle.specs.Cycle.{nothing}
use Rattle.trace.specs.Items.{items}
use Rattle.trace.specs.ItemLaws.{items_before_le}
use Rattle.trace.specs.TraceReading.{refusal, counted, told_listing, too_long, earliest, ends_inside, judged_from, reading}
use Rattle.trace.proofs.TraceReadingLaws.{whole_short}
use Rattle.tally.specs.Tally.{count_of}
use Rattle.tally.proofs.TallyLaws.{of_code, count_le_length}
use Rattle.index.specs.Index.{index_words}
use Rattle.summary.specs.TallyMirror.{Tallied, ReadTallied}

-- what is judged of the cycles, the length aside, where those before cycle i have left c under way
abbrev pub Judging : List ℕ → ℕ → Carried → Type 0
Judging trace i c = earliest trace i c (length trace - i) (ends_inside (counted (length (items trace)))) ≡ reading trace

pub judging_starts : (trace : List ℕ) (c : Carried) → length trace ≤ 65536 → c ≡ nothing → Judging trace 0 c
unfolding reading judged_from too_long
judging_starts trace c h e = rw (e, le-ltb 65536 (length trace) h)

pub too_long_so : (trace : List ℕ) → 65536 < length trace → refusal (number TraceTooLong) 0 ≡ reading trace
unfolding reading judged_from too_long
too_long_so trace h = rw (lt-ltb 65536 (length trace) h)

-- one word more of a copy
pub copied_next : (to from : List ℕ) (k : ℕ) → k < length to → k < length from → set (paste to 0 from k) k (get_or from k 0) ≡ paste to 0 from (k + 1)
copied_next to from k h g =
    ap (λ (at : ℕ). set (paste to 0 from k) at (get_or from k 0)) (sym (zero-add k))
    ∙ paste-suc to 0 from k 0 (omega (arith, zero-add k)) g
    ∙ ap (paste to 0 from) (sym (add-one k))

-- no count of a trace is large
count_small : (trace : List ℕ) {n : Noted} (code : ℕ) → code < 16 → length trace ≤ 65536 → Tallied (items trace) n → get_or n.counts code 0 ≤ 131072
unfolding items
count_small trace code h k t =
    rw (t.count, of_code (count_of (items trace)) code h) (omega (arith, count_le_length (items trace) code, items_before_le trace (length trace)))

-- what is known of a trace that the pass could read
pub record PassRead (trace before : List ℕ) (n : ℕ) (t : Noted) (entries : List ℕ) : Type 0 where
  pub reads : reading trace ≡ counted n
  pub short : length trace ≤ 65536
  pub tally : Tallied (items trace) t
  pub index : entries ≡ sets before 0 (index_words trace)
  pub room : length entries ≡ length before
  -- the counts of the starts are small
  pub small : (get_or t.counts 1 0 ≤ 131072) × (get_or t.counts 4 0 ≤ 131072) × (get_or t.counts 5 0 ≤ 131072) × (get_or t.counts 7 0 ≤ 131072)

pub pass_read : {trace before : List ℕ} {r : Result ℕ Refused} {noted : Noted} {entries : List ℕ}
    → (told_listing r ≡ reading trace) × ReadTallied trace before r noted entries → {n : ℕ} → r ≡ Ok n → PassRead trace before n noted entries
pass_read {trace} {before} {r} {noted} {entries} t {n} e =
    record {
      reads = reads;
      short = short;
      tally = told.0;
      index = told.1;
      room = length_stored before (index_words trace) 0 told.1;
      small = (small 1 (omega arith), small 4 (omega arith), small 5 (omega arith), small 7 (omega arith));
    }
  where
    reads : reading trace ≡ counted n
    reads = sym t.0 ∙ ap told_listing e

    short : length trace ≤ 65536
    short = whole_short trace n reads

    told : ReadTallied trace before (Ok n) noted entries
    told = rw e at t.1

    small : (code : ℕ) → code < 16 → get_or noted.counts code 0 ≤ 131072
    small code h = count_small trace code h short told.0
