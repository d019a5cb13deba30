-- Laws of the page as text: digits put in two parts, code by code, entry by entry.
use Rattle.std.specs.Prelude.{ℕ, zero, suc, ◌+◌, ◌-◌, ◌*◌, ◌/◌, ◌%◌, ◌^◌, ◌≤◌, ◌<◌, ◌≡◌, refl, List, [], ◌∷◌, ◌++◌, length, drop, get_or, Err, Ok, Result}
use Rattle.trace.specs.declared.Refused.{Refused}
use Rattle.std.proofs.Common.{ap, sym, ◌∙◌, arith, mul_assoc, add_comm, suc-add, div-one, add-one, pow-add, drop-cons, take_at, take_all}
use Rattle.std.proofs.Math.Nat.{mod-add-div, add-mul-div_left, add-mul-mod_self_left, div-div-eq-div-mul, pow-succ', one-le-pow}
use Rattle.trace.specs.TraceReading.{refusal, counted, told_listing}
use Rattle.grounds.specs.Grounds.{number}
use Rattle.index.specs.Entry.{of_word}
use Rattle.index.specs.Index.{entry_count, index_words}
use Rattle.index.proofs.IndexLaws.{length_index}
use Rattle.summary.specs.declared.page.Page.{Page}
use Rattle.summary.specs.Page.{page_of, page_by, page_verdict, PageMeets}
use Rattle.text.specs.NumberText.{digit_text, digits_text, hex_text, decimal_text}
use Rattle.text.proofs.NumberTextLaws.{width_here}
use Rattle.page_text.specs.PageText.{code_line, codes_from, entry_line, index_from, page_text, printed}

-- a digit is not changed by what stands above
digit_low : (base n j e : ℕ) → 0 < base → n % base ^ (j + suc e) / base ^ j % base ≡ n / base ^ j % base
digit_low base n j e pos = rw split (sym (ap (λ (x : ℕ). x % base) low ∙ add-mul-mod_self_left (n % M / P) base (base ^ e * q)))
  where
    P : ℕ
    P = base ^ j

    M : ℕ
    M = P * (base * base ^ e)

    q : ℕ
    q = n / M

    split : base ^ (j + suc e) ≡ M
    split = rw (pow-add, pow-succ')

    low : n / P ≡ n % M / P + base * (base ^ e * q)
    low =
        ap (λ (x : ℕ). x / P) (sym (mod-add-div n M) ∙ ap (λ (x : ℕ). n % M + x) (mul_assoc P (base * base ^ e) q))
        ∙ add-mul-div_left (n % M) (base * base ^ e * q) (one-le-pow j base pos)
        ∙ ap (λ (x : ℕ). n % M / P + x) (mul_assoc base (base ^ e) q)

-- the lowest digits are those of what is left below
digits_low : (base k m n : ℕ) → 0 < base → k ≤ m → digits_text base k n ≡ digits_text base k (n % base ^ m)
unfolding digits_text
digits_low base zero m n pos h = refl
digits_low base (suc k) m n pos h =
    let e : k + suc (m - suc k) ≡ m = omega arith in
    rw (digits_low base k m n pos (omega arith), sym (rw e at (digit_low base n k (m - suc k) pos)))

-- the digits above, and then those below
digits_split : (base k m n : ℕ) → 0 < base → digits_text base (k + m) n ≡ digits_text base k (n / base ^ m) ++ digits_text base m (n % base ^ m)
unfolding digits_text
digits_split base zero m n pos = let e : zero + m ≡ m = omega arith in rw e (digits_low base m m n pos (omega arith))
digits_split base (suc k) m n pos =
    let e : m + k ≡ k + m = add_comm m k in
    rw (suc-add k m, digits_split base k m n pos, div-div-eq-div-mul, sym (pow-add base m k), e)

pub two_halves : (n : ℕ) → hex_text 8 (n / 4294967296) ++ hex_text 8 (n % 4294967296) ≡ hex_text 16 n
two_halves n = sym (digits_split 16 8 8 n (omega arith))

one_digit : (d : ℕ) → d < 10 → decimal_text d ≡ digit_text d ∷ []
unfolding digits_text
one_digit d h = let f : d / 1 % 10 ≡ d = omega arith in rw (width_here 10 d 19 1 h, f)

pub two_places : (n : ℕ) → decimal_text (n / 10 % 10) ++ decimal_text (n % 10) ≡ digits_text 10 2 n
unfolding digits_text
two_places n = rw (one_digit (n / 10 % 10) (omega arith), one_digit (n % 10) (omega arith), div-one)

-- the lines from one of the codes on
pub codes_on : (counts firsts lasts : List ℕ) (code : ℕ) → code < 16
    → codes_from counts firsts lasts code (16 - code)
    ≡ code_line code (get_or counts code 0) (get_or firsts code 0) (get_or lasts code 0) ++ codes_from counts firsts lasts (code + 1) (16 - (code + 1))
codes_on counts firsts lasts code h = by_left (16 - code) refl
  where
    by_left : (left : ℕ) → 16 - code ≡ left
        → codes_from counts firsts lasts code left
        ≡ code_line code (get_or counts code 0) (get_or firsts code 0) (get_or lasts code 0) ++ codes_from counts firsts lasts (code + 1) (16 - (code + 1))
    by_left zero e = absurd (omega arith)
    by_left (suc left) e = let f : 16 - (code + 1) ≡ left = omega arith in rw (f, add-one)

pub codes_end : (counts firsts lasts : List ℕ) (code : ℕ) → 16 ≤ code → codes_from counts firsts lasts code (16 - code) ≡ []
codes_end counts firsts lasts code h = let none : 16 - code ≡ 0 = omega arith in rw none

-- the lines from one of the entries on
pub index_on : (words : List ℕ) (k : ℕ) → k < length words
    → index_from k (drop k words) ≡ entry_line (of_word (256 * k) (get_or words k 0)) ++ index_from (k + 1) (drop (k + 1) words)
index_on words k h = rw (add-one, drop-cons words k 0 h)

-- what is printed of the page that a trace has and of the index that it leaves is what is printed of the trace
pub page_printed : {trace before after : List ℕ} {r : Page} → PageMeets trace before r after → page_text r after ≡ printed trace (length before)
page_printed {trace} {before} {after} {r} met = by_judged r.judged refl
  where
    W : List ℕ
    W = index_words trace

    n : ℕ
    n = entry_count (length trace)

    by_judged : (j : Result ℕ Refused) → r.judged ≡ j → page_text r after ≡ printed trace (length before)
    by_judged (Ok items) e =
        let verdict : page_verdict trace (length before) ≡ counted items = sym met.answer ∙ ap told_listing e in
        let page : r ≡ page_of trace items = met.page ∙ ap (page_by trace) e in
        rw (met.words, verdict, page, take_at W (drop (length W) before) n (length_index trace), take_all n W (omega (arith, length_index trace)))
    by_judged (Err r) e =
        let verdict : page_verdict trace (length before) ≡ refusal (number r.why) r.cycle = sym met.answer ∙ ap told_listing e in
        rw (e, verdict)
