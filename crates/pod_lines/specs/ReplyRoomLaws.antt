-- A law of `pod`: a buffer of 2,048 words has room for the reply words of any line.
use Rattle.std.specs.Prelude.{ℕ, ◌≤◌, ◌≡◌, refl, Bool, true, false, cond, List, [], ◌∷◌, leb, length, None, Some, Option}
use Rattle.std.proofs.Common.{arith, leb-true}
use Rattle.requests.specs.declared.Request.{Request}
use Rattle.words.specs.declared.LineKind.TheVariants.{Silent, Clear, TooLong}
use Rattle.words.specs.LineWords.{ascii, is_silent, kind_of, words, same}
use Rattle.words.specs.GapLaws.{words_few}
use Rattle.request_lines.specs.RequestLines.{request_of}
use Rattle.pod_lines.specs.PodLines.{reads, unclear, before_colon, after_colon, build_line, read_line, pod_words, pod_at, pod_meaning}

-- there are no more words behind the colon than in all
after_fewer : (ws replies : List (List ℕ)) → after_colon ws ≡ Some replies → length replies ≤ length ws
after_fewer [] replies e = let z : ◌≡◌ {A = ℕ} 0 1 = cc in omega arith
after_fewer (w ∷ rest) replies e = by_test (after_fewer rest replies) (same w (ascii ":")) e
  where
    by_test : (after_colon rest ≡ Some replies → length replies ≤ length rest) → (t : Bool)
        → cond t (Some rest) (after_colon rest) ≡ Some replies → length replies ≤ length (w ∷ rest)
    by_test ih true e = let same_rest : rest ≡ replies = cc in rw (← same_rest) (omega arith)
    by_test ih false e = omega (arith, ih e)

-- what a reading says of its line
build_reads : (asked : Option Request) (request : Request) (replies : List (List ℕ)) → build_line asked ≡ reads request replies → ◌≡◌ {A = ℕ} 0 1
build_reads (Some r) request replies e = cc
build_reads None request replies e = cc

read_reads : (asked : Option Request) (behind : Option (List (List ℕ))) (request : Request) (replies : List (List ℕ))
    → read_line asked behind ≡ reads request replies
    → behind ≡ Some replies
read_reads (Some r) (Some words) request replies e = cc
read_reads (Some r) None request replies e = cc
read_reads None behind request replies e = cc

words_fewer : (ws : List (List ℕ)) (request : Request) (replies : List (List ℕ)) → pod_words ws ≡ reads request replies → length replies ≤ length ws
unfolding pod_words
words_fewer [] request replies e = let z : ◌≡◌ {A = ℕ} 0 1 = cc in omega arith
words_fewer (name ∷ rest) request replies e = by_test (same name (ascii "build")) (same name (ascii "read")) e
  where
    by_test : (t u : Bool)
        → cond t (build_line (request_of rest)) (cond u (read_line (request_of (before_colon rest)) (after_colon rest)) unclear) ≡ reads request replies
        → length replies ≤ length (name ∷ rest)
    by_test true u e = omega (arith, build_reads (request_of rest) request replies e)
    by_test false true e = omega (arith, after_fewer rest replies (read_reads (request_of (before_colon rest)) (after_colon rest) request replies e))
    by_test false false e = let z : ◌≡◌ {A = ℕ} 0 1 = cc in omega arith

-- "longer than 4,096 bytes" is unclear, so no line has more reply words than this
pub room_enough : (line : List ℕ) (request : Request) (replies : List (List ℕ)) → pod_meaning line ≡ reads request replies → length replies ≤ 2048
unfolding pod_meaning kind_of
room_enough line request replies e = by_test (is_silent line) (leb (length line) 4096) refl e
  where
    by_test : (t u : Bool) → leb (length line) 4096 ≡ u → pod_at (cond t Silent (cond u Clear TooLong)) line ≡ reads request replies → length replies ≤ 2048
    by_test true u p e = let z : ◌≡◌ {A = ℕ} 0 1 = cc in omega arith
    by_test false true p e = omega (arith, leb-true (length line) 4096 p, words_few line, words_fewer (words line) request replies e)
    by_test false false p e = let z : ◌≡◌ {A = ℕ} 0 1 = cc in omega arith
