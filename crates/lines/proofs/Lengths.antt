-- How long the lines are.
use mathlib.Core.List.{List, []}
use Prim.Native.Nat.{◌<◌, ◌^◌, ◌≤◌, ℕ}
use native.Mathlib.Omega.{arith}
use lib.Dec.{eqb}
use lib.ListN.{length, length-append}
use Rattle.sums.proofs.Cases.{by-test}
use Rattle.text.proofs.Decimals.{item-length, triple-length}
use Rattle.text.specs.Text.{blank, newline}
use Rattle.lines.specs.Lines.{header_text, place_text, refused_text}

-- a refusal's line, where its number has at most ten digits
pub refused-length : (n : ℕ) → n < 10 ^ 10 → length (refused_text n) ≤ 19
unfolding refused_text
refused-length n h = simp length-append (omega (arith, item-length n newline 9 h))

-- the first line, of widths of two digits
pub header-length : (w1 w2 w3 m : ℕ) → w1 < 100 → w2 < 100 → w3 < 100 → m < 10
    → length (header_text w1 w2 w3 m) ≤ 22
unfolding header_text
header-length w1 w2 w3 m h1 h2 h3 hm =
    let e = triple-length w1 w2 w3 blank 1 h1 h2 h3 in
    let d = item-length m newline 0 hm in
    simp length-append (omega arith)

-- the line of a place, of a number of six digits
pub place-length : (x y z n : ℕ) → x < 100 → y < 100 → z < 100 → n < 1000000 → length (place_text x y z n) ≤ 16
unfolding place_text
place-length x y z n hx hy hz hn =
    let e = triple-length x y z blank 1 hx hy hz in
    let d = item-length n newline 5 hn in
    by-test (λ (s : List ℕ). length s ≤ 16) (eqb n 0) [] _ (λ t. omega arith)
    (λ t. simp length-append (omega arith))
