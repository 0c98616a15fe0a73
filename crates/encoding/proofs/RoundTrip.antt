-- A file that is the encoding of sizes, origin and entries within limits is loaded as exactly these.
use mathlib.Core.Bool.{false}
use mathlib.Core.List.{List, [], ◌++◌, ◌∷◌, map}
use mathlib.Core.Logic.{⊎_elim}
use mathlib.Core.Path.{◌∙◌, ◌≡◌, ap, refl, sym}
use Prim.Native.Nat.{◌*◌, ◌+◌, ◌-◌, ◌<◌, ◌≤◌, suc, zero, ℕ}
use native.Mathlib.Nat.{eq-zero-or-pos, mod-add-div}
use native.Mathlib.Omega.{arith}
use lib.IntN.{pos, ℤ}
use lib.ListN.{get_or-append, get_or-eq_default, get_or-map, drop, get_or, length, length-append}
use lib.ListN.{length-map}
use lib.Seq.{get_or-append-add}
use Rattle.sums.proofs.Fill.{list-is-tabulate, tabulate-cong}
use Rattle.sums.specs.Fill.{filled}
use Rattle.allowed.proofs.Limits.{BlockLimits, sizes-limits}
use Rattle.unit.proofs.Gaps.{certain}
use Rattle.unit.specs.Gaps.{uncertain_gap}
use Rattle.unit.specs.Unit.{with_block}
use Rattle.unit.specs.declared.Unit.{Unit}
use Rattle.file.specs.File.{correction, corrections_start, entry, entry_count, file_length, origin1, origin2}
use Rattle.file.specs.File.{origin3, signed, size1, size2, size3, uncertainties_start, uncertainty, word}
use Rattle.file_checks.proofs.Accepted.{accepted-file, accepted-layout}
use Rattle.field.proofs.Accepted.{accepted-load}
use Rattle.field.specs.Load.{load_answer, load_checks, load_corrections, load_uncertainties}
use Rattle.encoding.proofs.Bits.{bits_below, signed-bits}
use Rattle.encoding.specs.Encoding.{WithinLimits, bits, encoding, little_endian}
use Rattle.std.specs.Prelude.{Ok}
use Rattle.checks.specs.Checks.{no_refusal}

-- ---- 16-bit numbers as bytes

pub length-little_endian : (ws : List ℕ) → length (little_endian ws) ≡ 2 * length ws
unfolding little_endian
length-little_endian [] = refl
length-little_endian (w ∷ ws) = let e = length-little_endian ws in omega arith

pub word-little_endian : (ws : List ℕ) (i : ℕ) → word (little_endian ws) (2 * i) ≡ get_or ws i 0
unfolding little_endian word
word-little_endian [] i = refl
word-little_endian (w ∷ ws) zero = mod-add-div w 256
word-little_endian (w ∷ ws) (suc i) =
    let e : 2 * suc i ≡ suc (suc (2 * i)) = omega arith in
    let f : 2 * suc i + 1 ≡ suc (suc (2 * i + 1)) = omega arith in
    rw (f, e) (word-little_endian ws i)

bytes-little_endian : (ws : List ℕ) → ((i : ℕ) → get_or ws i 0 < 65536)
    → (i : ℕ) → get_or (little_endian ws) i 0 < 256
unfolding little_endian
bytes-little_endian [] h i = omega arith
bytes-little_endian (w ∷ ws) h zero = omega arith
bytes-little_endian (w ∷ ws) h (suc zero) = let k = h 0 in omega arith
bytes-little_endian (w ∷ ws) h (suc (suc i)) = bytes-little_endian ws (λ j. h (suc j)) i

-- ---- the fields of an encoding

module _ (n1 n2 n3 : ℕ) (o1 o2 o3 : ℤ) (corrections : List ℤ) (uncertainties : List ℕ)
    (l : WithinLimits n1 n2 n3 o1 o2 o3 corrections uncertainties) where
  abbrev n : ℕ
  n = n1 * n2 * n3

  abbrev file : List ℕ
  file = encoding n1 n2 n3 o1 o2 o3 corrections uncertainties

  abbrev coded : List ℕ
  coded = map bits corrections

  abbrev entries : List ℕ
  entries = coded ++ uncertainties

  abbrev header : List ℕ
  header = n1 ∷ n2 ∷ n3 ∷ bits o1 ∷ bits o2 ∷ bits o3 ∷ []

  abbrev words : List ℕ
  words = header ++ entries

  limits : BlockLimits n1 n2 n3
  limits = sizes-limits n1 n2 n3 l.sizes

  counted : length coded ≡ n
  counted = length-map corrections bits ∙ l.count1

  size1-is : size1 file ≡ n1
  unfolding encoding
  size1-is = word-little_endian words 0

  size2-is : size2 file ≡ n2
  unfolding encoding
  size2-is = word-little_endian words 1

  size3-is : size3 file ≡ n3
  unfolding encoding
  size3-is = word-little_endian words 2

  origin1-is : origin1 file ≡ o1
  unfolding encoding signed word
  origin1-is = ap signed (word-little_endian words 3) ∙ signed-bits o1 l.origin1

  origin2-is : origin2 file ≡ o2
  unfolding encoding signed word
  origin2-is = ap signed (word-little_endian words 4) ∙ signed-bits o2 l.origin2

  origin3-is : origin3 file ≡ o3
  unfolding encoding signed word
  origin3-is = ap signed (word-little_endian words 5) ∙ signed-bits o3 l.origin3

  count-is : entry_count file ≡ n
  count-is = simp (size1-is, size2-is, size3-is)

  length-is : length file ≡ file_length n
  unfolding encoding
  length-is =
      let doubled = length-little_endian words in
      omega (arith, doubled, length-append coded uncertainties, counted, l.count2)

  entry-is : (i : ℕ) → entry file corrections_start i ≡ get_or entries i 0
  unfolding encoding
  entry-is i =
      let e : corrections_start + 2 * i ≡ 2 * (length header + i) = omega arith in
      ap (word file) e
      ∙ word-little_endian words (length header + i)
      ∙ get_or-append-add header entries i 0

  coded-is : (i : ℕ) → i < n → get_or entries i 0 ≡ bits (get_or corrections i (pos 0))
  unfolding bits
  coded-is i h =
      get_or-append coded uncertainties 0 i (rw counted h) ∙ get_or-map bits corrections i (pos 0)

  correction-is : (i : ℕ) → i < n → correction file i ≡ get_or corrections i (pos 0)
  unfolding correction
  correction-is i h =
      ap signed (entry-is i ∙ coded-is i h) ∙ signed-bits (get_or corrections i (pos 0)) (l.range1 i h)

  uncertainty-is : (i : ℕ) → uncertainty file i ≡ get_or uncertainties i 0
  unfolding uncertainty
  uncertainty-is i =
      let e : uncertainties_start (length coded) + 2 * i ≡ corrections_start + 2 * (length coded + i)
      = omega arith in
      ap (λ (k : ℕ). entry file (uncertainties_start k) i) (count-is ∙ sym counted)
      ∙ ap (word file) e
      ∙ entry-is (length coded + i)
      ∙ get_or-append-add coded uncertainties i 0

  certain-is : (i : ℕ) → i < n → uncertain_gap (correction file i) (uncertainty file i) ≡ false
  certain-is i h =
      rw (correction-is i h, uncertainty-is i)
      (certain (get_or corrections i (pos 0)) (get_or uncertainties i 0) (l.gaps i h))

  -- it is a list of bytes

  corrections-below : (i : ℕ) → i < n → get_or entries i 0 < 65536
  corrections-below i h = rw (coded-is i h) (bits_below (get_or corrections i (pos 0)) (l.range1 i h))

  uncertainties-below : (i : ℕ) → get_or uncertainties i 0 < 65536
  uncertainties-below i =
      ⊎_elim
      (λ (h : n - i ≡ 0).
      rw (get_or-eq_default uncertainties 0 {n = i} (omega (arith, l.count2))) (omega arith))
      (λ (h : 0 < n - i). let k = l.range2 i (omega arith) in omega arith)
      (eq-zero-or-pos (n - i))

  entries_below : (i : ℕ) → get_or entries i 0 < 65536
  entries_below i =
      ⊎_elim
      (λ (h : n - i ≡ 0). let e : i ≡ length coded + (i - n) = omega (arith, counted) in
      rw (ap (λ (k : ℕ). get_or entries k 0) e ∙ get_or-append-add coded uncertainties (i - n) 0)
      (uncertainties-below (i - n)))
      (λ (h : 0 < n - i). corrections-below i (omega arith))
      (eq-zero-or-pos (n - i))

  words-below : (i : ℕ) → get_or words i 0 < 65536
  words-below zero = omega (arith, limits.most1)
  words-below (suc zero) = omega (arith, limits.most2)
  words-below (suc (suc zero)) = omega (arith, limits.most3)
  words-below (suc (suc (suc zero))) = bits_below o1 l.origin1
  words-below (suc (suc (suc (suc zero)))) = bits_below o2 l.origin2
  words-below (suc (suc (suc (suc (suc zero))))) = bits_below o3 l.origin3
  words-below (suc (suc (suc (suc (suc (suc i)))))) = entries_below i

  pub encoding-bytes : (i : ℕ) → get_or file i 0 < 256
  unfolding encoding
  encoding-bytes = bytes-little_endian words words-below

  -- ---- the load

  module _ (c : List ℤ) (u : List ℕ) (room1 : n ≤ length c) (room2 : n ≤ length u) where
    passed : load_checks file (length c) (length u) ≡ no_refusal
    passed =
        accepted-load file (length c) (length u)
        (accepted-file file
        (accepted-layout file
        (record {
          header = omega (arith, length-is);
          sizes = rw (size1-is, size2-is, size3-is) limits;
          exact = length-is ∙ ap file_length (sym count-is);
        }))
        (λ i h. let k : i < n = rw count-is at h in
        (rw (uncertainty-is i) (l.range2 i k), certain-is i k)))
        (rw count-is room1)
        (rw count-is room2)

    answer : (unit : Unit) → load_answer unit file c u ≡ Ok (with_block unit n1 n2 n3 o1 o2 o3)
    unfolding load_answer
    answer unit = simp (passed, size1-is, size2-is, size3-is, origin1-is, origin2-is, origin3-is)

    written1 : load_corrections file c u ≡ corrections ++ drop n c
    unfolding load_corrections filled
    written1 =
        simp (passed, count-is)
        (ap (λ (k : List ℤ). k ++ drop n c)
        (tabulate-cong _ _ n correction-is ∙ sym (list-is-tabulate corrections n (pos 0) l.count1)))

    written2 : load_uncertainties file c u ≡ uncertainties ++ drop n u
    unfolding load_uncertainties filled
    written2 =
        simp (passed, count-is)
        (ap (λ (k : List ℕ). k ++ drop n u)
        (tabulate-cong _ _ n (λ i _. uncertainty-is i)
        ∙ sym (list-is-tabulate uncertainties n 0 l.count2)))

    -- the round trip, for any unit; past the n entries the slices are as found
    pub load-encoding : (unit : Unit)
        → (load_answer unit file c u ≡ Ok (with_block unit n1 n2 n3 o1 o2 o3))
        × (load_corrections file c u ≡ corrections ++ drop n c)
        × (load_uncertainties file c u ≡ uncertainties ++ drop n u)
    load-encoding unit = (answer unit, written1, written2)
