-- Sums and searches over the part of a window that lies before a position.
use mathlib.Core.Bool.{Bool, cond, false, true}
use mathlib.Core.Path.{◌∙◌, ◌≡◌, ap, refl, sym}
use Prim.Native.Nat.{◌*◌, ◌+◌, ◌<◌, ◌≤◌, ℕ}
use native.Mathlib.Omega.{arith}
use borrow.Author.Tests.{ltb-false, ltb-true}
use lib.Dec.{ltb}
use Rattle.sums.specs.Search.{Found, at, nowhere}
use Rattle.window.specs.Positions.{position, position_after}
use Rattle.window.specs.declared.position.Position.{Position}
use Rattle.blending.proofs.Gaps.{first-of-hit, first-of-next, first-of-none}
use Rattle.blending.proofs.Sweep.{add-assoc-sums, add_none, sums_next, sums_none}
use Rattle.blending.specs.Inner.Search.{first_of}
use Rattle.blending.specs.Inner.Sums.{Sums, add_sums, no_sums, sums_to}

-- ---- positions

-- the next one, by what the tests say
after-cases : (w : Position) (e1 e2 : ℕ) (P : Position → Type 0)
    → (w.x + 1 < e1 → P (position (w.x + 1) w.y w.z))
    → (e1 ≤ w.x + 1 → w.y + 1 < e2 → P (position 0 (w.y + 1) w.z))
    → (e1 ≤ w.x + 1 → e2 ≤ w.y + 1 → P (position 0 0 (w.z + 1)))
    → P (position_after w e1 e2)
unfolding position_after
after-cases w e1 e2 P in_row in_layer in_window =
    go (ltb (w.x + 1) e1) (ltb (w.y + 1) e2) refl refl
  where
    go : (a b : Bool) → ltb (w.x + 1) e1 ≡ a → ltb (w.y + 1) e2 ≡ b
        → P (cond a (position (w.x + 1) w.y w.z)
        (cond b (position 0 (w.y + 1) w.z) (position 0 0 (w.z + 1))))
    go true b ea eb = in_row (ltb-true _ _ ea)
    go false true ea eb = in_layer (ltb-false _ _ ea) (ltb-true _ _ eb)
    go false false ea eb = in_window (ltb-false _ _ ea) (ltb-false _ _ eb)

-- a position of the window, or the one past its end
pub record Reached (e1 e2 e3 : ℕ) (w : Position) : Type 0 where
  pub low_x : w.x < e1
  pub low_y : w.y < e2
  pub low_z : w.z ≤ e3
  pub end : w.z ≡ e3 → (w.x ≡ 0) × (w.y ≡ 0)

-- how many entries lie before a position
abbrev pub passed : ℕ → ℕ → Position → ℕ
passed e1 e2 w = w.x + e1 * (w.y + e2 * w.z)

-- each step passes one
pub passed-next : (e1 e2 : ℕ) (w : Position) → w.x < e1 → w.y < e2
    → passed e1 e2 (position_after w e1 e2) ≡ passed e1 e2 w + 1
passed-next e1 e2 w lx ly =
    after-cases w e1 e2 (λ k. passed e1 e2 k ≡ passed e1 e2 w + 1)
    (λ a. omega arith)
    (λ a b. omega arith)
    (λ a b. let h = ap (λ (k : ℕ). e1 * k) (let e : e2 ≡ w.y + 1 = omega arith in e) in omega arith)

-- and reaches a position
pub reached-next : (e1 e2 e3 : ℕ) (w : Position) → Reached e1 e2 e3 w → w.z < e3
    → Reached e1 e2 e3 (position_after w e1 e2)
reached-next e1 e2 e3 w r l =
    after-cases w e1 e2 (Reached e1 e2 e3)
    (λ a. record { low_x = a; low_y = r.low_y; low_z = r.low_z; end = λ e. absurd (omega arith) })
    (λ a b.
    record { low_x = omega (arith, r.low_x); low_y = b; low_z = r.low_z; end = λ e. absurd (omega arith) })
    (λ a b.
    record {
      low_x = omega (arith, r.low_x);
      low_y = omega (arith, r.low_y);
      low_z = omega arith;
      end = λ e. (refl, refl);
    })

-- the end is past the last layer
pub at-end : (e1 e2 e3 : ℕ) (w : Position) → Reached e1 e2 e3 w → e3 ≤ w.z → w ≡ position 0 0 e3
at-end e1 e2 e3 w r l =
    let z : w.z ≡ e3 = omega (arith, r.low_z) in
    let xy = r.end z in
    rw (z, xy.0, xy.1) refl

-- ---- sums

module _ (e1 e2 : ℕ) (f : ℕ → ℕ → ℕ → Sums) where
  abbrev row_of : ℕ → ℕ → Sums
  row_of y z = sums_to e1 (λ x. f x y z)

  abbrev layer_of : ℕ → Sums
  layer_of z = sums_to e2 (λ y. row_of y z)

  -- the layers before, the rows of this layer before, the entries of this row before
  unfoldable pub so_far : Position → Sums
  so_far w =
      add_sums (add_sums (sums_to w.z layer_of) (sums_to w.y (λ y. row_of y w.z)))
      (sums_to w.x (λ x. f x w.y w.z))

  -- empty sums add nothing
  add-empty : (S : Sums) (g : ℕ → Sums) → S ≡ add_sums S (sums_to 0 g)
  add-empty S g = add_none S ∙ ap (add_sums S) (sums_none g)

  -- a whole row counts among the rows, a whole layer among the layers
  whole_row : (y z : ℕ)
      → add_sums (add_sums (sums_to z layer_of) (sums_to y (λ y. row_of y z))) (row_of y z)
      ≡ so_far (position 0 (y + 1) z)
  unfolding so_far
  whole_row y z =
      add-assoc-sums (sums_to z layer_of) (sums_to y (λ y. row_of y z)) (row_of y z)
      ∙ ap (add_sums (sums_to z layer_of)) (sums_next (λ y. row_of y z) y refl refl)
      ∙ add-empty _ (λ x. f x (y + 1) z)

  whole-layer : (z : ℕ) → so_far (position 0 e2 z) ≡ so_far (position 0 0 (z + 1))
  unfolding so_far
  whole-layer z =
      sym (add-empty _ (λ x. f x e2 z))
      ∙ sums_next layer_of z refl refl
      ∙ add-empty (sums_to (z + 1) layer_of) (λ y. row_of y (z + 1))
      ∙ add-empty _ (λ x. f x 0 (z + 1))

  -- of nothing
  pub so-far-none : no_sums ≡ so_far (position 0 0 0)
  unfolding so_far
  so-far-none =
      sums_none layer_of
      ∙ add-empty (sums_to 0 layer_of) (λ y. row_of y 0)
      ∙ add-empty _ (λ x. f x 0 0)

  -- of an entry more
  pub so-far-next : (w : Position) → w.x < e1 → w.y < e2
      → add_sums (so_far w) (f w.x w.y w.z) ≡ so_far (position_after w e1 e2)
  unfolding so_far
  so-far-next w lx ly =
      let rows = add_sums (sums_to w.z layer_of) (sums_to w.y (λ y. row_of y w.z)) in
      let entries : ℕ → Sums = λ x. f x w.y w.z in
      let one =
      add-assoc-sums rows (sums_to w.x entries) (entries w.x)
      ∙ ap (add_sums rows) (sums_next entries w.x refl refl) in
      after-cases w e1 e2 (λ k. add_sums (so_far w) (f w.x w.y w.z) ≡ so_far k)
      (λ a. one)
      (λ a b.
      let ex : w.x + 1 ≡ e1 = omega arith in
      one ∙ ap (λ (n : ℕ). add_sums rows (sums_to n entries)) ex ∙ whole_row w.y w.z)
      (λ a b.
      let ex : w.x + 1 ≡ e1 = omega arith in
      let ey : w.y + 1 ≡ e2 = omega arith in
      one
      ∙ ap (λ (n : ℕ). add_sums rows (sums_to n entries)) ex
      ∙ whole_row w.y w.z
      ∙ ap (λ (n : ℕ). so_far (position 0 n w.z)) ey
      ∙ whole-layer w.z)

  -- of all
  pub so-far-all : (e3 : ℕ) → so_far (position 0 0 e3) ≡ sums_to e3 layer_of
  unfolding so_far
  so-far-all e3 =
      sym (add-empty _ (λ x. f x 0 e3))
      ∙ sym (add-empty (sums_to e3 layer_of) (λ y. row_of y e3))

-- ---- searches

module _ (e1 e2 : ℕ) (f : ℕ → ℕ → ℕ → Found) where
  abbrev in_row : ℕ → ℕ → Found
  in_row y z = first_of e1 (λ x. f x y z)

  abbrev in_layer : ℕ → Found
  in_layer z = first_of e2 (λ y. in_row y z)

  -- nothing was found in the layers before, the rows of this layer before, the entries of this row before
  pub record NoneYet (w : Position) : Type 0 where
    pub layers : first_of w.z in_layer ≡ nowhere
    pub rows : first_of w.y (λ y. in_row y w.z) ≡ nowhere
    pub entries : first_of w.x (λ x. f x w.y w.z) ≡ nowhere

  -- at the start
  pub none_yet : NoneYet (position 0 0 0)
  none_yet = record { layers = first-of-none _; rows = first-of-none _; entries = first-of-none _ }

  -- after an entry where there is nothing
  pub none-next : (w : Position) → w.x < e1 → w.y < e2 → NoneYet w
      → f w.x w.y w.z ≡ nowhere → NoneYet (position_after w e1 e2)
  none-next w lx ly h e =
      let more = first-of-next (λ x. f x w.y w.z) w.x h.entries e in
      after-cases w e1 e2 NoneYet
      (λ a. record { layers = h.layers; rows = h.rows; entries = more })
      (λ a b.
      let ex : w.x + 1 ≡ e1 = omega arith in
      record {
        layers = h.layers;
        rows = first-of-next _ w.y h.rows (rw ex at more);
        entries = first-of-none _;
      })
      (λ a b.
      let ex : w.x + 1 ≡ e1 = omega arith in
      let ey : w.y + 1 ≡ e2 = omega arith in
      let row = first-of-next (λ y. in_row y w.z) w.y h.rows (rw ex at more) in
      record {
        layers = first-of-next _ w.z h.layers (rw ey at row);
        rows = first-of-none _;
        entries = first-of-none _;
      })

  -- what is found here is what the whole search finds
  pub found_here : (e3 : ℕ) (w : Position) (i : ℕ) → w.x < e1 → w.y < e2 → w.z < e3 → NoneYet w
      → f w.x w.y w.z ≡ at i → first_of e3 in_layer ≡ at i
  found_here e3 w i lx ly lz h e =
      first-of-hit _ e3 w.z i h.layers
      (first-of-hit _ e2 w.y i h.rows (first-of-hit _ e1 w.x i h.entries e lx) ly) lz
