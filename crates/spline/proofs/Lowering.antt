-- How the lowered remainder and the lowered place go with a step, with a whole degree back, and with another
-- lowering.
use mathlib.Core.Bool.{Bool, false, true}
use mathlib.Core.Logic.{◌≢◌}
use mathlib.Core.Path.{◌∙◌, ◌≡◌, ap, ap₂, fun_ext, refl, sym}
use Prim.Native.Nat.{◌+◌, ◌-◌, ◌<◌, ◌≤◌, suc, ℕ}
use native.Mathlib.Omega.{arith}
use lib.Dec.{T}
use lib.IntN.{pred_ℤ, suc-pred, suc_ℤ, ℤ}
use Rattle.sums.proofs.Cases.{by-ltb, by_order}
use Rattle.spline.proofs.Division.{compose-carry, compose-div-mod, compose-suc}
use Rattle.spline.proofs.Division.{div-compose, mod_below, mod-compose}
use Rattle.spline.proofs.Steps.{back, back-compose, back-stays, back_if, lowered-cells-back}
use Rattle.spline.specs.Build.{lowered_place}
use Rattle.spline.specs.Place.{Axis, Direction, Place, along, diagonal, moves}
use Rattle.spline.specs.Place.{compose, down_if, floor_div, floor_mod, up_if}
use Rattle.spline.specs.Rule.{composed, lower_above, lowered, remainder}

-- ---- the lowered remainder
-- a remainder above c is one less
pub above-lowers : (c x : ℕ) → c < x → lower_above c x ≡ x - 1
unfolding lower_above
above-lowers c x h = by-ltb (λ (n : ℕ). n ≡ x - 1) c x (x - 1) x (λ l. refl) (λ l. omega arith)

-- one that is not above c stays
pub below_stays : (c x : ℕ) → x ≤ c → lower_above c x ≡ x
unfolding lower_above
below_stays c x h = by-ltb (λ (n : ℕ). n ≡ x) c x (x - 1) x (λ l. omega arith) (λ l. refl)

-- none grows
pub lower_above-le : (c x : ℕ) → lower_above c x ≤ x
unfolding lower_above
lower_above-le c x = by-ltb (λ (n : ℕ). n ≤ x) c x (x - 1) x (λ l. omega arith) (λ l. omega arith)

lower_above-comm-lt : (c e x : ℕ) → c < e
    → lower_above (lower_above c e) (lower_above c x) ≡ lower_above (lower_above e c) (lower_above e x)
lower_above-comm-lt c e x h =
    ap₂ lower_above (above-lowers c e h) refl
    ∙ by_order x (suc c) low' (λ l. by_order e x (high l) (mid l))
    ∙ ap₂ lower_above (sym (below_stays e c (omega arith))) refl
  where
    Exchanged : Type 0
    Exchanged = lower_above (e - 1) (lower_above c x) ≡ lower_above c (lower_above e x)

    low' : x < suc c → Exchanged
    low' l =
        let stays : lower_above c x ≡ x = below_stays c x (omega arith) in
        rw (stays, below_stays e x (omega arith), stays) (below_stays (e - 1) x (omega arith))

    mid : suc c ≤ x → x ≤ e → Exchanged
    mid l k =
        rw (below_stays e x (omega arith), above-lowers c x (omega arith))
        (below_stays (e - 1) (x - 1) (omega arith))

    high : suc c ≤ x → e < x → Exchanged
    high l k =
        let once : lower_above c (x - 1) ≡ x - 1 - 1 = above-lowers c (x - 1) (omega arith) in
        rw (above-lowers e x (omega arith), above-lowers c x (omega arith), once)
        (above-lowers (e - 1) (x - 1) (omega arith))

-- two lowerings can be exchanged, where each remainder that is compared with was lowered by the other
pub lower_above-comm : (c e x : ℕ) → c ≢ e
    → lower_above (lower_above c e) (lower_above c x) ≡ lower_above (lower_above e c) (lower_above e x)
lower_above-comm c e x n =
    by_order c e (lower_above-comm-lt c e x) (λ l. sym (lower_above-comm-lt e c x (omega arith)))

-- what a step of one remainder, or of both, makes of the lowered one
pub lower_above-suc : (c u : ℕ) → c ≢ u → lower_above c (suc u) ≡ suc (lower_above c u)
lower_above-suc c u n = by_order c u
    (λ l. omega (arith, above-lowers c u l, above-lowers c (suc u) (omega arith)))
    (λ l. omega (arith, below_stays c u l, below_stays c (suc u) (omega arith)))

pub lower_above-both : (c u : ℕ) → lower_above (suc c) (suc u) ≡ suc (lower_above c u)
lower_above-both c u = by_order c u
    (λ l. omega (arith, above-lowers c u l, above-lowers (suc c) (suc u) (omega arith)))
    (λ l. omega (arith, below_stays c u l, below_stays (suc c) (suc u) (omega arith)))

-- the remainder 0 stays
pub lower_above-zero : (c : ℕ) → lower_above c 0 ≡ 0
lower_above-zero c = below_stays c 0 (omega arith)

-- ---- one step up, at modulus m + 1
module _ (m : ℕ) where
  abbrev cell_of : ℤ → ℤ
  cell_of z = floor_div (suc m) z

  abbrev rest_of : ℤ → ℕ
  rest_of z = floor_mod (suc m) z

  -- a coordinate lowered from degree m + 1 to m, by the rule F on its remainder
  abbrev pub lower_by : (ℕ → ℕ) → ℤ → ℤ
  lower_by F z = compose m (cell_of z) (F (rest_of z))

  suc-at : (z : ℤ) → suc_ℤ z ≡ compose (suc m) (cell_of z) (suc (rest_of z))
  suc-at z = ap suc_ℤ (sym (compose-div-mod m z)) ∙ sym (compose-suc (suc m) (cell_of z) (rest_of z))

  -- below the last remainder the step stays in the cell
  div-within : (z : ℤ) → rest_of z < m → cell_of (suc_ℤ z) ≡ cell_of z
  div-within z h = ap cell_of (suc-at z) ∙ div-compose m (cell_of z) (suc (rest_of z)) (omega arith)

  mod-within : (z : ℤ) → rest_of z < m → rest_of (suc_ℤ z) ≡ suc (rest_of z)
  mod-within z h = ap rest_of (suc-at z) ∙ mod-compose m (cell_of z) (suc (rest_of z)) (omega arith)

  -- from the last one it leads to the next cell's first place
  suc-top : (z : ℤ) → rest_of z ≡ m → suc_ℤ z ≡ compose (suc m) (suc_ℤ (cell_of z)) 0
  suc-top z h =
      suc-at z
      ∙ ap (compose (suc m) (cell_of z)) (omega arith)
      ∙ sym (compose-carry (suc m) (cell_of z) 0)

  div-top : (z : ℤ) → rest_of z ≡ m → cell_of (suc_ℤ z) ≡ suc_ℤ (cell_of z)
  div-top z h = ap cell_of (suc-top z h) ∙ div-compose m (suc_ℤ (cell_of z)) 0 (omega arith)

  mod-top : (z : ℤ) → rest_of z ≡ m → rest_of (suc_ℤ z) ≡ 0
  mod-top z h = ap rest_of (suc-top z h) ∙ mod-compose m (suc_ℤ (cell_of z)) 0 (omega arith)

  -- what stands at the next place, for any rule F on the remainder
  pub next : (z : ℤ) (F : ℕ → ℕ) (n : ℕ)
      → (rest_of z < m → F (suc (rest_of z)) ≡ n) → (rest_of z ≡ m → m + F 0 ≡ n)
      → lower_by F (suc_ℤ z) ≡ compose m (cell_of z) n
  next z F n f g = by_order (rest_of z) m
      (λ l. lower_at (div-within z l) (mod-within z l) ∙ ap (compose m (cell_of z)) (f l))
      (λ l. top (omega (arith, mod_below m z)))
    where
      lower_at : {k : ℤ} {u : ℕ} → cell_of (suc_ℤ z) ≡ k → rest_of (suc_ℤ z) ≡ u
          → lower_by F (suc_ℤ z) ≡ compose m k (F u)
      lower_at p r = ap₂ (λ (k : ℤ) (u : ℕ). compose m k (F u)) p r

      top : rest_of z ≡ m → lower_by F (suc_ℤ z) ≡ compose m (cell_of z) n
      top e =
          lower_at (div-top z e) (mod-top z e)
          ∙ compose-carry m (cell_of z) (F 0)
          ∙ ap (compose m (cell_of z)) (g e)

  -- where the remainder c of the lowering axis stays, a step on another axis is a step of the lowered
  -- coordinate, unless that axis has the remainder c
  pub along-free : (h : Bool) (z : ℤ) (c : ℕ) → c < suc m → (T h → c ≢ rest_of z)
      → lower_by (lower_above c) (up_if h z) ≡ up_if h (lower_by (lower_above c) z)
  along-free true z c l n =
      next z (lower_above c) (suc (lower_above c (rest_of z)))
      (λ k. lower_above-suc c (rest_of z) (n tt))
      (λ e. omega (arith, lower_above-zero c, n tt, above-lowers c (rest_of z) (omega (arith, n tt))))
      ∙ compose-suc m (cell_of z) (lower_above c (rest_of z))
  along-free false z c l n = refl

  -- then the lowered coordinate stays
  pub along_stuck : (h : Bool) (z : ℤ) (c : ℕ) → (T h → c ≡ rest_of z)
      → lower_by (lower_above c) (up_if h z) ≡ lower_by (lower_above c) z
  along_stuck true z c n =
      let stays : lower_above c (rest_of z) ≡ rest_of z = below_stays c (rest_of z) (omega (arith, n tt)) in
      next z (lower_above c) (lower_above c (rest_of z))
      (λ k. omega (arith, n tt, above-lowers c (suc (rest_of z)) (omega (arith, n tt))))
      (λ e. omega (arith, lower_above-zero c))
  along_stuck false z c n = refl

  -- lowered along the diagonal, a coordinate goes with a step, unless it is a cell's last
  pub diag-free : (h : Bool) (z : ℤ) → (T h → rest_of z < m)
      → lower_by (λ u. u) (up_if h z) ≡ up_if h (lower_by (λ u. u) z)
  diag-free true z n =
      next z (λ u. u) (suc (rest_of z)) (λ l. refl) (λ e. omega (arith, n tt))
      ∙ compose-suc m (cell_of z) (rest_of z)
  diag-free false z n = refl

  -- from a cell's last place it stays
  pub diag-stuck : (h : Bool) (z : ℤ) → (T h → rest_of z ≡ m)
      → lower_by (λ u. u) (up_if h z) ≡ lower_by (λ u. u) z
  diag-stuck true z n = next z (λ u. u) (rest_of z) (λ l. omega (arith, n tt)) (λ e. omega arith)
  diag-stuck false z n = refl

  -- so it does where both axes step, unless the lowering axis is at a cell's last place
  pub both-free : (y z : ℤ) → rest_of y < m
      → lower_by (lower_above (rest_of (suc_ℤ y))) (suc_ℤ z) ≡ suc_ℤ (lower_by (lower_above (rest_of y)) z)
  both-free y z h =
      let c : ℕ = rest_of y in
      rw (mod-within y h)
      (next z (lower_above (suc c)) (suc (lower_above c (rest_of z)))
      (λ k. lower_above-both c (rest_of z))
      (λ e. omega (arith, lower_above-zero (suc c), above-lowers c (rest_of z) (omega arith)))
      ∙ compose-suc m (cell_of z) (lower_above c (rest_of z)))

  -- then it stays
  pub both-stuck : (y z : ℤ) → rest_of y ≡ m
      → lower_by (lower_above (rest_of (suc_ℤ y))) (suc_ℤ z) ≡ lower_by (lower_above (rest_of y)) z
  both-stuck y z h =
      let stays : lower_above (rest_of y) (rest_of z) ≡ rest_of z
      = below_stays (rest_of y) (rest_of z) (omega (arith, mod_below m z)) in
      rw (mod-top y h)
      (next z (lower_above 0) (lower_above (rest_of y) (rest_of z))
      (λ k. omega (arith, above-lowers 0 (suc (rest_of z)) (omega arith)))
      (λ e. omega (arith, lower_above-zero 0)))

-- ---- one whole degree back
back-join : (g : ℕ) (h : Bool) (k : ℤ) (w : ℕ) → compose g (down_if h k) w ≡ back_if g h (compose g k w)
back-join g true k w =
    let carried : compose g (pred_ℤ k) (g + w) ≡ compose g k w
    = sym (compose-carry g (pred_ℤ k) w) ∙ ap (λ (j : ℤ). compose g j w) (suc-pred k) in
    sym (back-compose g g (pred_ℤ k) w) ∙ ap (back_if g true) carried
back-join g false k w = sym (back-stays g (compose g k w))

-- L(q − m d') = L(q) − (m−1) d', for any two directions
pub lowered-whole-back : (d e : Direction) (g : ℕ) (q : Place)
    → lowered_place d g (back e (suc g) q) ≡ back e g (lowered_place d g q)
lowered-whole-back d e g q =
    lowered-cells-back d e g q
    ∙ fun_ext (λ b. back-join g (moves e b) (floor_div (suc g) (q b)) (lowered d (remainder (suc g) q) b))

-- ---- lowering a place that is given by cell and remainder
lowered-axis : (g : ℕ) (k : ℤ) (c w : ℕ) → w ≤ suc g → c < suc g
    → lower_by g (lower_above c) (compose (suc g) k w) ≡ compose g k (lower_above c w)
lowered-axis g k c w h l = by_order w (suc g)
    (λ r. lower_at (div-compose g k w r) (mod-compose g k w r))
    (λ r. top (omega arith))
  where
    z : ℤ
    z = compose (suc g) k w

    lower_at : {j : ℤ} {u : ℕ} → floor_div (suc g) z ≡ j → floor_mod (suc g) z ≡ u
        → lower_by g (lower_above c) z ≡ compose g j (lower_above c u)
    lower_at p r = ap₂ (λ (j : ℤ) (u : ℕ). compose g j (lower_above c u)) p r

    top : w ≡ suc g + 0 → lower_by g (lower_above c) z ≡ compose g k (lower_above c w)
    top e =
        let f : z ≡ compose (suc g) (suc_ℤ k) 0 = ap (compose (suc g) k) e ∙ sym (compose-carry (suc g) k 0) in
        lower_at
        (ap (floor_div (suc g)) f ∙ div-compose g (suc_ℤ k) 0 (omega arith))
        (ap (floor_mod (suc g)) f ∙ mod-compose g (suc_ℤ k) 0 (omega arith))
        ∙ compose-carry g k (lower_above c 0)
        ∙ ap (compose g k) (omega (arith, lower_above-zero c, above-lowers c w (omega arith)))

-- lowered in an axis' direction, a place keeps its cells and has its remainders lowered; these may be a whole
-- degree, but on that axis
pub lowered-along : (a : Axis) (g : ℕ) (k : Axis → ℤ) (w : Axis → ℕ)
    → ((b : Axis) → w b ≤ suc g) → w a < suc g
    → lowered_place (along a) g (composed (suc g) k w) ≡ composed g k (lowered (along a) w)
lowered-along a g k w h l = fun_ext (λ b.
    ap (λ (c : ℕ). lower_by g (lower_above c) (compose (suc g) (k b) (w b))) (mod-compose g (k a) (w a) l)
    ∙ lowered-axis g (k b) (w a) (w b) (h b) l)

-- lowered along the diagonal it keeps both
pub lowered-diagonal : (g : ℕ) (k : Axis → ℤ) (w : Axis → ℕ) → ((b : Axis) → w b < suc g)
    → lowered_place diagonal g (composed (suc g) k w) ≡ composed g k w
lowered-diagonal g k w h =
    fun_ext (λ b. ap₂ (compose g) (div-compose g (k b) (w b) (h b)) (mod-compose g (k b) (w b) (h b)))
