-- A net as a list over its box, and a list read as a net.
use mathlib.Core.List.{List}
use mathlib.Core.Path.{◌∙◌, ◌≡◌, ap, fun_ext, refl, subst, sym}
use Prim.Native.Nat.{◌%◌, ◌/◌, ◌<◌, ◌≤◌, ℕ}
use native.Mathlib.Omega.{arith}
use lib.IntN.{negsuc, pos, ℤ}
use lib.ListN.{get_or, length, take}
use lib.Seq.{ext_get_or, get_or-take, length-take-le}
use Rattle.sums.proofs.Cases.{by-ltb}
use Rattle.sums.proofs.Fill.{length-tabulate, tabulate-at}
use Rattle.sums.proofs.Places.{index_back, index_in, place_in, place-x, place-y, place-z}
use Rattle.spline.proofs.Coordinates.{place-cong}
use Rattle.spline.proofs.Low.{Low, ZeroLow}
use Rattle.spline.proofs.Solution.{Below, Vanishes}
use Rattle.spline.proofs.Support.{High}
use Rattle.spline.specs.Box.{in_box, index, net_list, place_of, places, spread}
use Rattle.spline.specs.Place.{Axis, Net, Place, a1, a2, a3, place}

-- ---- the list of a net
module _ (W : Axis → ℕ) (C : Net) where
  -- it has a number for each place
  pub length-net_list : length (net_list W C) ≡ places W
  unfolding net_list
  length-net_list = length-tabulate (λ i. C (place_of W i)) (places W)

  -- the one at the index is that of the index' place
  pub net_list-at : (i : ℕ) → i < places W → get_or (net_list W C) i 0 ≡ C (place_of W i)
  unfolding net_list
  net_list-at i h = tabulate-at (λ k. C (place_of W k)) (places W) i 0 h

-- the place of a place's index is the place
pub place_of-index : (W : Axis → ℕ) (x y z : ℕ) → x < W a1 → y < W a2
    → place_of W (index W x y z) ≡ place (pos x) (pos y) (pos z)
place_of-index W x y z hx hy = place-cong
    (ap pos (place-x (W a1) (W a2) x y z hx hy))
    (ap pos (place-y (W a1) (W a2) x y z hx hy))
    (ap pos (place-z (W a1) (W a2) x y z hx hy))

-- ---- a list read as a net
within_box : (w : ℕ) (z : ℤ) (f : ℕ → ℕ) (v : ℕ) → (Low z → v ≡ 0) → (High w z → v ≡ 0)
    → ((n : ℕ) → z ≡ pos n → n < w → f n ≡ v) → in_box w z f ≡ v
within_box w (pos n) f v l h g = by-ltb (λ (x : ℕ). x ≡ v) n w (f n) 0 (g n refl) (λ k. sym (h k))
within_box w (negsuc n) f v l h g = sym (l tt)

nought : (w : ℕ) (z : ℤ) (f : ℕ → ℕ) → ((n : ℕ) → f n ≡ 0) → in_box w z f ≡ 0
nought w (pos n) f h = by-ltb (λ (x : ℕ). x ≡ 0) n w (f n) 0 (λ k. h n) (λ k. refl)
nought w (negsuc n) f h = refl

place-eta : (q : Place) → place (q a1) (q a2) (q a3) ≡ q
place-eta q = fun_ext go
  where
    go : (b : Axis) → place (q a1) (q a2) (q a3) b ≡ q b
    go a1 = refl
    go a2 = refl
    go a3 = refl

module _ (W : Axis → ℕ) (s : List ℕ) where
  -- within the box it is the list's number at the index
  pub spread_at : (x y z : ℕ) → x < W a1 → y < W a2 → z < W a3
      → spread W s (place (pos x) (pos y) (pos z)) ≡ get_or s (index W x y z) 0
  unfolding spread
  spread_at x y z lx ly lz =
      inside (W a1) x (λ x. in_box (W a2) (pos y) (line x)) lx
      ∙ inside (W a2) y (line x) ly
      ∙ inside (W a3) z (λ z. get_or s (index W x y z) 0) lz
    where
      line : ℕ → ℕ → ℕ
      line x y = in_box (W a3) (pos z) (λ z. get_or s (index W x y z) 0)

      inside : (w n : ℕ) (f : ℕ → ℕ) → n < w → in_box w (pos n) f ≡ f n
      inside w n f l = by-ltb (λ (x : ℕ). x ≡ f n) n w (f n) 0 (λ k. refl) (λ k. omega arith)

  -- at negative coordinates it is 0
  pub spread-vanishes : Vanishes 0 (spread W s)
  unfolding spread
  spread-vanishes = record { far = go }
    where
      below : (w : ℕ) (z : ℤ) (f : ℕ → ℕ) → Below 0 z → in_box w z f ≡ 0
      below w (negsuc n) f h = refl
      below w (pos _) f h = elim h [ ]

      go : (q : Place) (b : Axis) → Below 0 (q b) → spread W s q ≡ 0
      go q a1 h = below (W a1) (q a1) _ h
      go q a2 h = nought (W a1) (q a1) _ (λ x. below (W a2) (q a2) _ h)
      go q a3 h = nought (W a1) (q a1) _ (λ x. nought (W a2) (q a2) _ (λ y. below (W a3) (q a3) _ h))

  -- and past the box
  pub spread-outside : (q : Place) (b : Axis) → High (W b) (q b) → spread W s q ≡ 0
  unfolding spread
  spread-outside = go
    where
      above : (w : ℕ) (z : ℤ) (f : ℕ → ℕ) → High w z → in_box w z f ≡ 0
      above w (pos n) f h = by-ltb (λ (x : ℕ). x ≡ 0) n w (f n) 0 (λ k. absurd (omega arith)) (λ k. refl)
      above w (negsuc _) f h = elim h [ ]

      go : (q : Place) (b : Axis) → High (W b) (q b) → spread W s q ≡ 0
      go q a1 h = above (W a1) (q a1) _ h
      go q a2 h = nought (W a1) (q a1) _ (λ x. above (W a2) (q a2) _ h)
      go q a3 h = nought (W a1) (q a1) _ (λ x. nought (W a2) (q a2) _ (λ y. above (W a3) (q a3) _ h))

  -- a net that is 0 outside the box, and whose list over the box the slice's first places are
  module _ (C : Net) (low : ZeroLow C) (high : (q : Place) (b : Axis) → High (W b) (q b) → C q ≡ 0) where
    -- the list, read as a net, is that net
    pub spread-list : take (places W) s ≡ net_list W C → spread W s ≡ C
    unfolding spread
    spread-list e = fun_ext (λ q.
        within_box (W a1) (q a1) _ (C q) (low.zero_low q a1) (high q a1) (λ x ex lx.
        within_box (W a2) (q a2) _ (C q) (low.zero_low q a2) (high q a2) (λ y ey ly.
        within_box (W a3) (q a3) _ (C q) (low.zero_low q a3) (high q a3) (λ z ez lz.
        number x y z lx ly lz ∙ ap C (rw (← ex, ← ey, ← ez) (place-eta q))))))
      where
        number : (x y z : ℕ) → x < W a1 → y < W a2 → z < W a3
            → get_or s (index W x y z) 0 ≡ C (place (pos x) (pos y) (pos z))
        number x y z lx ly lz =
            let l : index W x y z < places W = index_in (W a1) (W a2) (W a3) x y z lx ly lz in
            sym (get_or-take (places W) s (index W x y z) 0 l)
            ∙ ap (λ (r : List ℕ). get_or r (index W x y z) 0) e
            ∙ net_list-at W C (index W x y z) l
            ∙ ap C (place_of-index W x y z lx ly)

  -- a list that holds the box begins with the numbers of the net that it reads as
  pub list-spread : places W ≤ length s → take (places W) s ≡ net_list W (spread W s)
  list-spread room =
      ext_get_or 0 (take (places W) s) (net_list W (spread W s)) (len ∙ sym (length-net_list W (spread W s)))
      (λ i l. number i (subst (λ (n : ℕ). i < n) len l))
    where
      len : length (take (places W) s) ≡ places W
      len = length-take-le (places W) s room

      number : (i : ℕ) → i < places W → get_or (take (places W) s) i 0 ≡ get_or (net_list W (spread W s)) i 0
      number i l =
          let b = place_in (W a1) (W a2) (W a3) i l in
          get_or-take (places W) s i 0 l
          ∙ ap (λ (k : ℕ). get_or s k 0) (sym (index_back (W a1) (W a2) i))
          ∙ sym (spread_at (i % W a1) (i / W a1 % W a2) (i / W a1 / W a2) b.0 b.1 b.2)
          ∙ sym (net_list-at W (spread W s) i l)
