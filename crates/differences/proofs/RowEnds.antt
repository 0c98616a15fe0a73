-- A row of a box by the place where it ends in the box's list.
use mathlib.Core.List.{List}
use mathlib.Core.Logic.{◌⊎◌, inl, inr, ⊎_elim}
use mathlib.Core.Path.{◌∙◌, ◌≡◌, ap, ap₂, refl, sym}
use Prim.Native.Nat.{◌*◌, ◌+◌, ◌-◌, ◌<◌, ◌≤◌, ℕ}
use native.Mathlib.Omega.{arith}
use lib.IntN.{negsuc, pos, ℤ}
use lib.ListN.{get_or}
use Rattle.sums.proofs.Cases.{by-ltb, by_order}
use Rattle.spline.proofs.Box.{spread_at, spread-outside, spread-vanishes}
use Rattle.spline.proofs.Solution.{Below}
use Rattle.spline.specs.Box.{places, spread}
use Rattle.spline.specs.Place.{Axis, a1, a2, a3, place}
use Rattle.shape.proofs.Rows.{row_within}
use Rattle.differences.specs.Inner.Rows.{row_end}

module _ (W : Axis → ℕ) where
  -- ---- the two cases of a row
  -- in the box, by naturals
  pub record Inside (y z : ℤ) (e : ℕ) : Type 0 where
    pub row : ℕ
    pub layer : ℕ
    pub y-is : y ≡ pos row
    pub z-is : z ≡ pos layer
    pub row_low : row < W a2
    pub layer-low : layer < W a3
    pub end_is : e ≡ W a1 * (row + W a2 * layer) + W a1

  -- outside it, where all numbers are 0
  pub record Outside (y z : ℤ) (e : ℕ) : Type 0 where
    pub end-zero : e ≡ 0
    pub numbers : (s : List ℕ) (x : ℤ) → spread W s (place x y z) ≡ 0

  -- a row of the box ends where its places do
  pub end-inside : (y z : ℕ) → y < W a2 → z < W a3 → row_end W (pos y) (pos z) ≡ W a1 * (y + W a2 * z) + W a1
  unfolding row_end
  end-inside y z hy hz =
      let Is : ℕ → Type 0 = λ n. n ≡ W a1 * (y + W a2 * z) + W a1 in
      by-ltb Is y (W a2) _ 0
      (λ l. by-ltb Is z (W a3) _ 0 (λ k. refl) (λ k. absurd (omega arith)))
      (λ l. absurd (omega arith))

  -- the end is 0 where y is past the box
  pub end-right : (y z : ℕ) → W a2 ≤ y → row_end W (pos y) (pos z) ≡ 0
  unfolding row_end
  end-right y z h = by-ltb (λ (n : ℕ). n ≡ 0) y (W a2) _ 0 (λ l. absurd (omega arith)) (λ l. refl)

  -- where z is past the box
  pub end-above : (y : ℤ) (z : ℕ) → W a3 ≤ z → row_end W y (pos z) ≡ 0
  unfolding row_end
  end-above (negsuc y) z h = refl
  end-above (pos y) z h =
      by-ltb (λ (n : ℕ). n ≡ 0) y (W a2) _ 0
      (λ l. by-ltb (λ (n : ℕ). n ≡ 0) z (W a3) _ 0 (λ k. absurd (omega arith)) (λ k. refl))
      (λ l. refl)

  -- where y is negative
  pub end-left : (y z : ℤ) → Below 0 y → row_end W y z ≡ 0
  unfolding row_end
  end-left (negsuc y) z h = refl
  end-left (pos _) z h = elim h [ ]

  -- and where z is negative
  pub end_below : (y z : ℤ) → Below 0 z → row_end W y z ≡ 0
  unfolding row_end
  end_below (negsuc y) (negsuc z) h = refl
  end_below (pos y) (negsuc z) h = by-ltb (λ (n : ℕ). n ≡ 0) y (W a2) _ 0 (λ l. refl) (λ l. refl)
  end_below (pos y) (pos _) h = elim h [ ]
  end_below (negsuc y) (pos _) h = elim h [ ]

  -- every row is in the box or outside it
  view : (y z : ℤ) (e : ℕ) → e ≡ row_end W y z → Outside y z e ⊎ Inside y z e
  view (negsuc y) z e h = inl (record {
    end-zero = h ∙ end-left (negsuc y) z (omega arith);
    numbers = λ s x. (spread-vanishes W s).far (place x (negsuc y) z) a2 (omega arith);
  })
  view (pos y) (negsuc z) e h = inl (record {
    end-zero = h ∙ end_below (pos y) (negsuc z) (omega arith);
    numbers = λ s x. (spread-vanishes W s).far (place x (pos y) (negsuc z)) a3 (omega arith);
  })
  view (pos y) (pos z) e h =
      by_order y (W a2)
      (λ l. by_order z (W a3) (λ k. inr (inside l k)) (λ k. inl (above k)))
      (λ l. inl (right l))
    where
      inside : y < W a2 → z < W a3 → Inside (pos y) (pos z) e
      inside l k = record {
        row = y;
        layer = z;
        y-is = refl;
        z-is = refl;
        row_low = l;
        layer-low = k;
        end_is = h ∙ end-inside y z l k;
      }

      above : W a3 ≤ z → Outside (pos y) (pos z) e
      above k = record {
        end-zero = h ∙ end-above (pos y) z k;
        numbers = λ s x. spread-outside W s (place x (pos y) (pos z)) a3 k;
      }

      right : W a2 ≤ y → Outside (pos y) (pos z) e
      right l = record {
        end-zero = h ∙ end-right y z l;
        numbers = λ s x. spread-outside W s (place x (pos y) (pos z)) a2 l;
      }

  -- ---- what is read of a row
  module _ (y z : ℤ) (e : ℕ) (h : e ≡ row_end W y z) where
    -- a row whose end is not 0 is one of the box's places
    pub end-in : 1 ≤ e → (W a1 ≤ e) × (e ≤ places W)
    end-in l = ⊎_elim (λ o. absurd (omega (arith, o.end-zero))) inside (view y z e h)
      where
        inside : Inside y z e → (W a1 ≤ e) × (e ≤ places W)
        inside i =
            let within = row_within (W a1) (W a2) (W a3) i.row i.layer i.row_low i.layer-low in
            (omega (arith, i.end_is), omega (arith, i.end_is, within))

    module _ (s : List ℕ) where
      -- where the end is 0, all numbers of the row are 0
      pub no_row : 1 ≤ W a1 → e ≡ 0 → (x : ℤ) → 0 ≡ spread W s (place x y z)
      no_row p k x =
          ⊎_elim (λ o. sym (o.numbers s x)) (λ i. absurd (omega (arith, i.end_is))) (view y z e h)

      -- past the row's places the numbers are 0
      pub past_row : (x : ℕ) → W a1 ≤ x → 0 ≡ spread W s (place (pos x) y z)
      past_row x l = sym (spread-outside W s (place (pos x) y z) a1 l)

      -- at a place of the row the number stands as far from the row's begin
      pub in_row : (x : ℕ) → 1 ≤ e → x < W a1 → get_or s (e - W a1 + x) 0 ≡ spread W s (place (pos x) y z)
      in_row x l hx = ⊎_elim (λ o. absurd (omega (arith, o.end-zero))) inside (view y z e h)
        where
          inside : Inside y z e → get_or s (e - W a1 + x) 0 ≡ spread W s (place (pos x) y z)
          inside i =
              let n : e - W a1 + x ≡ x + W a1 * (i.row + W a2 * i.layer) = omega (arith, i.end_is) in
              ap (λ (k : ℕ). get_or s k 0) n
              ∙ sym (spread_at W s x i.row i.layer hx i.row_low i.layer-low)
              ∙ ap₂ (λ (b c : ℤ). spread W s (place (pos x) b c)) (sym i.y-is) (sym i.z-is)
