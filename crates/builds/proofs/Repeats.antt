-- All bytes of an order taken up: the halves of its repeats in turn make its net.
use mathlib.Core.List.{List, [], ◌∷◌}
use mathlib.Core.Path.{◌∙◌, ◌≡◌, ap, refl, sym}
use Prim.Native.Nat.{◌+◌, ◌<◌, ◌≤◌, suc, zero, ℕ}
use native.Mathlib.Omega.{arith}
use lib.IntN.{ℤ}
use lib.ListN.{drop, get_or, length, take}
use lib.Seq.{drop-length, take-length}
use Rattle.spline.specs.Build.{direction}
use Rattle.spline.specs.Multiplicities.{Multiplicities, more, order_multiplicities}
use Rattle.spline.specs.Place.{Direction}
use Rattle.shape.specs.Shape.{shape_of}
use Rattle.differences.proofs.PassFits.{differences-length}
use Rattle.summations.proofs.PassFits.{sums-length}
use Rattle.orders.proofs.Orders.{bytes_next, multiplicities-next}
use Rattle.builds.proofs.OrderNets.{net_over}
use Rattle.builds.proofs.TakenUp.{in-turn, taken-up}
use Rattle.orders.specs.Inner.GoodOrder.{GoodOrder}
use Rattle.orders.specs.Order.{order_places}
use Rattle.builds.specs.Repeat.{Slices, net_repeated, repeats, slices, taken_up, work_between}

-- ---- lengths

module _ (d : Direction) (v : Multiplicities) (net : List ℕ) (work : List ℤ) where
  -- a repeat keeps the length of the net slice
  pub net-length : length (net_repeated d v net work) ≡ length net
  net-length =
      ap length (in-turn d v net work) ∙ sums-length d (shape_of (more d v)) net (work_between d v net work)

  -- and that of the work slice
  pub work-length : length (work_between d v net work) ≡ length work
  work-length = differences-length d (shape_of v) (shape_of (more d v)) net work

-- so do all of them
repeats-length : (bytes : List ℕ) (v : Multiplicities) (s : Slices)
    → length (repeats bytes v s).work ≡ length s.work
unfolding repeats
repeats-length [] v s = refl
repeats-length (b ∷ bytes) v s = repeats-length bytes _ _ ∙ work-length _ v s.net s.work

pub taken-length : (order net : List ℕ) (work : List ℤ)
    → length (taken_up order net work).work ≡ length work
unfolding taken_up
taken-length order net work = repeats-length _ _ _

-- ---- from byte to byte

-- past its end an order has nothing to take up
pub none_left : (o : List ℕ) (t : ℕ) (v : Multiplicities) (s : Slices) → t ≡ length o
    → repeats (drop t o) v s ≡ s
unfolding repeats
none_left o t v s e =
    ap (λ (bytes : List ℕ). repeats bytes v s) (ap (λ (n : ℕ). drop n o) e ∙ drop-length o)

-- where byte t is taken up, the bytes after it are left
pub one_less : (o : List ℕ) (t : ℕ) (l : t < length o)
    (v w : Multiplicities) (net after : List ℕ) (work between : List ℤ)
    → w ≡ more (direction (get_or o t 0)) v
    → between ≡ work_between (direction (get_or o t 0)) v net work
    → after ≡ net_repeated (direction (get_or o t 0)) v net work
    → repeats (drop (t + 1) o) w (slices after between) ≡ repeats (drop t o) v (slices net work)
unfolding repeats
one_less o t l v w net after work between ew eb ea = rw (ew, eb, ea, bytes_next o t l)

-- ---- from the simple net to that of the order

module _ (o : List ℕ) (good : GoodOrder o) (base : List ℕ) (room : order_places o ≤ length base) where
  -- where the net slice holds what the first t bytes build, the repeats of the others lead to the whole net
  rest : (n t : ℕ) → t + n ≡ length o → (work : List ℤ) → order_places o ≤ length work
      → (repeats (drop t o) (order_multiplicities (take t o)) (slices (net_over (take t o) base) work)).net
      ≡ net_over (take (length o) o) base
  rest zero t e work w =
      let end : t ≡ length o = omega arith in
      ap (λ (s : Slices). s.net) (none_left o t _ (slices (net_over (take t o) base) work) end)
      ∙ ap (λ (n : ℕ). net_over (take n o) base) end
  rest (suc n) t e work w =
      let l : t < length o = omega arith in
      let d = direction (get_or o t 0) in
      let v = order_multiplicities (take t o) in
      let net = net_over (take t o) base in
      let between = work_between d v net work in
      ap (λ (s : Slices). s.net)
      (sym (one_less o t l v _ net _ work between
      (multiplicities-next o t l) refl (sym (taken-up o good t l base work room w))))
      ∙ rest n (t + 1) (omega arith) between (omega (arith, work-length d v net work))

  -- so all of them, from the simple net
  pub all-taken : (work : List ℤ) → order_places o ≤ length work → (taken_up o base work).net ≡ net_over o base
  unfolding taken_up
  all-taken work w =
      rest (length o) 0 (omega arith) work w ∙ ap (λ (p : List ℕ). net_over p base) (take-length o)
