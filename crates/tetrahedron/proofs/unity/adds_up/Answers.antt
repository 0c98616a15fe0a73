-- Each of the sums is the whole share; past degree 9 there are none to see.
use mathlib.Core.Bool.{Bool, false, true}
use mathlib.Core.List.{List}
use mathlib.Core.Path.{◌∙◌, ◌≡◌, refl, sym}
use Prim.Native.Nat.{◌<◌, ◌≤◌, ℕ}
use native.Mathlib.Omega.{arith}
use borrow.Author.Tests.{eq-eqb, eqb-true, lt-ltb}
use lib.Dec.{eqb}
use lib.ListN.{get_or, length, length-take, take}
use lib.Seq.{get_or-take}
use Rattle.std.proofs.Common.{◌↔◌, rules}
use Rattle.sums.proofs.Search.{all-at, all_from, all_none}
use Rattle.sums.specs.Coefficient.{factorial}
use Rattle.sums.specs.Fill.{number_at}
use Rattle.sums.specs.Search.{all_to}
use Rattle.tetrahedron.proofs.Numbers.{count-few}
use Rattle.tetrahedron.specs.LocalPlaces.{local_places}
use Rattle.tetrahedron.specs.Unity.{whole_at}
use Rattle.tetrahedron.proofs.unity.adds_up.Goals as goal

-- two tests that pass together are one
together : (a b : Bool) → (a ≡ true → b ≡ true) → (b ≡ true → a ≡ true) → a ≡ b
together true b f g = sym (f refl)
together false true f g = g refl
together false false f g = refl

-- the test over as many as there are, against the whole share
whole_by : (m count full : ℕ) (shares : List ℕ) (answer : Bool) → count ≡ local_places m → full ≡ factorial m
    → count ≤ length shares
    → (answer ≡ true ↔ ((i : ℕ) → i < length (take count shares) → get_or (take count shares) i 0 ≡ full))
    → answer ≡ whole_at m (number_at shares)
unfolding whole_at
whole_by m count full shares answer n f room says =
    rw (← n, ← f)
    (together answer (all_to count (λ t. eqb (get_or shares t 0) full))
    (λ h. all_from count _ (λ i l. eq-eqb _ _ (sym (get_or-take count shares i 0 l)
    ∙ says.0 h i (omega (arith, length-take count shares)))))
    (λ h. says.1 (λ i l. let k : i < count = omega (arith, length-take count shares) in
    get_or-take count shares i 0 k ∙ eqb-true _ _ (all-at count _ h i k))))

none-past : (m : ℕ) (shares : ℕ → ℕ) → 9 < m → true ≡ whole_at m shares
unfolding whole_at local_places
none-past m shares h = rw (lt-ltb 9 m h) (sym (all_none (λ t. eqb (shares t) (factorial m))))

pub returns-then-m-gt9 : goal.returns-then-m-gt9
returns-then-m-gt9 c = none-past _ _ c.if-m-gt9.true

pub shared_ref_as_front-iter : goal.shared_ref_as_front-iter
shared_ref_as_front-iter c = rw c.local_places-count.ensures (count-few _)

pub returns : goal.returns
returns c =
    let n = c.local_places-count.result in
    let full = c.factorial_of-full.result in
    let shares = c.args.shares.now in
    let says
    : c.all.result ≡ true ↔ ((i : ℕ) → i < length (take n shares) → get_or (take n shares) i 0 ≡ full)
    = search rules in
    whole_by c.args.m n full shares c.all.result c.local_places-count.ensures c.factorial_of-full.ensures
    (omega (arith, count-few c.args.m, c.local_places-count.ensures)) says
