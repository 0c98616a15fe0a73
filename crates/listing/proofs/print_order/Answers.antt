-- `print_order` meets its contract: what the build left is listed, or its refusal is told.
use mathlib.Core.List.{List}
use mathlib.Core.Path.{◌∙◌, ◌≡◌, ap, refl, subst, sym}
use Prim.Native.Nat.{ℕ}
use native.Mathlib.Omega.{arith}
use lib.ListN.{get_or, length}
use Rattle.text.specs.Put.{Put}
use Rattle.spline.specs.Multiplicities.{order_multiplicities}
use Rattle.unit.specs.Unit.{empty_unit, net_of, with_net}
use Rattle.unit.specs.declared.Unit.{Unit}
use Rattle.builds.specs.Build.{build_answer}
use Rattle.orders.specs.Order.{build_checks}
use Rattle.lines.specs.Lines.{refused_text}
use Rattle.listing.proofs.Built.{listed, listed-length, listed-text}
use Rattle.listing.proofs.Printed.{printed-refused}
use Rattle.listing.specs.Inner.Fit.{Listed}
use Rattle.listing.specs.Print.{net_text}
use Rattle.listing.proofs.print_order.Goals as goal
use Rattle.listing.proofs.print_order.Goals.{After-build}
use Rattle.checks.specs.Checks.{Checked, no_refusal, passed_or}
use Rattle.std.specs.Prelude.{Err, Ok}
use Rattle.checks.proofs.Checks.{made-by, refused-by}

-- once the build has answered
module _ (c : After-build) where
  abbrev typed : List ℕ
  typed = c.args.order.now

  abbrev net : List ℕ
  net = c.build.new.net

  abbrev checks : Checked
  checks = build_checks typed 9261 9261

  abbrev changed : Unit
  changed = with_net empty_unit (order_multiplicities typed)

  answered : c.build.result ≡ passed_or checks (Ok changed) Err
  unfolding build_answer
  answered =
      c.build.ensures.answer
      ∙ ap (λ (u : Unit). build_answer u typed 9261 9261) c.empty.ensures

  -- a unit comes where the checks pass
  made : (u : Unit) → c.build.result ≡ Ok u → (checks ≡ no_refusal) × (u ≡ changed)
  made u e = made-by checks _ (sym answered ∙ e)

pub put_net-requires : goal.put_net-requires
put_net-requires c =
    let here = (goal.at.put_net-requires c).After-build in
    let m = made here _ c.in-Ok.is in
    subst (λ (u : Unit). Listed u (net here)) (sym m.1)
    (listed (typed here) m.0 _ (net here) refl c.build.ensures.net)

pub returns-in-Ok : goal.returns-in-Ok
returns-in-Ok c =
    let here = (goal.at.returns-in-Ok c).After-build in
    let m = made here _ c.in-Ok.is in
    let p = c.put_net in (
      subst (λ (t : List ℕ). Put t c.args.out.now p.new.out 0 p.result)
          (ap (λ (u : Unit). net_text (net_of u) (λ i. get_or (net here) i 0)) m.1
          ∙ listed-text (typed here) m.0 _ (net here) refl c.build.ensures.net)
          p.ensures,
      listed-length (typed here) m.0 _ (net here) refl c.build.ensures.net,
    )

pub returns-in-Err : goal.returns-in-Err
returns-in-Err c =
    let here = (goal.at.returns-in-Err c).After-build in
    let p = c.put_refusal in
    let given = c.in-Err.is in
    let e = refused-by (checks here) _ (sym (answered here) ∙ given) in
    let same = ap refused_text c.number.ensures ∙ sym (printed-refused (typed here) _ e) in (
      subst (λ (t : List ℕ). Put t c.args.out.now p.new.out 0 p.result) same p.ensures.0,
      omega (arith, ap length same, p.ensures.1),
    )
