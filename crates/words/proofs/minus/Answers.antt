-- A difference is 2^32 more than none that is negative, and signed_word reads its bits as the cast does.
use mathlib.Core.Path.{◌∙◌, ◌≡◌, ap, sym}
use Prim.Native.Nat.{◌+◌, ◌-◌, ◌<◌, ◌≤◌, ℕ}
use native.Mathlib.Nat.{mod-lt}
use native.Mathlib.Omega.{arith}
use borrow.Author.Tests.{le-ltb, lt-ltb}
use lib.IntN.{◌+ℤ◌, ◌-ℤ◌, pos}
use mir.Facts.{to_z-of_z}
use mir.Syntax.{w32}
use mir.Val.{SFits, to_z}
use Rattle.sums.proofs.Cases.{by_order}
use Rattle.sums.proofs.Signed.{is-add, is-diff, is_pos, same}
use Rattle.sums.proofs.Words.{word-up}
use Rattle.sums.specs.Word.{signed_word}
use Rattle.words.proofs.minus.Goals as goal

up : (a b : ℕ) → b ≤ 4294967296 → pos a -ℤ pos b +ℤ pos 4294967296 ≡ pos (a + (4294967296 - b))
up a b h = same (is-add (is-diff (is_pos a) (is_pos b)) (is_pos 4294967296)) (is_pos _) (omega arith)

as_cast : (n : ℕ) → n < 4294967296 → signed_word n ≡ to_z w32 n
unfolding signed_word
as_cast n h =
    by_order n 2147483648
    (λ l. simp (lt-ltb n 2147483648 l))
    (λ l. simp (le-ltb n 2147483648 l, lt-ltb n 4294967296 h))

pub returns : goal.returns
returns c =
    let a = c.args.a in
    let b = c.args.b in
    let fits : SFits w32 c.cast_signed.result = record { sfits = c.cast_signed.type_inv } in
    let e = word-up (pos a -ℤ pos b) (a + (4294967296 - b)) (up a b (omega arith)) in
    to_z-of_z fits ∙ c.cast_signed.ensures ∙ sym (ap signed_word e ∙ as_cast _ (mod-lt _ (omega arith)))
