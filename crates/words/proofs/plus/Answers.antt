-- The bits of a negative change are 2^32 more than it.
use mathlib.Core.Path.{◌∙◌, ◌≡◌, ap, refl, sym}
use Prim.Native.Nat.{◌%◌, ◌+◌, ℕ}
use native.Mathlib.Omega.{arith}
use lib.IntN.{◌+ℤ◌, negsuc, pos, ℤ}
use mir.Facts.{to_z-of_z}
use mir.Syntax.{w32}
use mir.Val.{SFits, of_z}
use Rattle.sums.proofs.Signed.{is-add, is_pos, own, same}
use Rattle.sums.proofs.Words.{word-up}
use Rattle.sums.specs.Word.{word}
use Rattle.words.proofs.plus.Goals as goal

bits_of : (a : ℕ) (b : ℤ) → SFits w32 b → (a + of_z w32 b) % 4294967296 ≡ word (pos a +ℤ b)
unfolding word
bits_of a (pos n) h = refl
bits_of a (negsuc n) h =
    let up = is-add (is-add (is_pos a) (own (negsuc n))) (is_pos 4294967296) in
    sym (word-up (pos a +ℤ negsuc n) _ (same up (is_pos _) (omega (arith, h.sfits))))

pub returns : goal.returns
returns c =
    c.wrapping_add_signed.ensures
    ∙ ap (λ (z : ℤ). (c.args.a + of_z w32 z) % 4294967296) (to_z-of_z c.ranges.b)
    ∙ bits_of c.args.a c.args.b c.ranges.b
