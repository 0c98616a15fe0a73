-- Laws of what a list of steps leaves.
use mathlib.Core.List.{List, [], ◌++◌, ◌∷◌, append-nil}
use mathlib.Core.Path.{◌≡◌, refl, subst, sym}
use lib.Seq.{append_snoc}
use Rattle.sums.specs.Steps.{after}

module _ {A S : Type 0} (step : A → S → S) where
  -- a list and then another: the second from what the first leaves
  pub after-append : (first second : List A) (s : S)
      → after step (first ++ second) s ≡ after step second (after step first s)
  unfolding after
  after-append [] second s = refl
  after-append (a ∷ first) second s = after-append first second (step a s)

  -- what holds of no steps and the start, and with each step more of the steps so far and what they leave,
  -- holds of every list and what it leaves
  pub after_holds : (P : List A → S → Type 0) (s : S) → P [] s
      → ((done : List A) (t : S) (a : A) → P done t → P (done ++ (a ∷ [])) (step a t))
      → (steps : List A) → P steps (after step steps s)
  unfolding after
  after_holds P s start next steps = on [] s start steps
    where
      on : (done : List A) (t : S) → P done t → (rest : List A) → P (done ++ rest) (after step rest t)
      on done t h [] = subst (λ (l : List A). P l t) (sym (append-nil done)) h
      on done t h (a ∷ rest) =
          subst (λ (l : List A). P l (after step rest (step a t))) (append_snoc done a rest)
          (on (done ++ (a ∷ [])) (step a t) (next done t a h) rest)

  -- so what holds at the start and is kept by each step holds after every list of steps
  pub after-keeps : (P : S → Type 0) (s : S) → P s → ((t : S) (a : A) → P t → P (step a t))
      → (steps : List A) → P (after step steps s)
  after-keeps P s start next steps = after_holds (λ done t. P t) s start (λ done t a h. next t a h) steps
