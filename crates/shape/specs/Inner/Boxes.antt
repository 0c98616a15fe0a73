-- A shape within the limits, as facts about numbers.
use Rattle.std.specs.Prelude.{◌≤◌}
use Rattle.shape.specs.declared.Shape.{Shape}

pub record Boxed (s : Shape) : Type 0 where
  pub degree_most : s.m ≤ 9
  pub least1 : 1 ≤ s.w1
  pub least2 : 1 ≤ s.w2
  pub least3 : 1 ≤ s.w3
  pub most1 : s.w1 ≤ 91
  pub most2 : s.w2 ≤ 91
  pub most3 : s.w3 ≤ 91
