-- The checks of one entry: Section 8.3.
use Rattle.std.specs.Prelude.{Err, cond, ltb, ℕ, ℤ}
use Rattle.std.specs.Int.Bits.{bit_and}
use Rattle.unit.specs.Gaps.{is_gap, uncertain_gap}
use Rattle.checks.specs.Checks.{Checked, no_refusal}
use Rattle.checks.specs.declared.Refusal.TheVariants.{LargeUncertainty, UncertainGap}

-- Section 8.3: 8, on entry i alone
abbrev pub limit_at : ℕ → ℕ → Checked
limit_at i uncertainty = cond (ltb 32767 uncertainty) (Err (LargeUncertainty i)) no_refusal

-- Section 8.3: 16, on entry i alone
abbrev pub gap_at : ℕ → ℤ → ℕ → Checked
gap_at i correction uncertainty =
    cond (uncertain_gap correction uncertainty) (Err (UncertainGap i)) no_refusal

-- the bits of an uncertainty that 8 and 16 forbid: of a gap all 16, else the highest
abbrev pub forbidden : ℤ → ℕ
forbidden correction = cond (is_gap correction) 65535 32768

-- those that are set: none exactly where neither applies
abbrev pub fault_of : ℤ → ℕ → ℕ
fault_of correction uncertainty = bit_and (forbidden correction) uncertainty
