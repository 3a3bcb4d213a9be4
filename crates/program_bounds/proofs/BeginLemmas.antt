-- The ranges that an acknowledgement begins with.
use Rattle.std.proofs.Common.{◌≡◌, ℕ, ◌-◌, ◌^◌, ◌<◌, Option, Some, None, List, length, get_or, ap, sym, ◌∙◌, arith}
use Rattle.std.proofs.lemmas.List.{get_or-map}
use Rattle.portus_core.specs.declared.program.Decl.{Decl}
use Rattle.program_bounds.specs.Premises.{IsStart, declared_values}
use Rattle.value_ranges.specs.declared.range.Range.{Range}
use Rattle.value_ranges.specs.Ranges.{IsIn}
use Rattle.range_cases.proofs.RangeLemmas.{AreIn_read}
use Rattle.range_cases.proofs.BlockLemmas.{AreIn_nothing}

pub micros_begin : (now zero : ℕ) (times range : Range) → IsIn times now → range.lo ≡ 0 → range.hi ≡ times.hi → IsIn range (now - zero)
micros_begin now zero times range is low high = record { above = omega (arith, low); below = omega (arith, high, is.below) }

pub ruleset begins = (AreIn_nothing, micros_begin, AreIn_read)

-- a declared value is in the range of this one value
pub start_declared : (found : Option Range) (declared : Range) (d n : ℕ) → declared.lo ≡ d → declared.hi ≡ d → IsStart found (λ value. value ≡ d) n → IsStart found (λ value. IsIn declared value) n
start_declared (Some range) declared d n low high start = start
start_declared None declared d n low high start = record { above = omega (arith, low, start); below = omega (arith, high, start) }

pub declared_at : (decls : List Decl) (i : ℕ) (decl : Decl) → i < length decls → decl ≡ get_or decls i decl → decl.start ≡ get_or (declared_values decls) i 0
declared_at decls i decl within at = ap (λ (d : Decl). d.start) at ∙ sym (get_or-map (λ (d : Decl). d.start) decls i decl 0 within)

pub start_any : (found : Option Range) (full : Range) (n : ℕ) → full.lo ≡ 0 → full.hi ≡ 2 ^ 64 - 1 → IsStart found (λ value. value < 2 ^ 64) n → IsStart found (λ value. IsIn full value) n
start_any (Some range) full n low high start = start
start_any None full n low high start = record { above = omega (arith, low); below = omega (arith, high, start) }

pub ruleset starts = (start_any, start_declared)
