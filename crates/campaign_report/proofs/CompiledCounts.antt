-- The need and the count of a program that is compiled.
use Rattle.std.proofs.Common.{◌≡◌, ◌≤◌, ℕ, Bool, true, false, nat_lt, if◌then◌else◌, Option, Some, None, arith, refl}
use Rattle.std.proofs.lemmas.Bool.Decides.{nat_tests}
use Rattle.std.specs.Option.{option_or}
use Rattle.std.specs.Prelude.{option_map}
use Rattle.ccp_base.specs.declared.place.Place.{Place}
use Rattle.portus_core.specs.Programs.{Form}
use Rattle.reg_compiler.specs.declared.fault.CompileFault.{CompileFault}
use Rattle.reg_compiler.specs.declared.fault.CompileFault.TheVariants.{TooDeep, CodeTooLong}
use Rattle.reg_compiler.specs.Counts.{form_count}
use Rattle.reg_compiler.specs.Needs.{deep_form, form_need}
use Rattle.reg_compiler.specs.Refusal.{refusal_of, shown_count, too_long}
use Rattle.reg_compiler.proofs.FittingNeeds.{fits-form}

neither : (place : Option Place) (long : Option CompileFault) → option_or (option_map TooDeep place) long ≡ None → (place ≡ None) × (long ≡ None)
neither None long e = (refl, e)
neither (Some place) long e = cc

within : (count : ℕ) → too_long count ≡ None → count ≤ 256
within count e = go (nat_lt 256 count) refl e
  where
    go : (long : Bool) → nat_lt 256 count ≡ long → (if long then Some (CodeTooLong (shown_count count)) else None) ≡ None → count ≤ 256
    go true is none = cc
    go false is none = grind (arith, nat_tests)

pub need_is_small : (form : Form) → refusal_of form ≡ None → form_need form ≤ 8
need_is_small form e = fits-form form (neither (deep_form form) (too_long (form_count form)) e).0

pub count_is_small : (form : Form) → refusal_of form ≡ None → form_count form ≤ 256
count_is_small form e = within (form_count form) (neither (deep_form form) (too_long (form_count form)) e).1
