-- Which programs aren't compiled.
use Rattle.std.specs.Prelude.{ℕ, ◌^◌, ◌-◌, min, nat_lt, if◌then◌else◌, Option, Some, None, option_map}
use Rattle.std.specs.Option.{option_or}
use Rattle.ccp_base.specs.Limits.{most_instrs}
use Rattle.portus_core.specs.Programs.{Form}
use Rattle.reg_compiler.specs.declared.fault.CompileFault.{CompileFault}
use Rattle.reg_compiler.specs.declared.fault.CompileFault.TheVariants.{TooDeep, CodeTooLong}
use Rattle.reg_compiler.specs.Needs.{deep_form}
use Rattle.reg_compiler.specs.Counts.{form_count}

-- the count that is shown_count, at most the largest number of 64 bits
abbrev pub shown_count : ℕ → ℕ
shown_count count = min count (2 ^ 64 - 1)

abbrev pub too_long : ℕ → Option CompileFault
too_long count = if nat_lt most_instrs count then Some (CodeTooLong (shown_count count)) else None

-- the first expression that needs too many temporaries, or else a count above the instructions of a code
abbrev pub refusal_of : Form → Option CompileFault
refusal_of form = option_or (option_map TooDeep (deep_form form)) (too_long (form_count form))
