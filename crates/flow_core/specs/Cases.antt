-- What holds of a case's programs.
use Rattle.std.specs.Prelude.{◌≡◌, ◌<◌, length}
use Rattle.std.specs.Option.{ForSome}
use Rattle.ccp_base.specs.declared.look.Look.{Look}
use Rattle.reg_code.specs.declared.code.Code.{Code}
use Rattle.flow_core.specs.declared.case.Coded.{Coded}

-- what an agent reads and writes are registers of the code
abbrev pub KeepsWithin : Look → Code → Type 0
KeepsWithin look code =
    ForSome look.acked (λ n. n < length code.reports)
    × ForSome look.loss (λ n. n < length code.reports)
    × ForSome look.timeout (λ n. n < length code.reports)
    × ForSome look.rtt (λ n. n < length code.reports)
    × ForSome look.inflight (λ n. n < length code.reports)
    × ForSome look.ecn (λ n. n < length code.reports)
    × ForSome look.cap (λ n. n < length code.controls)
    × ForSome look.mss (λ n. n < length code.controls)

-- if both programs have one number, they keep all at one place and have one code
abbrev pub AreOne : Coded → Coded → Type 0
AreOne ss ca = ss.role.number ≡ ca.role.number → (ss.role.look ≡ ca.role.look) × (ss.code.code ≡ ca.code.code)
