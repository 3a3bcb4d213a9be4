-- What each worker of a campaign is given.
use Rattle.std.specs.Prelude.{◌≡◌, ℕ, ◌<◌, ◌≤◌, List, length}
use Rattle.ccp_base.specs.Limits.{most_cases}
use Rattle.ccp_base.specs.declared.workers.Workers.{Workers}
use Rattle.flow_core.specs.declared.case.Case.{Case}

-- it is one of these workers on these cases, which are the campaign's
abbrev pub HasPart : ℕ → Workers → List Case → List Case → Type 0
HasPart worker workers cases campaign =
    (worker < workers.count) × (length cases ≤ most_cases) × (cases ≡ campaign)
