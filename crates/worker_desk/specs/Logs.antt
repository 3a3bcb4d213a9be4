-- What calls do to the list of what was done at a desk, if the desk keeps one.
use Rattle.std.specs.Prelude.{◌≡◌, Option, option_map, List, ◌++◌}
use Rattle.worker_desk.specs.declared.event.Event.{Event}

-- what was done at a desk, if it keeps that
abbrev pub KnownLog : Type 0
KnownLog = Option (List Event)

-- these events were put at the end of what was done
abbrev pub Logs : {E : Type 0} → Option (List E) → Option (List E) → List E → Type 0
Logs old new events = new ≡ option_map (λ done. done ++ events) old
